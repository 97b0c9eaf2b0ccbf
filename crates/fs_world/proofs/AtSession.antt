-- What happened at a session, in the world.
use Rattle.std.proofs.Common.{◌≡◌, ◌≤◌, ℕ, false, List, refl, ap, sym, ◌∙◌, subst}
use Rattle.std.specs.Prelude.{Option, Some, None, Result, Ok, Err, IfOk, OnOk, OnErr, is_some}
use Rattle.std.specs.FinMap.{get, insert}
use Rattle.fs_ident.specs.declared.actor.Peer.TheVariants.{Client, Server}
use Rattle.fs_ident.specs.declared.actor.Session.{Session}
use Rattle.fs_ident.specs.declared.limits.TheConstants.{SESSIONS}
use Rattle.fs_window.specs.declared.packet.Packet.{Packet}
use Rattle.fs_world.specs.Planned.{WasSent}
use Rattle.fs_msg.specs.declared.core_error.CoreError.{CoreError}
use Rattle.fs_msg.specs.declared.item.Item.{Item}
use Rattle.fs_schedule.specs.declared.outcome.Outcome.{Outcome}
use Rattle.fs_world.specs.Calls.{session_found, session_left, world_left}
use Rattle.fs_world.specs.Linked.{IsLinked}
use Rattle.fs_world.specs.Packets.{Packets}
use Rattle.fs_world.specs.Served.{SessionStepped, SessionStates, Stepped, first_session_state, join_at, client_receive_packet_at}
use Rattle.fs_world.specs.Served.{with_session}
use Rattle.fs_world.specs.declared.servers.session_state.SessionState.{SessionState}
use Rattle.fs_world.specs.declared.servers.world.Served.{Served}
use Rattle.fs_world.proofs.Linked.{join_linked, receive_packet_state_linked}
use Rattle.fs_ident.proofs.NumberedMaps.{put_same}

-- the world with what stands at the session
abbrev pub with_state : Served → Session → SessionState → List Item → Packets → Served
with_state w s state journal packets = record w { sessions = insert w.sessions s.0 state; journal = journal; packets = packets }

-- what an event leaves at a session, in the world
pub with_state_at : (r : Result Outcome CoreError) (w : Served) (s : Session) (state : SessionState) (journal : List Item)
    (packets : Packets) (x : SessionStepped)
    → IfOk r (λ outcome. session_left outcome state journal packets ≡ x)
    → IfOk r (λ outcome. world_left outcome (with_state w s state journal packets) ≡ with_session s x w)
with_state_at (Ok o) w s state journal packets x e = ap (λ (y : SessionStepped). with_session s y w) e
with_state_at (Err o) w s state journal packets x e = tt

-- where the call found all of it and left it so, the world is as it was
pub with_state_back : (r : Result Outcome CoreError) (w : Served) (s : Session) (old new : SessionState) (journal : List Item)
    (packets : Packets)
    → Some old ≡ get w.sessions s.0 → OnErr r (session_found new journal packets ≡ session_found old w.journal w.packets)
    → OnErr r (with_state w s new journal packets ≡ w)
with_state_back (Ok o) w s old new journal packets at e = tt
with_state_back (Err o) w s old new journal packets at e =
    ap (λ (x : SessionStepped). with_state w s x.state x.journal x.packets) e
    ∙ ap (λ (m : SessionStates). let v : Served = record w { sessions = m } in v) (put_same w.sessions s.0 old old (sym at) refl)

-- what the event came to
pub outcome_then : (r : Result Outcome CoreError) (new : Served) (x : Stepped) → IfOk r (λ outcome. world_left outcome new ≡ x)
    → IfOk r (λ outcome. outcome ≡ x.outcome)
outcome_then (Ok o) new x e = ap (λ (y : Stepped). y.outcome) e
outcome_then (Err e) new x is = tt

-- after an event that was carried out, where it would hold of what the event comes to
pub linked_after : (r : Result Outcome CoreError) (new : Served) (x : Stepped) (Fits : Type 0) → (Fits → x.spent ≡ None → IsLinked x.world)
    → IfOk r (λ outcome. world_left outcome new ≡ x) → OnOk r Fits → OnOk r (IsLinked new)
linked_after (Ok o) new x Fits keeps is fits =
    subst IsLinked (sym (ap (λ (y : Stepped). y.world) is)) (keeps fits (sym (ap (λ (y : Stepped). y.spent) is)))
linked_after (Err e) new x Fits keeps is fits = tt

pub linked_then : (r : Result Outcome CoreError) (new : Served) (x : Stepped) → IsLinked x.world
    → IfOk r (λ outcome. world_left outcome new ≡ x) → OnOk r (IsLinked new)
linked_then (Ok o) new x h is = subst IsLinked (sym (ap (λ (y : Stepped). y.world) is)) h
linked_then (Err e) new x h is = tt

-- it has not joined
pub none_there : (o : Option SessionState) → false ≡ is_some o → o ≡ None
none_there None h = refl
none_there (Some state) h = absurd (cc)

pub joined_after : (w : Served) (s : Session) (state : SessionState) (sessions : SessionStates) → get w.sessions s.0 ≡ None
    → state ≡ first_session_state w.term s → sessions ≡ insert w.sessions s.0 state → 1 ≤ s.0 → s.0 ≤ SESSIONS → IsLinked w
    → IsLinked (record w { sessions = sessions })
joined_after w s state sessions none is there first few h =
    let joined : IsLinked (join_at None s w).world =
    subst (λ (o : Option SessionState). IsLinked (join_at o s w).world) none (join_linked w s first few h) in
    subst (λ (m : SessionStates). IsLinked (record w { sessions = m })) (sym (there ∙ ap (insert w.sessions s.0) is)) joined

-- a packet of a server comes to a session, if it has joined
pub receive_packet_linked : (w : Served) (s : Session) (now k : ℕ) (p : Packet) → WasSent (Server k) (Client s) (Some p) w.packets.sent
    → IsLinked w → IsLinked (client_receive_packet_at (get w.sessions s.0) now s k p w).world
receive_packet_linked w s now k p x h = go (get w.sessions s.0) refl
  where
    go : (o : Option SessionState) → get w.sessions s.0 ≡ o → IsLinked (client_receive_packet_at o now s k p w).world
    go None e = h
    go (Some state) e = receive_packet_state_linked w s state now k p e x h
