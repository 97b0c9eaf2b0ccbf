-- Within the limits every event keeps what holds of the links, so that they carry what was sent along every run from a first world.
use Rattle.std.proofs.Common.{◌≡◌, ℕ, Bool, true, false, List, [], ◌∷◌, length, Option, Some, None, refl, sym, ap, subst, ◌∙◌}
use Rattle.std.specs.Prelude.{Result, Ok, Err, IfOk, OnOk, if◌then◌else◌, slice_get}
use Rattle.std.specs.FinMap.{get}
use Rattle.fs_ident.specs.declared.actor.Peer.{Peer}
use Rattle.fs_ident.specs.declared.actor.Peer.TheVariants.{Server, Client}
use Rattle.fs_ident.specs.declared.actor.Session.{Session}
use Rattle.fs_ident.proofs.Standing.{In-got}
use Rattle.fs_window.specs.Post.{Links, post_accepted}
use Rattle.fs_window.specs.Reading.{packet_at}
use Rattle.fs_window.specs.declared.heard.Heard.{Heard}
use Rattle.fs_window.specs.declared.packet.Packet.{Packet}
use Rattle.fs_window.specs.declared.sent.Sent.{Sent}
use Rattle.fs_model.specs.declared.op.Op.{Op}
use Rattle.fs_msg.specs.declared.core_error.CoreError.{CoreError}
use Rattle.fs_msg.specs.declared.core_error.Counter.TheVariants.{Entries}
use Rattle.fs_actor.specs.Actor.{is_full_down, is_full_up}
use Rattle.fs_actor.specs.Hearing.{heard_in}
use Rattle.fs_actor.specs.Several.{server_begins}
use Rattle.fs_client.specs.Acts.{act_plan, is_act_spent}
use Rattle.fs_client.specs.Turns.{turn_plan}
use Rattle.fs_schedule.specs.declared.event.Event.{Event}
use Rattle.fs_schedule.specs.declared.event.Head.{Head}
use Rattle.fs_schedule.specs.declared.event.Head.TheVariants as head
use Rattle.fs_schedule.specs.declared.event.What.{What}
use Rattle.fs_schedule.specs.declared.event.What.TheVariants.{Join, Do, Tell, Turn, Recall, Move}
use Rattle.fs_schedule.specs.declared.outcome.Outcome.{Outcome}
use Rattle.fs_schedule.specs.Spelling.{FitsHead}
use Rattle.fs_serial.specs.World.{is_called}
use Rattle.fs_server.specs.Step.{spent_by, step}
use Rattle.fs_server.specs.declared.event.ServerEvent.{ServerEvent}
use Rattle.fs_server.specs.declared.event.ServerEvent.TheVariants.{Turn as TheTurn, Recall as TheRecall, Move as TheMove}
use Rattle.fs_server.specs.declared.state.Server.{Server as Core}
use Rattle.fs_world.specs.Calls.{server_hears, world_left}
use Rattle.fs_world.specs.Carried.{AllCarry}
use Rattle.fs_world.specs.Direct.{first_direct}
use Rattle.fs_world.specs.Direct as direct
use Rattle.fs_world.specs.Linked.{FitsDown, IsLinked}
use Rattle.fs_world.specs.Packets.{first_undelivered}
use Rattle.fs_world.specs.Planned.{IsAnswered, IsOwn, WasSent}
use Rattle.fs_world.specs.Served.{Stepped, arrives, at_server, client_acts, client_turns, comes, core_step, do_at, first_served}
use Rattle.fs_world.specs.Served.{flying_without_each, sessions_without_each, server_step, server_step_at, server_receive_packet_at}
use Rattle.fs_world.specs.Served.{step_of, tell_at, turn_at, with_session, with_server}
use Rattle.fs_world.specs.Within.{AllInRange, AllWithin, IsWithinLimits}
use Rattle.fs_world.specs.World.{FitsServed, first_world}
use Rattle.fs_world.specs.declared.direct.world.Direct.{Direct as TheDirect}
use Rattle.fs_world.specs.declared.form.Form.TheVariants.{Direct, Served}
use Rattle.fs_world.specs.declared.servers.session_state.SessionState.{SessionState}
use Rattle.fs_world.specs.declared.servers.world.Served.{Served as TheServed}
use Rattle.fs_world.proofs.AtSession.{receive_packet_linked}
use Rattle.fs_world.proofs.Spending.{has_room}
use Rattle.fs_world.proofs.AtServer.{step_there, receive_packet_server_at}
use Rattle.fs_world.proofs.Carrying.{linked_carries}
use Rattle.fs_world.proofs.InRange.{down_written, linked_in_range, up_written}
use Rattle.fs_world.proofs.Linked.{act_linked, first_linked, join_linked, mark_linked, server_linked, server_receive_first, turn_linked}
use Rattle.fs_world.proofs.LinkedCore.{own_brought, receive_packet_server_brought}
use Rattle.fs_world.proofs.LinkedFirst.{readable_in}
use Rattle.fs_world.proofs.LinkedLists.{within}
use Rattle.fs_world.proofs.LinkedStates.{got_here}
use Rattle.fs_world.proofs.NamedServers.{AreSent, IsBrought, step_goes}
use Rattle.fs_world.proofs.ServerBrings.{AreBrought, all_sent, still_joined}
use Rattle.fs_world.proofs.ServerEach.{AreEvents, each_sends, run_in, sends_so, spent_so}
use Rattle.fs_world.proofs.ServerNext.{events_in}

-- ## A client's events

act_within : (w : TheServed) (s : Session) (now : ℕ) (o : Op) (x : Option SessionState) → get w.sessions s.0 ≡ x → is_called o ≡ true
    → IsLinked w → (do_at x now s o w).spent ≡ None → AllInRange (do_at x now s o w).world → IsLinked (do_at x now s o w).world
act_within w s now o None at called h unspent r = h
act_within w s now o (Some state) at called h unspent r =
    let send = (act_plan state.client now o).out.send in
    let next = (client_acts now s o state w.journal w.packets).state in
    act_linked w s state now o at called
    (up_written (with_session s (client_acts now s o state w.journal w.packets) w).world s next send state.up
    (got_here w.sessions s next) refl r)
    (has_room (if is_act_spent state.client now o then Some Entries else None) (is_full_up send state.post) unspent) h

turn_within : (w : TheServed) (s : Session) (now : ℕ) (x : Option SessionState) → get w.sessions s.0 ≡ x → IsLinked w
    → (turn_at x now s w).spent ≡ None → AllInRange (turn_at x now s w).world → IsLinked (turn_at x now s w).world
turn_within w s now None at h unspent r = h
turn_within w s now (Some state) at h unspent r =
    let send = (turn_plan state.client now).out.send in
    let next = (client_turns now s state w.journal w.packets).state in
    turn_linked w s state now at
    (up_written (with_session s (client_turns now s state w.journal w.packets) w).world s next send state.up
    (got_here w.sessions s next) refl r)
    (has_room None (is_full_up send state.post) unspent) h

-- ## A server's events

-- what the step of a server sends
sends : (w : TheServed) (k : ℕ) (c : Core) (now : ℕ) (e : ServerEvent) → slice_get w.servers k ≡ Some c
    → IsBrought (length w.servers) w.sessions k e → IsLinked w → AreSent (length w.servers) w.sessions k (step c now e).out.send
sends w k c now e at brought h =
    (step_goes (length w.servers) w.sessions k (within w.servers k c at) (readable_in (length w.servers) w.sessions h.sessions) c now e
    brought (h.servers k c at)).sends

own_within : (w : TheServed) (k : ℕ) (turn : Bool) (now : ℕ) (e : ServerEvent) → IsOwn (length w.servers) e → IsLinked w
    → (server_step k turn now e w).spent ≡ None → AllInRange (server_step k turn now e w).world
    → IsLinked (server_step k turn now e w).world
own_within w k turn now e own h = go (slice_get w.servers k) (slice_get w.posts k) refl refl
  where
    go : (a : Option Core) (b : Option Links) → slice_get w.servers k ≡ a → slice_get w.posts k ≡ b
        → (server_step_at a b k turn now e w).spent ≡ None → AllInRange (server_step_at a b k turn now e w).world
        → IsLinked (server_step_at a b k turn now e w).world
    go None b at tied unspent r = h
    go (Some c) None at tied unspent r = h
    go (Some c) (Some post) at tied unspent r =
        let send = (step c now e).out.send in
        let brought = own_brought (length w.servers) w.sessions k e own in
        subst (λ (x : Stepped). IsLinked x.world) (step_there w k turn now e c post at tied)
        (server_linked w k c post turn now e at tied own
        (down_written (length w.servers) w.sessions w.sessions k send w.in_flight
        (with_server k (core_step k turn None now e (at_server c post w)) w).world (sends w k c now e at brought h) (λ t j. j) refl
        refl r)
        (has_room (spent_by c now e) (is_full_down send post) unspent) h)

-- ## A packet comes to a server

-- nothing is spent, and all that is on its way then is in range
abbrev IsFineStep : Stepped → Type 0
IsFineStep y = (y.spent ≡ None) × AllInRange y.world

-- what the server sends at all that a packet joins was written down, and there was room for it
answers_within : (w : TheServed) (k now : ℕ) (c : Core) (from : Peer) (replied : Option Peer) (x : Heard) (links : Links)
    (es : List ServerEvent) → slice_get w.servers k ≡ Some c → AreEvents from x.joined es → AreBrought (length w.servers) w.sessions k es
    → IsLinked w
    → IsFineStep (with_server k (server_hears now k from replied x (at_server c links w)) w)
    → IsAnswered now from x.joined (at_server c links w)
answers_within w k now c from replied x links es at of brought h fine =
    let n = length w.servers in
    let y = at_server c links w in
    let run = run_in now from x x.joined y in
    let sent =
    all_sent n w.sessions k (within w.servers k c at) (readable_in n w.sessions h.sessions) now es c brought (h.servers k c at) in
    let all : AreSent n w.sessions k run.send =
    subst (AreSent n w.sessions k) (sym (sends_so now from x y ∙ each_sends now from x.joined es (server_begins c links []) of)) sent in
    let world = (with_server k (server_hears now k from replied x y) w).world in
    let written : FitsDown run.send = down_written n w.sessions (sessions_without_each k from x.joined w.sessions) k run.send
    (flying_without_each k from x.joined w.in_flight) world all (still_joined k from x.joined w.sessions) refl refl fine.1 in
    (subst FitsDown (sends_so now from x y) written, sym (spent_so now from x y) ∙ fine.0)

told_within : (w : TheServed) (k now : ℕ) (from : Peer) (p : Packet) → WasSent from (Server k) (Some p) w.packets.sent → IsLinked w
    → (server_receive_packet_at (slice_get w.servers k) (slice_get w.posts k) now k from p w).spent ≡ None
    → AllInRange (server_receive_packet_at (slice_get w.servers k) (slice_get w.posts k) now k from p w).world
    → IsLinked (server_receive_packet_at (slice_get w.servers k) (slice_get w.posts k) now k from p w).world
told_within w k now from p x h unspent r = receive_packet_server_at w k now from p x answered h
  where
    fine_at : (a : Option Core) (b : Option Links) → slice_get w.servers k ≡ a → slice_get w.posts k ≡ b
        → IsFineStep (server_receive_packet_at a b now k from p w)
    fine_at a b e f =
        subst (λ (b : Option Links). IsFineStep (server_receive_packet_at a b now k from p w)) f
        (subst (λ (a : Option Core). IsFineStep (server_receive_packet_at a (slice_get w.posts k) now k from p w)) e (unspent, r))

    answered : (s : Core) (post : Links) → slice_get w.servers k ≡ Some s → slice_get w.posts k ≡ Some post
        → IsAnswered now from (post_accepted post from p).heard.joined (at_server s (post_accepted post from p).links w)
    answered s post e f =
        let a = post_accepted post from p in
        let es = events_in w k from a.heard.joined (server_receive_first w k post from p f x h) in
        answers_within w k now s from (heard_in from p) a.heard a.links es.0 e es.1
        (receive_packet_server_brought w k post from p es.0 x h es.2) h (fine_at (Some s) (Some post) e f)

-- ## A packet is outcome

comes_within : (w : TheServed) (now : ℕ) (from to : Peer) (p : Packet) → WasSent from to (Some p) w.packets.sent → IsLinked w
    → (comes now from to p w).spent ≡ None → AllInRange (comes now from to p w).world → IsLinked (comes now from to p w).world
comes_within w now from (Server k) p x h unspent r = told_within w k now from p x h unspent r
comes_within w now (Server k) (Client s) p x h unspent r = receive_packet_linked w s now k p x h
comes_within w now (Client t) (Client s) p x h unspent r = h

arrives_within : (w : TheServed) (now : ℕ) (from to : Peer) (p : Option Packet) → WasSent from to p w.packets.sent → IsLinked w
    → (arrives now from to p w).spent ≡ None → AllInRange (arrives now from to p w).world → IsLinked (arrives now from to p w).world
arrives_within w now from to None x h unspent r = h
arrives_within w now from to (Some p) x h unspent r = comes_within w now from to p x h unspent r

tell_within : (w : TheServed) (now k : ℕ) (o : Option Sent) → slice_get w.packets.sent k ≡ o → IsLinked w
    → (tell_at o now k w).spent ≡ None → AllInRange (tell_at o now k w).world → IsLinked (tell_at o now k w).world
tell_within w now k None at h unspent r = h
tell_within w now k (Some x) at h unspent r =
    let sent : WasSent x.from x.to (packet_at x.bytes) w.packets.sent = record {
      sent = x;
      among = In-got w.packets.sent k x at;
      sender =
          refl;
      addressee = refl;
      read = refl;
    } in
    mark_linked (arrives now x.from x.to (packet_at x.bytes) w).world k
    (arrives_within w now x.from x.to (packet_at x.bytes) sent h unspent (record { up = r.up; down = r.down; in_flight = r.in_flight }))

-- ## Every event

pub step_within : (w : TheServed) (now : ℕ) (what : What) → IsLinked w → FitsServed (length w.servers) what
    → (step_of w now what).spent ≡ None → AllInRange (step_of w now what).world → IsLinked (step_of w now what).world
step_within w now (Join s) h fits unspent r = join_linked w s fits.0 fits.1 h
step_within w now (Do s o) h fits unspent r = act_within w s now o (get w.sessions s.0) refl fits h unspent r
step_within w now (Tell None) h fits unspent r = tell_within w now (first_undelivered w.packets.delivered)
    (slice_get w.packets.sent (first_undelivered w.packets.delivered)) refl h unspent r
step_within w now (Tell (Some k)) h fits unspent r = tell_within w now k (slice_get w.packets.sent k) refl h unspent r
step_within w now (Turn (Client s)) h fits unspent r = turn_within w s now (get w.sessions s.0) refl h unspent r
step_within w now (Turn (Server k)) h fits unspent r = own_within w k true now TheTurn tt h unspent r
step_within w now (Recall k field) h fits unspent r = own_within w k false now (TheRecall field) tt h unspent r
step_within w now (Move k prefix to) h fits unspent r = own_within w k false now (TheMove prefix to) fits.1 h unspent r

-- ## All events

carried_from : (es : List Event) (w : TheServed) → IsLinked w → AllWithin (Served w) es → AllCarry (Served w) es
carried_from [] w h q = tt
carried_from (e ∷ es) w h q = (
  linked_carries w h,
  carried_from es (step_of w e.reading e.what).world
      (step_within w e.reading e.what h q.0.fits q.0.unspent q.0.messages) q.1,
)

-- in the direct form nothing is sent
pub nothing_carried : (w : TheDirect) (es : List Event) → AllCarry (Direct w) es
nothing_carried w [] = tt
nothing_carried w (e ∷ es) = (tt, nothing_carried (direct.step_of w e.what).world es)

pub all_carry : (h : Head) (es : List Event) → FitsHead h → AllWithin (first_world h) es → AllCarry (first_world h) es
all_carry head.Direct es fits q = nothing_carried first_direct es
all_carry (head.Servers servers skew term) es fits q =
    carried_from es (first_served servers skew term) (first_linked servers skew term fits.0 fits.1) q

-- ## What the world's call does

-- an event that was carried out was within the limits
pub was_within : (r : Result Outcome CoreError) (new w : TheServed) (e : Event) → FitsServed (length w.servers) e.what
    → IfOk r (λ outcome. world_left outcome new ≡ step_of w e.reading e.what) → OnOk r (IsLinked new) → OnOk r (IsWithinLimits w e)
was_within (Ok o) new w e fits is h = record {
  fits = fits;
  unspent = sym (ap (λ (x : Stepped). x.spent) is);
  messages = subst AllInRange (ap (λ (x : Stepped). x.world) is) (linked_in_range new h);
}
was_within (Err o) new w e fits is h = tt
