-- The messages that a server hears are the next ones on their way to it, and what it sends meanwhile does not stand in their way.
use Rattle.std.proofs.Common.{◌≡◌, ℕ, Bool, true, false, List, [], ◌∷◌, ◌++◌, map, filter, Option, Some, None, refl, sym, ap, subst, ◌∙◌}
use Rattle.std.specs.FinMap.{get, insert}
use Rattle.std.specs.List.{find}
use Rattle.fs_ident.specs.declared.actor.Peer.{Peer}
use Rattle.fs_ident.specs.declared.actor.Peer.TheVariants.{Server, Client}
use Rattle.fs_ident.specs.declared.actor.Session.{Session}
use Rattle.fs_frag.specs.declared.joined.Joined.{Joined}
use Rattle.fs_window.specs.Peers.{same_peer}
use Rattle.fs_window.proofs.Lists.{some_is}
use Rattle.fs_msg.specs.Ranges.{FitsMessage}
use Rattle.fs_msg.specs.declared.client_msg.ClientMsg.{ClientMsg}
use Rattle.fs_msg.specs.declared.msg.Msg.{Msg}
use Rattle.fs_msg.specs.declared.msg.Msg.TheVariants as msg
use Rattle.fs_serial.specs.Cluster.{in_flight_from, is_between, is_with, without_first}
use Rattle.fs_serial.specs.declared.in_flight.InFlight.{InFlight}
use Rattle.fs_server.specs.declared.event.ServerEvent.{ServerEvent}
use Rattle.fs_server.specs.declared.event.ServerEvent.TheVariants.{FromClient, FromPeer}
use Rattle.fs_world.specs.Carried.{AreFirstOf, between, flying_between, ups_of}
use Rattle.fs_world.specs.Served.{SessionStates, ServerStepped, flying_without, flying_without_each, sessions_without}
use Rattle.fs_world.specs.Served.{sessions_without_each, with_down, with_down_at, with_downs, without_joined, without_up}
use Rattle.fs_world.specs.declared.servers.session_state.SessionState.{SessionState}
use Rattle.fs_world.specs.declared.servers.world.Served.{Served}
use Rattle.fs_world.proofs.Heard.{first_flying, first_question}
use Rattle.fs_world.proofs.LinkedLists.{find_front, first_gone, later_first, without_front}
use Rattle.fs_world.proofs.LinkedStates.{got_here, got_there, session_is}
use Rattle.fs_world.proofs.Popped.{popped_then}
use Rattle.fs_world.proofs.ServerEach.{AreEvents, sent_at, taking}

-- the event brings the next message of the session to the server of number k
pub record IsQuestion (k : ℕ) (s : Session) (e : ServerEvent) (sessions : SessionStates) : Type 0 where
  pub state : SessionState
  pub there : get sessions s.0 ≡ Some state
  pub asked : ℕ × ClientMsg
  pub first : find (is_with k) state.up ≡ Some asked
  pub is : e ≡ FromClient s asked.1
  pub fits : FitsMessage (msg.Client asked.1)

-- or that of another server
pub record IsMessage (k i : ℕ) (e : ServerEvent) (in_flight : List InFlight) : Type 0 where
  pub flies : InFlight
  pub first : find (is_between i k) in_flight ≡ Some flies
  pub is : e ≡ FromPeer i flies.message

abbrev pub IsNext : ℕ → Peer → ServerEvent → SessionStates → List InFlight → Type 0
IsNext k (Client s) e sessions in_flight = IsQuestion k s e sessions
IsNext k (Server i) e sessions in_flight = IsMessage k i e in_flight

-- each of these, in order
abbrev pub AreNext : ℕ → Peer → List ServerEvent → SessionStates → List InFlight → Type 0
AreNext k from [] sessions in_flight = Unit {0}
AreNext k from (e ∷ es) sessions in_flight =
    IsNext k from e sessions in_flight × AreNext k from es (sessions_without k from sessions) (flying_without k from in_flight)

-- ## What a packet joins

questions_in : (k : ℕ) (s : Session) (js : List Joined) (sessions : SessionStates) (in_flight : List InFlight)
    → AreFirstOf js (ups_of k (get sessions s.0)) → (es : List ServerEvent) × AreEvents (Client s) js es × AreNext k (Client s) es sessions
    in_flight
questions_in k s [] sessions in_flight f = ([], tt, tt)
questions_in k s (j ∷ js) sessions in_flight f = at (get sessions s.0) refl f (λ m g. questions_in k s js m in_flight g)
  where
    at : (o : Option SessionState) → get sessions s.0 ≡ o → AreFirstOf (j ∷ js) (ups_of k o)
        → ((m : SessionStates) → AreFirstOf js (ups_of k (get m s.0))
        → (es : List ServerEvent) × AreEvents (Client s) js es × AreNext k (Client s) es m in_flight)
        → (es : List ServerEvent) × AreEvents (Client s) (j ∷ js) es × AreNext k (Client s) es sessions in_flight
    at None is f others = absurd f
    at (Some state) is f others =
        let first = first_question k s state j js f in
        let left : SessionState = record state { up = without_first (is_with k) state.up } in
        let behind_it : AreFirstOf js (ups_of k (Some left)) =
        subst (λ (ms : List (ℕ × ClientMsg)). AreFirstOf js (map (λ (m : ℕ × ClientMsg). msg.Client m.1) ms))
        (sym (first_gone (is_with k) state.up)) (later_first (λ (m : ℕ × ClientMsg). msg.Client m.1) j js (filter (is_with k) state.up)
        f) in
        let gone : get (sessions_without k (Client s) sessions) s.0 ≡ Some left =
        ap (λ (o : Option SessionState). get (without_up k o s.0 sessions) s.0) is ∙ got_here sessions s left in
        let rest = others (sessions_without k (Client s) sessions) (subst (λ (o : Option SessionState). AreFirstOf js (ups_of k o))
        (sym gone) behind_it) in (
          FromClient s first.0.1 ∷ rest.0,
          (first.2, rest.1),
          (
            record {
              state = state;
              there = is;
              asked = first.0;
              first = first.1;
              is =
                  refl;
              fits = first.3;
            },
            rest.2,
          ),
        )

messages_in : (k i : ℕ) (js : List Joined) (sessions : SessionStates) (in_flight : List InFlight)
    → AreFirstOf js (flying_between i k in_flight) → (es : List ServerEvent) × AreEvents (Server i) js es × AreNext k (Server i) es
    sessions in_flight
messages_in k i [] sessions in_flight f = ([], tt, tt)
messages_in k i (j ∷ js) sessions in_flight f =
    let first = first_flying k i in_flight j js f in
    let behind_it : AreFirstOf js (flying_between i k (without_first (is_between i k) in_flight)) =
    subst (λ (ms : List InFlight). AreFirstOf js (map (λ (x : InFlight). msg.Peer x.message) ms))
    (sym (first_gone (is_between i k) in_flight))
    (later_first (λ (x : InFlight). msg.Peer x.message) j js (filter (is_between i k) in_flight) f) in
    let rest = messages_in k i js sessions (without_first (is_between i k) in_flight) behind_it in
    (FromPeer i first.0.message ∷ rest.0, (first.2, rest.1), (record { flies = first.0; first = first.1; is = refl }, rest.2))

-- what comes first of the messages on their way is events, each the next one
pub events_in : (w : Served) (k : ℕ) (from : Peer) (js : List Joined) → AreFirstOf js (between w from (Server k))
    → (es : List ServerEvent) × AreEvents from js es × AreNext k from es w.sessions w.in_flight
events_in w k (Client s) js f = questions_in k s js w.sessions w.in_flight f
events_in w k (Server i) js f = messages_in k i js w.sessions w.in_flight f

-- as many go
pub sessions_alike : (k : ℕ) (from : Peer) (js : List Joined) (es : List ServerEvent) (sessions : SessionStates) → AreEvents from js es
    → sessions_without_each k from js sessions ≡ sessions_without_each k from es sessions
sessions_alike k from [] [] sessions h = refl
sessions_alike k from [] (e ∷ es) sessions h = absurd h
sessions_alike k from (j ∷ js) [] sessions h = absurd h
sessions_alike k from (j ∷ js) (e ∷ es) sessions h = sessions_alike k from js es (sessions_without k from sessions) h.1

pub flying_alike : (k : ℕ) (from : Peer) (js : List Joined) (es : List ServerEvent) (in_flight : List InFlight) → AreEvents from js es
    → flying_without_each k from js in_flight ≡ flying_without_each k from es in_flight
flying_alike k from [] [] in_flight h = refl
flying_alike k from [] (e ∷ es) in_flight h = absurd h
flying_alike k from (j ∷ js) [] in_flight h = absurd h
flying_alike k from (j ∷ js) (e ∷ es) in_flight h = flying_alike k from js es (flying_without k from in_flight) h.1

-- ## What is sent does not stand in the way

one_down : (k : ℕ) (x : Peer × Msg) (sessions : SessionStates) (s : Session) (state : SessionState) → get sessions s.0 ≡ Some state
    → (next : SessionState) × (get (with_down k x sessions) s.0 ≡ Some next) × (next.up ≡ state.up)
one_down k (Client t, msg.Answer a) sessions s state is = at (get sessions t.0) refl
  where
    at : (o : Option SessionState) → get sessions t.0 ≡ o
        → (next : SessionState) × (get (with_down_at o t.0 (k, a) sessions) s.0 ≡ Some next) × (next.up ≡ state.up)
    at None e = (state, is, refl)
    at (Some old) e = either (same_peer (Client s) (Client t)) refl
      where
        new : SessionState
        new = record old { down = old.down ++ (k, a) ∷ [] }

        either : (b : Bool) → same_peer (Client s) (Client t) ≡ b
            → (next : SessionState) × (get (insert sessions t.0 new) s.0 ≡ Some next) × (next.up ≡ state.up)
        either true q =
            let one : s ≡ t = session_is s t q in
            let same : old ≡ state = some_is old state (sym e ∙ ap (λ (z : Session). get sessions z.0) (sym one) ∙ is) in (
              new,
              ap (λ (z : Session). get (insert sessions t.0 new) z.0) one
                  ∙ got_here sessions t new,
              ap (λ (z : SessionState). z.up) same,
            )
        either false q = (state, got_there sessions t s new q ∙ is, refl)
one_down k (Client t, msg.Client m) sessions s state is = (state, is, refl)
one_down k (Client t, msg.Peer m) sessions s state is = (state, is, refl)
one_down k (Server to, m) sessions s state is = (state, is, refl)

all_down : (k : ℕ) (xs : List (Peer × Msg)) (sessions : SessionStates) (s : Session) (state : SessionState) → get sessions s.0 ≡ Some state
    → (next : SessionState) × (get (with_downs k xs sessions) s.0 ≡ Some next) × (next.up ≡ state.up)
all_down k [] sessions s state is = (state, is, refl)
all_down k (x ∷ xs) sessions s state is =
    let one = one_down k x sessions s state is in
    let rest = all_down k xs (with_down k x sessions) s one.0 one.1 in
    (rest.0, rest.1, rest.2 ∙ one.2)

one_still : (k : ℕ) (from : Peer) (e : ServerEvent) (xs : List (Peer × Msg)) (sessions : SessionStates) (in_flight more : List InFlight)
    → IsNext k from e sessions in_flight → IsNext k from e (with_downs k xs sessions) (in_flight ++ more)
one_still k (Client s) e xs sessions in_flight more h =
    let then = all_down k xs sessions s h.state h.there in
    record {
      state = then.0;
      there = then.1;
      asked = h.asked;
      first =
          ap (λ (up : List (ℕ × ClientMsg)). find (is_with k) up) then.2 ∙ h.first;
      is = h.is;
      fits = h.fits;
    }
one_still k (Server i) e xs sessions in_flight more h =
    record { flies = h.flies; first = find_front (is_between i k) in_flight more h.flies h.first; is = h.is }

-- whether the message is taken off before or after, the same stands there
pub sessions_crossed : (k : ℕ) (from : Peer) (xs : List (Peer × Msg)) (sessions : SessionStates)
    → sessions_without k from (with_downs k xs sessions) ≡ with_downs k xs (sessions_without k from sessions)
sessions_crossed k (Client s) xs sessions = popped_then k s.0 k xs sessions
sessions_crossed k (Server j) xs sessions = refl

pub sessions_cross : {Y : Type 0} (k : ℕ) (from : Peer) (ys : List Y) (xs : List (Peer × Msg)) (sessions : SessionStates)
    → sessions_without_each k from ys (with_downs k xs sessions) ≡ with_downs k xs (sessions_without_each k from ys sessions)
sessions_cross k from [] xs sessions = refl
sessions_cross {Y} k from (y ∷ ys) xs sessions = ap (sessions_without_each {Y = Y} k from ys) (sessions_crossed k from xs sessions)
    ∙ sessions_cross k from ys xs (sessions_without k from sessions)

flying_crossed : (k : ℕ) (from : Peer) (e : ServerEvent) (sessions : SessionStates) (in_flight more : List InFlight)
    → IsNext k from e sessions in_flight → flying_without k from (in_flight ++ more) ≡ flying_without k from in_flight ++ more
flying_crossed k (Client s) e sessions in_flight more h = refl
flying_crossed k (Server i) e sessions in_flight more h = without_front (is_between i k) in_flight more h.flies h.first

flying_cross : (k : ℕ) (from : Peer) (es : List ServerEvent) (sessions : SessionStates) (in_flight more : List InFlight)
    → AreNext k from es sessions in_flight → flying_without_each k from es (in_flight ++ more) ≡ flying_without_each k from es
    in_flight ++ more
flying_cross k from [] sessions in_flight more h = refl
flying_cross k from (e ∷ es) sessions in_flight more h =
    ap (flying_without_each {Y = ServerEvent} k from es) (flying_crossed k from e sessions in_flight more h.0)
    ∙ flying_cross k from es (sessions_without k from sessions) (flying_without k from in_flight) more h.1

pub next_still : (k : ℕ) (from : Peer) (es : List ServerEvent) (xs : List (Peer × Msg)) (sessions : SessionStates)
    (in_flight more : List InFlight) → AreNext k from es sessions in_flight
    → AreNext k from es (with_downs k xs sessions) (in_flight ++ more)
next_still k from [] xs sessions in_flight more h = tt
next_still k from (e ∷ es) xs sessions in_flight more h = (
  one_still k from e xs sessions in_flight more h.0,
  subst (λ (m : SessionStates). AreNext k from es m (flying_without k from (in_flight ++ more))) (sym (sessions_crossed k from xs sessions))
      (subst (λ (fs : List InFlight). AreNext k from es (with_downs k xs (sessions_without k from sessions)) fs)
      (sym (flying_crossed k from e sessions in_flight more h.0))
      (next_still k from es xs (sessions_without k from sessions) (flying_without k from in_flight) more h.1)),
)

-- the rest is taken off before the step as well as after it
pub step_crossed : (k : ℕ) (from : Peer) (es : List ServerEvent) (now : ℕ) (e : ServerEvent) (x : ServerStepped)
    → AreNext k from es x.sessions x.in_flight → without_joined k from es (taking k now e x) ≡ taking k now e (without_joined k from es x)
step_crossed k from es now e x h =
    let send = sent_at now e x.server in
    let sessions = sessions_cross k from es send x.sessions in
    let in_flight = flying_cross k from es x.sessions x.in_flight (in_flight_from k send) h in
    λ i. record (taking k now e x) { sessions = sessions i; in_flight = in_flight i }
