-- Messages on their way are in range: where links carry them, and what a core sends where all are in range then.
use Rattle.std.proofs.Common.{◌≡◌, ◌∙◌, ◌==◌, ℕ, Bool, true, false, List, [], ◌∷◌, ◌++◌, filter, Option, Some, None, refl, sym, ap, subst}
use Rattle.std.proofs.Common.{inl, inr}
use Rattle.std.specs.FinMap.{get, insert}
use Rattle.std.specs.List.{AllByRecursion}
use Rattle.fs_ident.specs.In.{In}
use Rattle.fs_ident.specs.declared.actor.Peer.{Peer}
use Rattle.fs_ident.specs.declared.actor.Peer.TheVariants.{Server, Client}
use Rattle.fs_ident.specs.declared.actor.Session.{Session}
use Rattle.fs_ident.proofs.Booleans.{joined as both_joined}
use Rattle.fs_ident.proofs.Same.{itself}
use Rattle.fs_ident.proofs.Standing.{In-behind, In-front, In-last, In-mapped}
use Rattle.fs_msg.specs.declared.answer.Answer.{Answer}
use Rattle.fs_msg.specs.declared.client_msg.ClientMsg.{ClientMsg}
use Rattle.fs_msg.specs.declared.msg.Msg.{Msg}
use Rattle.fs_msg.specs.declared.msg.Msg.TheVariants as msg
use Rattle.fs_msg.specs.declared.peer_msg.PeerMsg.{PeerMsg}
use Rattle.fs_serial.specs.Cluster.{in_flight_from, is_between, is_with}
use Rattle.fs_serial.specs.declared.in_flight.InFlight.{InFlight}
use Rattle.fs_serial.proofs.Grants.RowKinds.{In-kept}
use Rattle.fs_window.specs.Peers.{same_peer}
use Rattle.fs_window.proofs.Lists.{some_is}
use Rattle.fs_world.specs.Linked.{FitsDown, FitsUp, HasJoined, IsLinked, IsWritten, downs_of, flying_between, state_post, ups_of}
use Rattle.fs_world.specs.Served.{SessionStates, up_after, with_down, with_down_at, with_downs}
use Rattle.fs_world.specs.Within.{AllInRange, IsInRange}
use Rattle.fs_world.specs.declared.servers.session_state.SessionState.{SessionState}
use Rattle.fs_world.specs.declared.servers.world.Served.{Served}
use Rattle.fs_world.proofs.LinkedFirst.{posts_there}
use Rattle.fs_world.proofs.LinkedStates.{got_here, got_there, session_is}
use Rattle.fs_world.proofs.LinkedServed.{different}
use Rattle.fs_world.proofs.NamedServers.{AreSent, IsSent}
use Rattle.fs_world.proofs.SeenSends.{down_joined}

-- ## Lists

each_of : {X : Type 0} (P : X → Type 0) (xs : List X) → AllByRecursion P xs → (x : X) → In x xs → P x
each_of P [] h x i = absurd i
each_of P (y ∷ ys) h x (inl e) = subst P (sym e) h.0
each_of P (y ∷ ys) h x (inr i) = each_of P ys h.1 x i

all_of : {X : Type 0} (P : X → Type 0) (xs : List X) → ((x : X) → In x xs → P x) → AllByRecursion P xs
all_of P [] f = tt
all_of P (y ∷ ys) f = (f y (inl refl), all_of P ys (λ x i. f x (inr i)))

-- ## What the links carry

module _ (w : Served) (h : IsLinked w) where
  ups_fit : (s : Session) (state : SessionState) (m : ℕ × ClientMsg) → get w.sessions s.0 ≡ Some state → In m state.up
      → IsInRange (msg.Client m.1)
  ups_fit s state m at i =
      let q = posts_there w h m.0 ((h.sessions s state at).up m i) in
      let way = (h.ties.pairs (Client s) (Server m.0) state.post q.0 refl (ap state_post at) q.1).way in
      each_of IsInRange (ups_of m.0 (get w.sessions s.0)) way.fits (msg.Client m.1)
      (subst (λ (o : Option SessionState). In (msg.Client m.1) (ups_of m.0 o)) (sym at)
      (In-mapped (λ (x : ℕ × ClientMsg). msg.Client x.1) m (filter (is_with m.0) state.up)
      (In-kept (is_with m.0) m state.up i (itself m.0))))

  downs_fit : (s : Session) (state : SessionState) (m : ℕ × Answer) → get w.sessions s.0 ≡ Some state → In m state.down
      → IsInRange (msg.Answer m.1)
  downs_fit s state m at i =
      let q = posts_there w h m.0 ((h.sessions s state at).down m i).0 in
      let way = (h.ties.pairs (Server m.0) (Client s) q.0 state.post refl q.1 (ap state_post at)).way in
      each_of IsInRange (downs_of m.0 (get w.sessions s.0)) way.fits (msg.Answer m.1)
      (subst (λ (o : Option SessionState). In (msg.Answer m.1) (downs_of m.0 o)) (sym at)
      (In-mapped (λ (x : ℕ × Answer). msg.Answer x.1) m (filter (is_with m.0) state.down)
      (In-kept (is_with m.0) m state.down i (itself m.0))))

  flying_fits : (f : InFlight) → In f w.in_flight → IsInRange (msg.Peer f.message)
  flying_fits f i =
      let c = h.in_flight f i in
      let p = posts_there w h f.from c.from in
      let q = posts_there w h f.to c.to in
      let way = (h.ties.pairs (Server f.from) (Server f.to) p.0 q.0 (different f.from f.to c.apart) p.1 q.1).way in
      each_of IsInRange (flying_between f.from f.to w.in_flight) way.fits (msg.Peer f.message)
      (In-mapped (λ (x : InFlight). msg.Peer x.message) f (filter (is_between f.from f.to) w.in_flight)
      (In-kept (is_between f.from f.to) f w.in_flight i (both_joined (f.from == f.from) (f.to == f.to) (itself f.from) (itself f.to))))

  pub linked_in_range : AllInRange w
  linked_in_range = record { up = ups_fit; down = downs_fit; in_flight = flying_fits }

-- ## What is sent

written : (m : Msg) → IsInRange m → IsWritten m
written m r = record { short = r.short; fits = λ e. r.fits }

-- by a client
pub up_written : (w : Served) (s : Session) (state : SessionState) (send : Option (ℕ × ClientMsg)) (up : List (ℕ × ClientMsg))
    → get w.sessions s.0 ≡ Some state → state.up ≡ up_after send up → AllInRange w → FitsUp send
up_written w s state None up at is r = tt
up_written w s state (Some m) up at is r =
    written (msg.Client m.1) (r.up s state m at (subst (λ (ms : List (ℕ × ClientMsg)). In m ms) (sym is) (In-last up m)))

-- an answer is on its way to the session
record HasDown (sessions : SessionStates) (s : Session) (y : ℕ × Answer) : Type 0 where
  state : SessionState
  at : get sessions s.0 ≡ Some state
  among : In y state.down

down_put : (sessions : SessionStates) (t : Session) (old : SessionState) (x y : ℕ × Answer) (s : Session) → get sessions t.0 ≡ Some old
    → HasDown sessions s y → HasDown (insert sessions t.0 (record old { down = old.down ++ x ∷ [] })) s y
down_put sessions t old x y s at h = either (same_peer (Client s) (Client t)) refl
  where
    new : SessionState
    new = record old { down = old.down ++ x ∷ [] }

    either : (b : Bool) → same_peer (Client s) (Client t) ≡ b → HasDown (insert sessions t.0 new) s y
    either true e =
        let is : s ≡ t = session_is s t e in
        let same : h.state ≡ old = some_is h.state old (sym h.at ∙ ap (λ (z : Session). get sessions z.0) is ∙ at) in
        record {
          state = new;
          at = ap (λ (z : Session). get (insert sessions t.0 new) z.0) is ∙ got_here sessions t new;
          among = In-front y old.down (x ∷ []) (subst (λ (z : SessionState). In y z.down) same h.among);
        }
    either false e = record { state = h.state; at = got_there sessions t s new e ∙ h.at; among = h.among }

one_stays : (k : ℕ) (m : Peer × Msg) (sessions : SessionStates) (s : Session) (y : ℕ × Answer) → HasDown sessions s y
    → HasDown (with_down k m sessions) s y
one_stays k (Client t, msg.Answer a) sessions s y h = at (get sessions t.0) refl
  where
    at : (o : Option SessionState) → get sessions t.0 ≡ o → HasDown (with_down_at o t.0 (k, a) sessions) s y
    at None e = h
    at (Some old) e = down_put sessions t old (k, a) y s e h
one_stays k (Client t, msg.Client m) sessions s y h = h
one_stays k (Client t, msg.Peer m) sessions s y h = h
one_stays k (Server to, m) sessions s y h = h

all_stay : (k : ℕ) (xs : List (Peer × Msg)) (sessions : SessionStates) (s : Session) (y : ℕ × Answer) → HasDown sessions s y
    → HasDown (with_downs k xs sessions) s y
all_stay k [] sessions s y h = h
all_stay k (x ∷ xs) sessions s y h = all_stay k xs (with_down k x sessions) s y (one_stays k x sessions s y h)

one_goes : (k : ℕ) (s : Session) (a : Answer) (sessions : SessionStates) → HasJoined sessions s
    → HasDown (with_down k (Client s, msg.Answer a) sessions) s (k, a)
one_goes k s a sessions j =
    let state : SessionState = j.0 in
    let new : SessionState = record state { down = state.down ++ (k, a) ∷ [] } in
    subst (λ (o : Option SessionState). HasDown (with_down_at o s.0 (k, a) sessions) s (k, a)) (sym j.1)
    (record { state = new; at = got_here sessions s new; among = In-last state.down (k, a) })

answers_go : (k : ℕ) (xs : List (Peer × Msg)) (sessions : SessionStates) (s : Session) (a : Answer) → HasJoined sessions s
    → In (Client s, msg.Answer a) xs → HasDown (with_downs k xs sessions) s (k, a)
answers_go k [] sessions s a j i = absurd i
answers_go k (x ∷ xs) sessions s a j (inl e) =
    subst (λ (z : Peer × Msg). HasDown (with_downs k xs (with_down k z sessions)) s (k, a)) e
    (all_stay k xs (with_down k (Client s, msg.Answer a) sessions) s (k, a) (one_goes k s a sessions j))
answers_go k (x ∷ xs) sessions s a j (inr i) = answers_go k xs (with_down k x sessions) s a (down_joined k x sessions s j) i

more_fly : (k : ℕ) (x : Peer × Msg) (xs : List (Peer × Msg)) (f : InFlight) → In f (in_flight_from k xs) → In f (in_flight_from k (x ∷ xs))
more_fly k (Server to, msg.Peer m) xs f i = inr i
more_fly k (Server to, msg.Answer a) xs f i = i
more_fly k (Server to, msg.Client m) xs f i = i
more_fly k (Client s, m) xs f i = i

peers_go : (k : ℕ) (xs : List (Peer × Msg)) (to : ℕ) (m : PeerMsg) → In (Server to, msg.Peer m) xs
    → In (record { from = k; to = to; message = m }) (in_flight_from k xs)
peers_go k [] to m i = absurd i
peers_go k (x ∷ xs) to m (inl e) =
    let f : InFlight = record { from = k; to = to; message = m } in
    subst (λ (z : Peer × Msg). In f (in_flight_from k (z ∷ xs))) e (inl refl)
peers_go k (x ∷ xs) to m (inr i) = more_fly k x xs (record { from = k; to = to; message = m }) (peers_go k xs to m i)

-- by a server
pub down_written : (servers : ℕ) (sessions before : SessionStates) (k : ℕ) (xs : List (Peer × Msg)) (in_flight : List InFlight)
    (w : Served) → AreSent servers sessions k xs → ((t : Session) → HasJoined sessions t → HasJoined before t)
    → w.sessions ≡ with_downs k xs before → w.in_flight ≡ in_flight ++ in_flight_from k xs → AllInRange w → FitsDown xs
down_written servers sessions before k xs in_flight w sent joined sessions_are flying_is r =
    all_of (λ (x : Peer × Msg). IsWritten x.1) xs (λ x i. one x i (each_of (IsSent servers sessions k) xs sent x i))
  where
    one : (x : Peer × Msg) → In x xs → IsSent servers sessions k x → IsWritten x.1
    one (Client s, msg.Answer a) i q =
        let d = answers_go k xs before s a (joined s q.0) i in
        written (msg.Answer a) (r.down s d.state (k, a) (ap (λ (m : SessionStates). get m s.0) sessions_are ∙ d.at) d.among)
    one (Server to, msg.Peer m) i q =
        let f : InFlight = record { from = k; to = to; message = m } in
        written (msg.Peer m)
        (r.in_flight f
        (subst (λ (fs : List InFlight). In f fs) (sym flying_is) (In-behind f in_flight (in_flight_from k xs) (peers_go k xs to m i))))
    one (Client s, msg.Client m) i q = absurd q
    one (Client s, msg.Peer m) i q = absurd q
    one (Server to, msg.Answer a) i q = absurd q
    one (Server to, msg.Client m) i q = absurd q
