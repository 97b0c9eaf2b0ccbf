-- What holds of a world of the servers form while a server hears one message after another.
use Rattle.std.proofs.Common.{◌≡◌, ℕ, ◌≤◌, max, Bool, true, false, List, [], ◌∷◌, ◌++◌, length, map, cond, refl, sym, subst, inl, inr}
use Rattle.std.proofs.Common.{arith}
use Rattle.std.specs.Prelude.{Option, Some, None, slice_get, slice_set}
use Rattle.std.specs.List.{find}
use Rattle.fs_ident.specs.declared.actor.Peer.{Peer}
use Rattle.fs_ident.specs.declared.actor.Peer.TheVariants.{Server, Client}
use Rattle.fs_msg.specs.declared.answer.Answer.{Answer}
use Rattle.fs_msg.specs.declared.client_msg.ClientMsg.{ClientMsg}
use Rattle.fs_client.specs.declared.exchange.Exchange.{Exchange}
use Rattle.fs_client.specs.declared.state.Client.{Client as ClientCore}
use Rattle.fs_serial.specs.Cluster.{in_flight_from, without_first}
use Rattle.fs_serial.specs.Exchange.{OneExchange}
use Rattle.fs_serial.specs.declared.in_flight.InFlight.{InFlight}
use Rattle.fs_serial.proofs.Lists.SetAt.{get_here, set_twice}
use Rattle.fs_server.specs.Step.{step}
use Rattle.fs_server.specs.declared.event.ServerEvent.{ServerEvent}
use Rattle.fs_server.specs.declared.event.ServerEvent.TheVariants.{FromClient, FromPeer}
use Rattle.fs_server.specs.declared.state.Server.{Server as Core}
use Rattle.fs_world.specs.Calls.{without_message}
use Rattle.fs_world.specs.Order.{Tale}
use Rattle.fs_world.specs.Served.{SessionStates, ServerStepped, flying_without, sessions_without, with_downs, without_joined, without_up}
use Rattle.fs_world.specs.declared.servers.session_state.SessionState.{SessionState}
use Rattle.fs_world.proofs.SerialLaws.{EventLaws}
use Rattle.fs_world.proofs.ServedHolds.{Holds, Parts, holds_later}
use Rattle.fs_world.proofs.ServerEach.{sent_at, taking, taking_all}
use Rattle.fs_world.proofs.ServerHolds.{flying_of_joined, flying_there, message_holds, server_holds}
use Rattle.fs_world.proofs.ServerNext.{AreNext, IsNext, next_still, step_crossed}

-- the parts of the world while its server of number k is so far
abbrev pub parts_at : Parts → ℕ → ServerStepped → Parts
parts_at p k x = record p { servers = slice_set p.servers k x.server; sessions = x.sessions; in_flight = x.in_flight; journal = x.journal }

module _ (laws : EventLaws) (count skew greatest : ℕ) (tale : Tale) (p : Parts) (x : ServerStepped) (k : ℕ) (c : Core)
    (at : slice_get p.servers k ≡ Some c) (h : Holds laws count skew greatest tale (parts_at p k x)) (now : ℕ)
    (within : laws.Within skew greatest now) where
  here : slice_get (slice_set p.servers k x.server) k ≡ Some x.server
  here = get_here p.servers k c x.server at

  abbrev stepped : ServerEvent → SessionStates → List InFlight → List Core → Parts
  stepped e before in_flight servers = record p {
    servers = servers;
    sessions = with_downs k (sent_at now e x.server) before;
    in_flight =
        in_flight ++ in_flight_from k (sent_at now e x.server);
    journal = x.journal ++ (step x.server now e).out.admitted;
  }

  -- the server is set once
  set_once : (e : ServerEvent) (before : SessionStates) (in_flight : List InFlight)
      → Holds laws count skew (max greatest now) tale
      (stepped e before in_flight (slice_set (slice_set p.servers k x.server) k (step x.server now e).server))
      → Holds laws count skew (max greatest now) tale (stepped e before in_flight (slice_set p.servers k (step x.server now e).server))
  set_once e before in_flight g = subst (λ (ss : List Core). Holds laws count skew (max greatest now) tale (stepped e before in_flight ss))
      (set_twice p.servers k x.server (step x.server now e).server) g

  -- the next message is taken off, and the server takes its step
  pub one_holds : (from : Peer) (e : ServerEvent) → IsNext k from e x.sessions x.in_flight
      → Holds laws count skew (max greatest now) tale (parts_at p k (taking k now e (without_message k from x)))
  one_holds (Client s) e q =
      subst (λ (f : ServerEvent). Holds laws count skew (max greatest now) tale
      (parts_at p k (taking k now f (without_message k (Client s) x)))) (sym q.is)
      (subst (λ (o : Option SessionState). Holds laws count skew (max greatest now) tale
      (parts_at p k (taking k now (FromClient s q.asked.1) (record x { sessions = without_up k o s.0 x.sessions })))) (sym q.there)
      (set_once (FromClient s q.asked.1) (without_up k (Some q.state) s.0 x.sessions) x.in_flight
      (message_holds laws count skew greatest tale (parts_at p k x) h now k x.server here within s q.state q.asked q.there q.first)))
  one_holds (Server i) e q =
      subst (λ (f : ServerEvent). Holds laws count skew (max greatest now) tale
      (parts_at p k (taking k now f (without_message k (Server i) x)))) (sym q.is)
      (set_once (FromPeer i q.flies.message) x.sessions (flying_without k (Server i) x.in_flight)
      (server_holds laws count skew greatest tale (parts_at p k x) h now k x.server here within (FromPeer i q.flies.message) x.sessions
      refl (λ t i. i)
      (flying_there laws count skew greatest tale (parts_at p k x) h now k x.server here i q.flies q.first)
      (flying_of_joined laws count skew greatest tale (parts_at p k x) h now k x.server here i q.flies q.first)))

-- all of them: what holds then, and the steps with the messages taken off first
pub later_next : (k : ℕ) (from : Peer) (now : ℕ) (e : ServerEvent) (es : List ServerEvent) (x : ServerStepped)
    → AreNext k from (e ∷ es) x.sessions x.in_flight
    → AreNext k from es (taking k now e (without_message k from x)).sessions (taking k now e (without_message k from x)).in_flight
later_next k from now e es x next =
    next_still k from es (sent_at now e x.server) (sessions_without k from x.sessions) (flying_without k from x.in_flight)
    (in_flight_from k (sent_at now e x.server)) next.1

pub all_hold : (es : List ServerEvent) (laws : EventLaws) (count skew greatest : ℕ) (tale : Tale) (p : Parts) (x : ServerStepped) (k : ℕ)
    (c : Core) → slice_get p.servers k ≡ Some c → Holds laws count skew greatest tale (parts_at p k x)
    → (now : ℕ) → laws.Within skew greatest now → (from : Peer) → AreNext k from es x.sessions x.in_flight
    → Holds laws count skew (max greatest now) tale (parts_at p k (taking_all k now es (without_joined k from es x)))
all_hold [] laws count skew greatest tale p x k c at h now within from next =
    holds_later laws count skew greatest tale (parts_at p k x) h (max greatest now) (omega arith)
all_hold (e ∷ es) laws count skew greatest tale p x k c at h now within from next =
    let y : ServerStepped = without_message k from x in
    let then = all_hold es laws count skew (max greatest now) tale p (taking k now e y) k c at
    (one_holds laws count skew greatest tale p x k c at h now within from e next.0) now (laws.again skew greatest now within) from
    (later_next k from now e es x next) in
    let same : max (max greatest now) now ≡ max greatest now = omega arith in
    subst (λ (z : ServerStepped). Holds laws count skew (max greatest now) tale (parts_at p k (taking_all k now es z)))
    (step_crossed k from es now e y next.1)
    (subst (λ (g : ℕ). Holds laws count skew g tale (parts_at p k (taking_all k now es (without_joined k from es (taking k now e y)))))
    same then)

-- ## A session has one question on its way

none_of : {X Y : Type 0} (f : X → Y) (xs : List X) (more : List Y) → map f xs ++ more ≡ [] → length xs ≤ 1
none_of f [] more e = omega arith
none_of f (x ∷ xs) more e = absurd (cc)

one_of : {X Y : Type 0} (f : X → Y) (xs : List X) (more : List Y) (y : Y) → map f xs ++ more ≡ y ∷ [] → length xs ≤ 1
one_of f [] more y e = omega arith
one_of f (x ∷ []) more y e = omega arith
one_of f (x ∷ z ∷ xs) more y e = absurd (cc)

-- or taken
pub few_up : (c : ClientCore) (o : Option Exchange) (up : List (ℕ × ClientMsg)) (more : List ClientMsg) (down : List Answer)
    → OneExchange c o (map (λ (m : ℕ × ClientMsg). m.1) up ++ more) down → length up ≤ 1
few_up c None up more down h = none_of (λ (m : ℕ × ClientMsg). m.1) up more h.0
few_up c (Some x) up more down (inl a) = one_of (λ (m : ℕ × ClientMsg). m.1) up more a.message a.asked
few_up c (Some x) up more down (inr a) = none_of (λ (m : ℕ × ClientMsg). m.1) up more a.asked

none_found : {X : Type 0} (o : Option X) (x : X) → o ≡ None → o ≡ Some x → ⊥
none_found o x e f = absurd (cc)

-- so a second one is none
pub no_second : {X : Type 0} (is : X → Bool) (xs : List X) (x y : X) → length xs ≤ 1 → find is xs ≡ Some x
    → find is (without_first is xs) ≡ Some y → ⊥
no_second is [] x y few e f = absurd (cc)
no_second {X} is (z ∷ []) x y few e f = either (is z) e f
  where
    either : (b : Bool) → cond b (Some z) None ≡ Some x → find is (cond b [] (z ∷ [])) ≡ Some y → ⊥
    either true e f = absurd (cc)
    either false e f = absurd (cc)
no_second is (z ∷ w ∷ xs) x y few e f = absurd (omega arith)
