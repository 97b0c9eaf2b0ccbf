-- What is so of a lease that had ended, while a server hears one message of another one after another.
use Rattle.std.proofs.Common.{◌≡◌, ℕ, ◌+◌, ◌≤◌, max, List, [], ◌∷◌, ◌++◌, refl, sym, ap, ap₂, ◌∙◌, subst, arith}
use Rattle.std.specs.Prelude.{Option, Some, None, slice_get, slice_set}
use Rattle.std.specs.FinMap.{get}
use Rattle.fs_ident.specs.declared.actor.LeaseNo.{LeaseNo}
use Rattle.fs_ident.specs.declared.actor.Peer.{Peer}
use Rattle.fs_ident.specs.declared.actor.Peer.TheVariants.{Server}
use Rattle.fs_ident.specs.declared.actor.Session.{Session}
use Rattle.fs_msg.specs.declared.item.Item.{Item}
use Rattle.fs_client.specs.declared.state.Client.{Client}
use Rattle.fs_server.specs.Step.{step}
use Rattle.fs_server.specs.declared.event.ServerEvent.{ServerEvent}
use Rattle.fs_server.specs.declared.event.ServerEvent.TheVariants.{FromPeer}
use Rattle.fs_server.specs.declared.state.Server.{Server as Core}
use Rattle.fs_serial.specs.Cluster.{Cluster, after_step, in_flight_from, without_question}
use Rattle.fs_serial.specs.EndedLeases.{WasEnded}
use Rattle.fs_serial.specs.Refusals.{rows_in}
use Rattle.fs_serial.specs.declared.in_flight.InFlight.{InFlight}
use Rattle.fs_serial.proofs.Lists.SetAt.{get_here, set_twice}
use Rattle.fs_serial.proofs.Transactions.OthersKeep.{sent_client, taken_client}
use Rattle.fs_world.specs.Calls.{without_message}
use Rattle.fs_world.specs.Order.{Tale}
use Rattle.fs_world.specs.Parts.{lines_in, lines_of}
use Rattle.fs_world.specs.Refusals.{IsEndedLead}
use Rattle.fs_world.specs.Served.{ServerStepped, without_joined}
use Rattle.fs_world.specs.declared.servers.session_state.SessionState.{SessionState}
use Rattle.fs_world.specs.declared.servers.world.Served.{Served}
use Rattle.fs_world.proofs.EndedStill.{comes_still}
use Rattle.fs_world.proofs.SerialLaws.{SerialLaws, timed}
use Rattle.fs_world.proofs.ServedEach.{later_next, one_holds, parts_at}
use Rattle.fs_world.proofs.ServedHolds.{Holds, Parts, cluster_of}
use Rattle.fs_world.proofs.ServerEach.{taking, taking_all}
use Rattle.fs_world.proofs.ServerHolds.{clock, flying_of_joined, flying_there, step_is_then}
use Rattle.fs_world.proofs.ServerNext.{AreNext, IsMessage, step_crossed}

-- ## What is told of it

-- whatever the sessions were told
abbrev pub Ended : Parts → Session → LeaseNo → ℕ → ℕ → Type 0
Ended p by number end now = WasEnded (cluster_of (λ x. []) p) by number end now

pub whatever_told : (a b : Session → List Item) (p : Parts) (by : Session) (number : LeaseNo) (end now : ℕ)
    → WasEnded (cluster_of a p) by number end now → WasEnded (cluster_of b p) by number end now
whatever_told a b p by number end now w = record {
  led = w.led;
  waits = w.waits;
  used = w.used;
  no = w.no;
  until = w.until;
  had = w.had;
  given = w.given;
}

-- a session that waits for an operation to be led has joined, and waits for it in the world whose sessions these are
pub lead_of : (c : Cluster) (w : Served) (by : Session) (number : LeaseNo) (end now : ℕ)
    → (c.lines by).client.led ≡ (lines_of w.term w.sessions by).client.led → WasEnded c by number end now
    → IsEndedLead w (rows_in c) by number end now
lead_of c w by number end now same h = at_state (get w.sessions by.0) refl (sym same ∙ h.waits)
  where
    at_state : (o : Option SessionState) → get w.sessions by.0 ≡ o → (lines_in w.term by o).client.led ≡ Some h.led
        → IsEndedLead w (rows_in c) by number end now
    at_state None e f = absurd (cc f)
    at_state (Some state) e f =
        record { state = state; joined = e; led = h.led; waits = f; used = h.used; no = h.no; until = h.until; had = h.had }

-- no event of a server changes what a session waits for
pub step_led : (k now : ℕ) (e : ServerEvent) (s : Core) (c : Cluster) (by : Session)
    → ((after_step k e (step s now e) c).lines by).client.led ≡ (c.lines by).client.led
step_led k now e s c by =
    ap (λ (z : Client). z.led) (sent_client k (step s now e).out.send (without_question k e c.lines) by ∙ taken_client k e c.lines by)

-- ## One message after another

abbrev pub steps : ℕ → Peer → ℕ → List ServerEvent → ServerStepped → ServerStepped
steps k from now [] x = x
steps k from now (e ∷ es) x = steps k from now es (taking k now e (without_message k from x))

-- the messages may be taken off before
pub steps_are : (k : ℕ) (from : Peer) (now : ℕ) (es : List ServerEvent) (x : ServerStepped) → AreNext k from es x.sessions x.in_flight
    → steps k from now es x ≡ taking_all k now es (without_joined k from es x)
steps_are k from now [] x next = refl
steps_are k from now (e ∷ es) x next =
    let y : ServerStepped = without_message k from x in
    steps_are k from now es (taking k now e y) (later_next k from now e es x next)
    ∙ ap (taking_all k now es) (step_crossed k from es now e y next.1)

-- the server and what is on its way do not depend on the rest
pub record IsAlike (x y : ServerStepped) : Type 0 where
  pub server : x.server ≡ y.server
  pub in_flight : x.in_flight ≡ y.in_flight

pub all_alike : (k now : ℕ) (es : List ServerEvent) (x y : ServerStepped) → IsAlike x y
    → IsAlike (taking_all k now es x) (taking_all k now es y)
all_alike k now [] x y h = h
all_alike k now (e ∷ es) x y h = all_alike k now es (taking k now e x) (taking k now e y) (record {
  server = ap (λ (s : Core). (step s now e).server) h.server;
  in_flight = ap₂ (λ (s : Core) (fs : List InFlight). fs ++ in_flight_from k (step s now e).out.send) h.server h.in_flight;
})

-- each session waits for the same, and what had ended has so still
pub record IsOnward (p : Parts) (k : ℕ) (x y : ServerStepped) : Type 0 where
  pub led : (by : Session) → (lines_of p.term y.sessions by).client.led ≡ (lines_of p.term x.sessions by).client.led
  pub still : (by : Session) (number : LeaseNo) (end now : ℕ) → Ended (parts_at p k x) by number end now
      → Ended (parts_at p k y) by number end now

module _ (laws : SerialLaws) (count skew greatest : ℕ) (tale : Tale) (p : Parts) (x : ServerStepped) (k : ℕ) (c : Core)
    (at : slice_get p.servers k ≡ Some c)
    (h : Holds (timed laws) count skew greatest tale (parts_at p k x)) (now : ℕ) (within : greatest ≤ now + skew) (i : ℕ) (e : ServerEvent)
    (q : IsMessage k i e x.in_flight) where
  abbrev seen : Cluster
  seen = cluster_of h.replied (parts_at p k x)

  here : slice_get (slice_set p.servers k x.server) k ≡ Some x.server
  here = get_here p.servers k c x.server at

  abbrev told : ServerEvent
  told = FromPeer i q.flies.message

  abbrev then : ServerStepped
  then = taking k now e (without_message k (Server i) x)

  -- after it
  module _ (by : Session) (number : LeaseNo) (end reading : ℕ) where
    pub ended_then : WasEnded (after_step k told (step x.server now told) seen) by number end reading
        → Ended (parts_at p k then) by number end reading
    ended_then w =
        subst (λ (f : ServerEvent). Ended (parts_at p k (taking k now f (without_message k (Server i) x))) by number end reading) (sym q.is)
        (subst (λ (servers : List Core).
        Ended (record (parts_at p k (taking k now told (without_message k (Server i) x))) { servers = servers }) by number end reading)
        (set_twice p.servers k x.server (step x.server now told).server)
        (whatever_told _ (λ y. []) _ by number end reading
        (subst (λ (d : Cluster). WasEnded d by number end reading)
        (step_is_then (timed laws) count skew greatest tale (parts_at p k x) h now k x.server here within told x.sessions refl (λ t j. j)
        (flying_there (timed laws) count skew greatest tale (parts_at p k x) h now k x.server here i q.flies q.first)
        (flying_of_joined (timed laws) count skew greatest tale (parts_at p k x) h now k x.server here i q.flies q.first)) w)))

  pub one_onward : IsOnward p k x then
  one_onward = record {
    led = λ by.
        subst (λ (f : ServerEvent). (lines_of p.term (taking k now f (without_message k (Server i) x)).sessions by).client.led
        ≡ (lines_of p.term x.sessions by).client.led) (sym q.is)
        (sym (ap (λ (d : Cluster). (d.lines by).client.led)
        (step_is_then (timed laws) count skew greatest tale (parts_at p k x) h now k x.server here within told x.sessions refl (λ t j. j)
        (flying_there (timed laws) count skew greatest tale (parts_at p k x) h now k x.server here i q.flies q.first)
        (flying_of_joined (timed laws) count skew greatest tale (parts_at p k x) h now k x.server here i q.flies q.first)))
        ∙ step_led k now told x.server seen by);
    still = λ by number end reading w.
        let clocked = clock (timed laws) count skew greatest tale (parts_at p k x) h now k x.server here in
        ended_then by number end reading
        (comes_still skew (max greatest now) now k x.server seen here (omega (arith, clocked))
        (laws.rises skew greatest (max greatest now) seen (omega arith) h.cluster.all).holds i q.flies.message
        (flying_there (timed laws) count skew greatest tale (parts_at p k x) h now k x.server here i q.flies q.first) by number end reading
        (whatever_told (λ y. []) h.replied (parts_at p k x) by number end reading w));
  }

pub all_onward : (es : List ServerEvent) (laws : SerialLaws) (count skew greatest : ℕ) (tale : Tale) (p : Parts) (x : ServerStepped)
    (k : ℕ) (c : Core)
    (at : slice_get p.servers k ≡ Some c) → Holds (timed laws) count skew greatest tale (parts_at p k x) → (now : ℕ)
    → greatest ≤ now + skew → (i : ℕ)
    → AreNext k (Server i) es x.sessions x.in_flight → IsOnward p k x (steps k (Server i) now es x)
all_onward [] laws count skew greatest tale p x k c at h now within i next =
    record { led = λ by. refl; still = λ by number end reading w. w }
all_onward (e ∷ es) laws count skew greatest tale p x k c at h now within i next =
    let one = one_onward laws count skew greatest tale p x k c at h now within i e next.0 in
    let then = all_onward es laws count skew (max greatest now) tale p (taking k now e (without_message k (Server i) x)) k c at
    (one_holds (timed laws) count skew greatest tale p x k c at h now within (Server i) e next.0) now (omega (arith, within)) i
    (later_next k (Server i) now e es x next) in
    record {
      led = λ by. then.led by ∙ one.led by;
      still = λ by number end reading w. then.still by number end reading (one.still by number end reading w);
    }
