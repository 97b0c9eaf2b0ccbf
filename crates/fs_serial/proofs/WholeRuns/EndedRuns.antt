-- Over whole runs, whatever is told of a lease that it had ended is right.
use Rattle.std.proofs.Common.{◌≡◌, ◌≤◌, ◌+◌, ℕ, zero, suc, max, List, [], ◌∷◌, sym, ap, subst, inl, inr, arith}
use Rattle.std.specs.Prelude.{Option, Some, slice_get}
use Rattle.fs_ident.specs.In.{In}
use Rattle.fs_ident.specs.declared.actor.LeaseNo.{LeaseNo}
use Rattle.fs_ident.specs.declared.actor.Session.{Session}
use Rattle.fs_ident.proofs.Passing.{found}
use Rattle.fs_ident.proofs.Standing.{In-append}
use Rattle.fs_record.specs.declared.led_end.LedEnd.TheVariants as led
use Rattle.fs_msg.specs.declared.answer.Answer.TheVariants as answer
use Rattle.fs_server.specs.Server.{first_server}
use Rattle.fs_server.specs.Step.{step}
use Rattle.fs_server.specs.declared.event.ServerEvent.{ServerEvent}
use Rattle.fs_server.specs.declared.state.Server.{Server}
use Rattle.fs_serial.specs.Cluster.{CanCome, Cluster, IsThere, after_server, after_server_at, first_cluster, first_servers, is_with}
use Rattle.fs_serial.specs.Cluster.ClientEvent.{Hears}
use Rattle.fs_serial.specs.EndedLeases.{EndsFair, IsFairAbort, WasEnded}
use Rattle.fs_serial.specs.Runs.{Dated, IsRun, run}
use Rattle.fs_serial.specs.Seen.{ClusterHolds}
use Rattle.fs_serial.specs.Whole.{ClusterStands}
use Rattle.fs_serial.proofs.WholeRuns.ClusterRuns.{all_keep, first_all}
use Rattle.fs_serial.proofs.WholeRuns.EndedClients.{client_keeps_fair}
use Rattle.fs_serial.proofs.WholeRuns.EndedEvents.{server_keeps_fair}
use Rattle.fs_serial.proofs.WholeRuns.EventsKeep.{EventsKeep, runs_keep}

-- ## Each event

-- what is told stays right, and so is what is noted
server_right : (skew greatest now k : ℕ) (e : ServerEvent) (s : Server) (c : Cluster) → slice_get c.servers k ≡ Some s
    → max s.last now ≤ greatest → greatest ≤ max s.last now + skew → IsThere k e c → ClusterHolds skew greatest c → EndsFair c
    → EndsFair (after_server now k e c) × IsFairAbort c e (after_server now k e c) (step s now e).out.note
server_right skew greatest now k e s c at before within there h f =
    subst (λ (o : Option Server).
    EndsFair (after_server_at o now k e c) × IsFairAbort c e (after_server_at o now k e c) (step s now e).out.note)
    (sym at) (server_keeps_fair skew greatest now k e s c at before within there h f)

pub server_fair : (skew greatest now k : ℕ) (e : ServerEvent) (s : Server) (c : Cluster) → slice_get c.servers k ≡ Some s
    → max s.last now ≤ greatest → greatest ≤ max s.last now + skew → IsThere k e c → ClusterHolds skew greatest c → EndsFair c
    → EndsFair (after_server now k e c)
server_fair skew greatest now k e s c at before within there h f = (server_right skew greatest now k e s c at before within there h f).0

pub noted_fair : (skew greatest now k : ℕ) (e : ServerEvent) (s : Server) (c : Cluster) → slice_get c.servers k ≡ Some s
    → max s.last now ≤ greatest → greatest ≤ max s.last now + skew → IsThere k e c → ClusterHolds skew greatest c → EndsFair c
    → IsFairAbort c e (after_server now k e c) (step s now e).out.note
noted_fair skew greatest now k e s c at before within there h f = (server_right skew greatest now k e s c at before within there h f).1

-- what a client hears is right
pub heard_fair : (c : Cluster) (by : Session) (from : ℕ) (number : LeaseNo) (end now : ℕ)
    → CanCome by (Hears from (answer.Led (led.Ended number end now))) c → EndsFair c → WasEnded c by number end now
heard_fair c by from number end now can f = f.told by from number end now
    (found (is_with from) (c.lines by).down (from, answer.Led (led.Ended number end now)) can).0

-- ## Runs

-- nothing is led at the start
none_first : (n skew term : ℕ) (s : Server) → In s (first_servers n skew term) → (s.leading ≡ []) × (s.ending ≡ [])
none_first zero skew term s i = absurd i
none_first (suc n) skew term s i =
    elim (In-append s (first_servers n skew term) (first_server n skew term ∷ []) i) as (λ _. (s.leading ≡ []) × (s.ending ≡ [])) [
      | inl j ↦ none_first n skew term s j
      | inr (inl e) ↦ (ap (λ (t : Server). t.leading) e, ap (λ (t : Server). t.ending) e)
      | inr (inr z) ↦ absurd z
    ]

pub first_fair : (servers skew term : ℕ) → EndsFair (first_cluster servers skew term)
first_fair servers skew term = record {
  counted = λ s i l j. absurd (subst (In l) (none_first servers skew term s i).0 j);
  coming = λ f i. absurd i;
  kept = λ s i x j. absurd (subst (In x) (none_first servers skew term s i).1 j);
  told = λ by k number end now i. absurd i;
}

-- with all that holds
abbrev fair_keep : ℕ → EventsKeep
fair_keep skew =
    let all : EventsKeep = all_keep skew in
    record {
      Holds = λ greatest c. ClusterStands skew greatest c × EndsFair c;
      Within = all.Within;
      later = λ greatest later c rises h. (all.later greatest later c rises h.0, h.1);
      clock = λ greatest s c i h. all.clock greatest s c i h.0;
      server = λ greatest now k e s c at clock within there h. (
        all.server greatest now k e s c at clock within there h.0,
        server_fair skew (max greatest now) now k e s c at (omega (arith, clock)) (omega (arith, within)) there
            (all.later greatest (max greatest now) c (omega arith) h.0).holds h.1,
      );
      client = λ greatest now c by h e can within.
          (all.client greatest now c by h.0 e can within, client_keeps_fair skew greatest now c by h.0.holds h.1 e can);
      Comes = all.Comes;
      next = all.next;
    }

pub run_fair : (skew greatest : ℕ) (es : List Dated) (c : Cluster) → ClusterStands skew greatest c → EndsFair c → IsRun skew greatest es c
    → EndsFair (run es c)
run_fair skew greatest es c w f r = (runs_keep (fair_keep skew) greatest es c (w, f) r).1

-- from the start on
pub all_fair : (servers skew term : ℕ) (es : List Dated) → 1 ≤ servers → IsRun skew 0 es (first_cluster servers skew term)
    → EndsFair (run es (first_cluster servers skew term))
all_fair servers skew term es some r =
    run_fair skew 0 es (first_cluster servers skew term) (first_all servers skew term 0 some) (first_fair servers skew term) r
