-- What every event of servers and of clients keeps, whole runs keep.
use Rattle.std.proofs.Common.{◌≡◌, ℕ, ◌≤◌, max, List, [], ◌∷◌, refl, sym, subst, arith}
use Rattle.std.specs.Prelude.{Option, Some, None, slice_get}
use Rattle.fs_ident.specs.In.{In}
use Rattle.fs_ident.specs.declared.actor.Session.{Session}
use Rattle.fs_ident.proofs.Standing.{In-got}
use Rattle.fs_server.specs.declared.event.ServerEvent.{ServerEvent}
use Rattle.fs_server.specs.declared.state.Server.{Server}
use Rattle.fs_serial.specs.Cluster.{CanCome, ClientEvent, Cluster, IsThere, after_client, after_server, after_server_at}
use Rattle.fs_serial.specs.Runs.{AtClient, AtServer, CanHappen, ClusterEvent, Dated, after_event, greatest_in, run}

-- what holds of a cluster in which no reading was greater than that, and is kept by each event that comes in time
pub record EventsKeep : Type 1 where
  pub Holds : ℕ → Cluster → Type 0
  -- an event with the second reading comes in time where none was greater than the first
  pub Within : ℕ → ℕ → Type 0
  pub later : (greatest later : ℕ) (c : Cluster) → greatest ≤ later → Holds greatest c → Holds later c
  pub clock : (greatest : ℕ) (s : Server) (c : Cluster) → In s c.servers → Holds greatest c → s.last ≤ greatest
  pub server : (greatest now k : ℕ) (e : ServerEvent) (s : Server) (c : Cluster) → slice_get c.servers k ≡ Some s → s.last ≤ greatest
      → Within greatest now → IsThere k e c → Holds greatest c → Holds (max greatest now) (after_server now k e c)
  pub client : (greatest now : ℕ) (c : Cluster) (by : Session) → Holds greatest c → (e : ClientEvent) → CanCome by e c
      → Within greatest now → Holds (max greatest now) (after_client by now e c)
  -- the events can happen one after another, and each comes in time
  pub Comes : ℕ → List Dated → Cluster → Type 0
  pub next : (greatest : ℕ) (e : Dated) (es : List Dated) (c : Cluster) → Comes greatest (e ∷ es) c
      → CanHappen e.what c × Within greatest e.now × Comes (max greatest e.now) es (after_event e.now e.what c)

module _ (laws : EventsKeep) where
  at_server : (greatest now k : ℕ) (e : ServerEvent) (c : Cluster) (o : Option Server) → slice_get c.servers k ≡ o
      → laws.Holds greatest c → IsThere k e c → laws.Within greatest now → laws.Holds (max greatest now) (after_server now k e c)
  at_server greatest now k e c None at h there within =
      subst (λ (o : Option Server). laws.Holds (max greatest now) (after_server_at o now k e c)) (sym at)
      (laws.later greatest (max greatest now) c (omega arith) h)
  at_server greatest now k e c (Some s) at h there within =
      laws.server greatest now k e s c at (laws.clock greatest s c (In-got c.servers k s at) h) within there h

  event_keeps : (greatest now : ℕ) (e : ClusterEvent) (c : Cluster) → laws.Holds greatest c → CanHappen e c → laws.Within greatest now
      → laws.Holds (max greatest now) (after_event now e c)
  event_keeps greatest now (AtServer k e) c h can within = at_server greatest now k e c (slice_get c.servers k) refl h can within
  event_keeps greatest now (AtClient by e) c h can within = laws.client greatest now c by h e can within

  pub runs_keep : (greatest : ℕ) (es : List Dated) (c : Cluster) → laws.Holds greatest c → laws.Comes greatest es c
      → laws.Holds (greatest_in greatest es) (run es c)
  runs_keep greatest [] c h r = h
  runs_keep greatest (e ∷ es) c h r =
      let q = laws.next greatest e es c r in
      runs_keep (max greatest e.now) es (after_event e.now e.what c) (event_keeps greatest e.now e.what c h q.0 q.1) q.2
