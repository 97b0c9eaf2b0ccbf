-- Events of a server from their begin: where the step of one that has begun keeps all that holds of the cluster, the event does.
use Rattle.std.proofs.Common.{◌≡◌, ℕ, ◌≤◌, max, List, sym, subst}
use Rattle.std.specs.Prelude.{Option, Some, slice_get}
use Rattle.fs_server.specs.Server.{begun}
use Rattle.fs_server.specs.Step.{event_step, step}
use Rattle.fs_server.specs.declared.event.ServerEvent.{ServerEvent}
use Rattle.fs_server.specs.declared.state.Server.{Server}
use Rattle.fs_serial.specs.Cluster.{Cluster, IsThere, after_server, after_server_at, after_step}
use Rattle.fs_serial.specs.Whole.{ClusterStands}
use Rattle.fs_serial.proofs.Lists.SetAt.{get_here, set_twice}
use Rattle.fs_serial.proofs.Paths.EventsLeave.{begun_paths}
use Rattle.fs_serial.proofs.Paths.KeptBegins.{begun_kept}
use Rattle.fs_serial.proofs.Returns.Lapsing.{begun_at, there_begun}
use Rattle.fs_serial.proofs.Transactions.OtherSteps.{begins_stands}

-- every event of every server keeps all
abbrev pub ServersKeepAll : Type 0
ServersKeepAll = (skew greatest now k : ℕ) (e : ServerEvent) (s : Server) (c : Cluster) → slice_get c.servers k ≡ Some s
    → max s.last now ≤ greatest → IsThere k e c → ClusterStands skew greatest c → ClusterStands skew greatest (after_server now k e c)

-- the step of a server that has begun keeps all
abbrev pub StepKeepsAll : ServerEvent → Type 0
StepKeepsAll e = (skew greatest k : ℕ) (c : Cluster) (s : Server) → slice_get c.servers k ≡ Some s → ClusterStands skew greatest c
    → IsThere k e c → ClusterStands skew greatest (after_step k e (event_step e s) c)

-- all of it holds when an event begins
pub begun_stands : (skew greatest now k : ℕ) (s : Server) (c : Cluster) → slice_get c.servers k ≡ Some s → max s.last now ≤ greatest
    → ClusterStands skew greatest c → ClusterStands skew greatest (begun_at now k s c)
begun_stands skew greatest now k s c at before w = record {
  holds = begins_stands skew greatest now k s c at before w.holds;
  paths = begun_paths now k s c at w.paths;
  kept = begun_kept skew greatest now k s c at w.holds w.kept;
}

pub event_keeps : (e : ServerEvent) → StepKeepsAll e → (skew greatest now k : ℕ) (s : Server) (c : Cluster)
    → slice_get c.servers k ≡ Some s → max s.last now ≤ greatest → IsThere k e c → ClusterStands skew greatest c
    → ClusterStands skew greatest (after_server now k e c)
event_keeps e keeps skew greatest now k s c at before there w =
    let later : Cluster = begun_at now k s c in
    let stepped = keeps skew greatest k later (begun now s) (get_here c.servers k s (begun now s) at)
    (begun_stands skew greatest now k s c at before w) (there_begun now k s e c there) in
    let after : Cluster = after_step k e (step s now e) c in
    let done : ClusterStands skew greatest after =
    subst (λ (ss : List Server). ClusterStands skew greatest (let z : Cluster = record after { servers = ss } in z))
    (set_twice c.servers k (begun now s) (step s now e).server) stepped in
    subst (λ (o : Option Server). ClusterStands skew greatest (after_server_at o now k e c)) (sym at) done

pub all_events : ((e : ServerEvent) → StepKeepsAll e) → ServersKeepAll
all_events keeps skew greatest now k e s c = event_keeps e (keeps e) skew greatest now k s c
