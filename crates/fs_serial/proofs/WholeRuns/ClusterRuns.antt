-- Whatever happens, in whatever order, all parts hold, and the journal is one serial run.
use Rattle.std.proofs.Common.{◌≡◌, ℕ, ◌+◌, ◌≤◌, max, true, List, [], ◌∷◌, ◌++◌, length, map, append-nil, sym, subst, arith}
use Rattle.std.specs.Prelude.{Some, None, slice_get}
use Rattle.std.specs.List.{list_all}
use Rattle.fs_ident.specs.In.{In}
use Rattle.fs_ident.specs.declared.actor.Session.{Session}
use Rattle.fs_ident.proofs.Passing.{found}
use Rattle.fs_ident.proofs.Standing.{In-front, In-got, In-mapped}
use Rattle.fs_model.specs.Asking.{home_of}
use Rattle.fs_model.specs.Sound.{IsSound}
use Rattle.fs_msg.specs.declared.client_msg.ClientMsg.{ClientMsg}
use Rattle.fs_msg.specs.declared.client_msg.ClientMsg.TheVariants.{Ship}
use Rattle.fs_msg.specs.declared.entry.Entry.{Entry}
use Rattle.fs_msg.specs.declared.item.Item.{Item}
use Rattle.fs_record.specs.Records.{nodes_of}
use Rattle.fs_server.specs.Server.{begun, is_mine}
use Rattle.fs_server.specs.Ships.{item_of}
use Rattle.fs_server.specs.Step.{step}
use Rattle.fs_server.specs.declared.event.ServerEvent.TheVariants.{FromClient}
use Rattle.fs_server.specs.declared.state.Server.{Server}
use Rattle.fs_serial.specs.Cluster.{CanCome, ClientEvent, Cluster, IsThere, after_client, first_cluster, is_with}
use Rattle.fs_serial.specs.KeptFiles.{FilesKept}
use Rattle.fs_serial.specs.Numbers.{AreNumbered, items_at, items_by}
use Rattle.fs_serial.specs.Leading.{LedHolds}
use Rattle.fs_serial.specs.Owed.{ends_in, taken_leads}
use Rattle.fs_serial.specs.Paths.{PathsHold, PathsStand}
use Rattle.fs_serial.specs.Refusals.{rows_in}
use Rattle.fs_serial.specs.Runs.{Dated, IsOneSerialRun, IsRun, greatest_in, held_by, run}
use Rattle.fs_serial.specs.Seen.{ClusterHolds, counts_of, world_of}
use Rattle.fs_serial.specs.Serial.{JournalSerial}
use Rattle.fs_serial.specs.Sight.{seen}
use Rattle.fs_serial.specs.Steps.{AllStand, AreRepliesFrom}
use Rattle.fs_serial.specs.Whole.{ClusterStands}
use Rattle.fs_serial.specs.World.{WorldHolds, settled_at}
use Rattle.fs_serial.proofs.DecidedEffects.StoredBeside.{all_seen}
use Rattle.fs_serial.proofs.Admission.Admitted.{admitted_at_once}
use Rattle.fs_serial.proofs.Admission.PendingRuns.{pending_from}
use Rattle.fs_serial.proofs.DecidedEffects.HeldSeen.{held_same}
use Rattle.fs_serial.proofs.Lists.Traffic.{messages}
use Rattle.fs_serial.proofs.OneServer.ServerEvents.{all_plain}
use Rattle.fs_serial.proofs.OtherSessions.Rising.{world_later}
use Rattle.fs_serial.proofs.Paths.ClientsKeep.{clients_keep_paths}
use Rattle.fs_serial.proofs.Paths.First.{first_paths}
use Rattle.fs_serial.proofs.Paths.KeptBegins.{first_kept}
use Rattle.fs_serial.proofs.Paths.KeptClients.{client_kept}
use Rattle.fs_serial.proofs.Paths.Standing.{paths_stand}
use Rattle.fs_serial.proofs.Transactions.ClientsStand.{client_stands}
use Rattle.fs_serial.proofs.Transactions.FirstStands.{first_stands}
use Rattle.fs_serial.proofs.WholeRuns.ClusterClients.{some_server}
use Rattle.fs_serial.proofs.WholeRuns.ClusterSteps.{server_keeps}
use Rattle.fs_serial.proofs.WholeRuns.EventsKeep.{EventsKeep, runs_keep}

pub cluster_later : (skew greatest later : ℕ) (c : Cluster) → greatest ≤ later → ClusterHolds skew greatest c → ClusterHolds skew later c
cluster_later skew greatest later c rises h = record {
  parts = λ s i. let p = h.parts s i in (world_later greatest later (world_of s c) rises p.0, p.1);
  skewed = h.skewed;
  addressed = h.addressed;
  places = h.places;
  led = h.led;
  peers = h.peers;
}

pub stands_later : (skew greatest later : ℕ) (c : Cluster) → greatest ≤ later → ClusterStands skew greatest c → ClusterStands skew later c
stands_later skew greatest later c rises w = record {
  holds = cluster_later skew greatest later c rises w.holds;
  paths = w.paths;
  kept = w.kept;
}

-- ## What comes of it

-- the first of numbered items are numbered
front_numbered : (k : ℕ) (is more : List Item) (next : ℕ) → AreNumbered k (is ++ more) next → AreNumbered k is (k + length is)
front_numbered k [] more next h = omega arith
front_numbered k (i ∷ is) more next h = (h.0, subst (AreNumbered (k + 1) is) (omega arith) (front_numbered (k + 1) is more next h.1))

exactly_numbered : (k : ℕ) (is : List Item) (next : ℕ) → AreNumbered k is next → AreNumbered k is (k + length is)
exactly_numbered k is next h = front_numbered k is [] next (subst (λ js. AreNumbered k js next) (sym (append-nil is)) h)

seen_outcome : (greatest : ℕ) (s : Server) (c : Cluster) → LedHolds c → WorldHolds greatest (world_of s c) → IsOneSerialRun c
seen_outcome greatest s c led h = record {
  serial = subst (JournalSerial c.journal) (sym (held_same c led)) h.all.servers.serial;
  sound = subst (λ m. IsSound (nodes_of m)) (sym (held_same c led)) h.all.kept.sound.space;
  numbered = λ x. front_numbered 1 (items_by x c.journal) (map (item_of x) (settled_at x (ends_in c x)).log) _ (h.all.sessions x).numbers;
  reaped = λ k. exactly_numbered 1 (items_at k c.journal) _ (h.all.servers.reaped k);
  told = λ x. record { rest = map (item_of x) (settled_at x (ends_in c x)).log; is = sym (h.all.sessions x).replies };
}

pub outcome : (skew greatest : ℕ) (c : Cluster) → ClusterHolds skew greatest c → IsOneSerialRun c
outcome skew greatest c h = let q = some_server c h.places in seen_outcome greatest q.0 c h.led (h.parts q.0 q.1).0

-- what a session has pending is a serial run on from that space, as far as the rows of its leases stand
pub pending_together : (skew greatest : ℕ) (c : Cluster) (by : Session) (front rest : List Entry) (s : Server)
    → ClusterHolds skew greatest c → In s c.servers → (settled_at by (ends_in c by)).log ≡ front ++ rest
    → (settled_at by (ends_in c by)).over ≡ None → AllStand (rows_in c) by front → AreRepliesFrom (nodes_of (held_by c)) by front
pending_together skew greatest c by front rest s h there log over stand =
    let v = world_of s c in
    subst (λ m. AreRepliesFrom (nodes_of m) by front) (sym (held_same c h.led))
    (pending_from (counts_of c.servers) s.skew greatest c.replied by rest front (seen v.decided v.server) c.journal
    (λ x. settled_at x (ends_in c x)) (all_seen v.decided v.server c.journal (h.parts s there).1.all (counts_of c.servers) s.skew greatest c.replied
    (λ x. settled_at x (ends_in c x)) (h.parts s there).0.all) log over stand)

-- all entries that come are plain, so that one whose rows stand is admitted when it comes
pub admitted_always : (skew greatest now k : ℕ) (s : Server) (c : Cluster) (by : Session) (front rest : List Entry) (e : Entry)
    → slice_get c.servers k ≡ Some s → IsThere k (FromClient by (Ship (front ++ e ∷ rest))) c → ClusterHolds skew greatest c
    → list_all (λ (x : Entry). is_mine s (home_of x.op)) (front ++ e ∷ []) ≡ true → AllStand (begun now s).rows by (front ++ e ∷ [])
    → In (item_of by e) (step s now (FromClient by (Ship (front ++ e ∷ rest)))).out.admitted
admitted_always skew greatest now k s c by front rest e at there h mine stand =
    let entries : List Entry = front ++ e ∷ rest in
    let coming : In (Ship entries) (ends_in c by).up = In-front (Ship entries) (messages (c.lines by).up)
    (taken_leads by (c.lines by).client.led c.servers)
    (In-mapped (λ (n : ℕ × ClientMsg). n.1) (k, Ship entries) (c.lines by).up
    (found (is_with k) (c.lines by).up (k, Ship entries) there).0) in
    admitted_at_once s now by front rest e
    (all_plain greatest (world_of s c) by entries coming (h.parts s (In-got c.servers k s at)).0) mine stand

-- ## A client's event, and the start

pub client_keeps_all : (skew greatest now : ℕ) (c : Cluster) (by : Session) → ClusterStands skew greatest c → (e : ClientEvent) → CanCome by e c
    → greatest ≤ now + skew → ClusterStands skew greatest (after_client by now e c)
client_keeps_all skew greatest now c by w e can within = record {
  holds = client_stands skew greatest c by w.holds now e can within;
  paths = clients_keep_paths by now e c w.paths;
  kept = client_kept skew greatest now c by w.holds w.kept e can;
}

pub first_all : (servers skew term greatest : ℕ) → 1 ≤ servers → ClusterStands skew greatest (first_cluster servers skew term)
first_all servers skew term greatest some = record {
  holds = first_stands servers skew term greatest some;
  paths = first_paths servers skew term;
  kept = first_kept servers skew term;
}

-- ## Runs

-- an event comes in time where no reading before it is ahead of its own by more than the skew
abbrev pub all_keep : ℕ → EventsKeep
all_keep skew = record {
  Holds = ClusterStands skew;
  Within = λ greatest now. greatest ≤ now + skew;
  later = stands_later skew;
  clock = λ greatest s c i w. (w.holds.parts s i).0.clock;
  server = λ greatest now k e s c at clock within there w.
      server_keeps skew (max greatest now) now k e s c at (omega (arith, clock)) there
      (stands_later skew greatest (max greatest now) c (omega arith) w);
  client = λ greatest now c by w e can within.
      stands_later skew greatest (max greatest now) (after_client by now e c) (omega arith)
      (client_keeps_all skew greatest now c by w e can within);
  Comes = IsRun skew;
  next = λ greatest e es c r. r;
}

pub run_keeps : (skew greatest : ℕ) (es : List Dated) (c : Cluster) → ClusterStands skew greatest c → IsRun skew greatest es c
    → ClusterStands skew (greatest_in greatest es) (run es c)
run_keeps skew = runs_keep (all_keep skew)

-- from the start on
pub all_stands : (servers skew term : ℕ) (es : List Dated) → 1 ≤ servers → IsRun skew 0 es (first_cluster servers skew term)
    → ClusterStands skew (greatest_in 0 es) (run es (first_cluster servers skew term))
all_stands servers skew term es some r =
    run_keeps skew 0 es (first_cluster servers skew term) (first_all servers skew term 0 some) r

-- so of paths too: what they rest on, and the files that servers keep
pub all_paths : (servers skew term : ℕ) (es : List Dated) → 1 ≤ servers → IsRun skew 0 es (first_cluster servers skew term)
    → PathsHold (run es (first_cluster servers skew term))
all_paths servers skew term es some r = (all_stands servers skew term es some r).paths

pub all_rests : (servers skew term : ℕ) (es : List Dated) → 1 ≤ servers → IsRun skew 0 es (first_cluster servers skew term)
    → PathsStand (run es (first_cluster servers skew term))
all_rests servers skew term es some r =
    let w = all_stands servers skew term es some r in
    paths_stand skew (greatest_in 0 es) (run es (first_cluster servers skew term)) w.holds w.kept

pub all_kept : (servers skew term : ℕ) (es : List Dated) → 1 ≤ servers → IsRun skew 0 es (first_cluster servers skew term)
    → FilesKept (run es (first_cluster servers skew term))
all_kept servers skew term es some r = (all_stands servers skew term es some r).kept

pub all_runs : (servers skew term : ℕ) (es : List Dated) → 1 ≤ servers → IsRun skew 0 es (first_cluster servers skew term)
    → IsOneSerialRun (run es (first_cluster servers skew term))
all_runs servers skew term es some r =
    outcome skew (greatest_in 0 es) (run es (first_cluster servers skew term)) (all_stands servers skew term es some r).holds
