-- A cluster, while transactions between its servers are on their way, as each of these would see it if it had all rows and records.
use Rattle.std.specs.Prelude.{◌≡◌, ◌<◌, ℕ, false, List, length, slice_get, Option, Some, None}
use Rattle.fs_ident.specs.In.{In}
use Rattle.fs_ident.specs.declared.actor.Session.{Session}
use Rattle.fs_msg.specs.declared.answer.Answer.{Answer}
use Rattle.fs_msg.specs.declared.client_msg.ClientMsg.{ClientMsg}
use Rattle.fs_path.specs.Leases.{PathLease}
use Rattle.fs_path.specs.Tables.{PathTables, lease_of}
use Rattle.fs_path.specs.declared.having.Having.{Having}
use Rattle.fs_server.specs.declared.state.Server.{Server}
use Rattle.fs_serial.specs.Cluster.{Cluster, Lines, parcels_of}
use Rattle.fs_serial.specs.Decided.{WorldStands}
use Rattle.fs_serial.specs.Exchange.{asked_server, is_recall}
use Rattle.fs_serial.specs.Joined.{records_of_all, rows_of_all}
use Rattle.fs_serial.specs.Leading.{LedHolds}
use Rattle.fs_serial.specs.Owed.{ends_in}
use Rattle.fs_serial.specs.Places.{PlacesHold}
use Rattle.fs_serial.specs.Sight.{Counts}
use Rattle.fs_serial.specs.Words.{decided_in}
use Rattle.fs_serial.specs.World.{World}

abbrev pub given_at : Option Server → ℕ
given_at None = 0
given_at (Some s) = s.given

abbrev pub reaps_at : Option Server → ℕ
reaps_at None = 0
reaps_at (Some s) = s.reaps

abbrev pub counts_of : List Server → Counts
counts_of servers = record { given = λ k. given_at (slice_get servers k); reaps = λ k. reaps_at (slice_get servers k) }

-- the server has all rows and records
abbrev pub with_all : Server → Cluster → Server
with_all s c =
    record s { rows = rows_of_all c.servers (parcels_of c.in_flight); records = records_of_all c.servers (parcels_of c.in_flight) }

-- what is decided is on its way; what a session asked to be led is not taken until it is decided, and it is owed the answer from then on
abbrev pub world_of : Server → Cluster → World
world_of s c = record {
  server = with_all s c;
  counts = counts_of c.servers;
  decided = decided_in c;
  journal = c.journal;
  replied = c.replied;
  ends = ends_in c;
}

-- the question is on its way to the server to which it was sent, and its answer comes from there
pub record IsAddressed (l : Lines) : Type 0 where
  pub up : (m : ℕ × ClientMsg) → In m l.up → asked_server l.client.exchange ≡ Some m.0
  pub down : (m : ℕ × Answer) → In m l.down → is_recall m.1 ≡ false → asked_server l.client.exchange ≡ Some m.0

-- each path lease that the server gave out went to one of so many servers, and each that it has came from one of them
abbrev pub HasPeers : ℕ → PathTables → Type 0
HasPeers servers t =
    ((l : PathLease) → In l t.issued → l.peer < servers) × ((h : Having) → In h t.held → (lease_of h).peer < servers)

-- all that holds between events, where no reading was greater
pub record ClusterHolds (skew greatest : ℕ) (c : Cluster) : Type 0 where
  pub parts : (s : Server) → In s c.servers → WorldStands greatest (world_of s c)
  pub skewed : (s : Server) → In s c.servers → s.skew ≡ skew
  pub addressed : (x : Session) → IsAddressed (c.lines x)
  pub places : PlacesHold c
  -- votes, locks, and what is decided
  pub led : LedHolds c
  -- path leases are between servers that there are
  pub peers : (s : Server) → In s c.servers → HasPeers (length c.servers) s.paths
