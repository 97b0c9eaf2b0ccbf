-- Whole runs: events, one after another, and what comes of them.
use Rattle.std.specs.Prelude.{◌≡◌, ℕ, ◌+◌, ◌≤◌, max, List, [], ◌∷◌, ◌++◌, length}
use Rattle.fs_ident.specs.declared.actor.Session.{Session}
use Rattle.fs_model.specs.Sound.{IsSound}
use Rattle.fs_msg.specs.declared.item.Item.{Item}
use Rattle.fs_record.specs.Records.{nodes_of, RecordMap}
use Rattle.fs_server.specs.declared.event.ServerEvent.{ServerEvent}
use Rattle.fs_txn.specs.Decided.{held_with}
use Rattle.fs_serial.specs.Cluster.{CanCome, ClientEvent, Cluster, IsThere, after_client, after_server, parcels_of}
use Rattle.fs_serial.specs.Joined.{effects_on_way, records_of_all}
use Rattle.fs_serial.specs.Numbers.{AreNumbered, items_at, items_by}
use Rattle.fs_serial.specs.Places.{PlacesHold}
use Rattle.fs_serial.specs.Refusals.{rows_in}
use Rattle.fs_serial.specs.Rows.{NoRowsConflict}
use Rattle.fs_serial.specs.Serial.{AreSound, JournalSerial}

pub data ClusterEvent : Type 0 where
  AtServer : (server : ℕ) → (event : ServerEvent) → ClusterEvent
  AtClient : (by : Session) → (event : ClientEvent) → ClusterEvent

-- an event, and the reading of its actor's clock
pub record Dated : Type 0 where
  pub now : ℕ
  pub what : ClusterEvent

abbrev pub after_event : ℕ → ClusterEvent → Cluster → Cluster
after_event now (AtServer k e) c = after_server now k e c
after_event now (AtClient by e) c = after_client by now e c

-- what is told is on its way, and callers ask for what they may
abbrev pub CanHappen : ClusterEvent → Cluster → Type 0
CanHappen (AtServer k e) c = IsThere k e c
CanHappen (AtClient by e) c = CanCome by e c

abbrev pub run : List Dated → Cluster → Cluster
run [] c = c
run (e ∷ es) c = run es (after_event e.now e.what c)

abbrev pub greatest_in : ℕ → List Dated → ℕ
greatest_in greatest [] = greatest
greatest_in greatest (e ∷ es) = greatest_in (max greatest e.now) es

-- each event can happen when it does, and no reading before it is ahead of its own by more than the skew
abbrev pub IsRun : ℕ → ℕ → List Dated → Cluster → Type 0
IsRun skew greatest [] c = Unit {0}
IsRun skew greatest (e ∷ es) c =
    CanHappen e.what c × (greatest ≤ e.now + skew) × IsRun skew (max greatest e.now) es (after_event e.now e.what c)

-- what was told is in the journal as far as the journal goes, in the same order
pub record IsFrontOf (front all : List Item) : Type 0 where
  pub rest : List Item
  pub is : all ≡ front ++ rest

-- the records of the servers, and of the parcels between them
abbrev pub records_in : Cluster → RecordMap
records_in c = records_of_all c.servers (parcels_of c.in_flight)

-- what they hold together, with what is decided and not applied yet
abbrev pub held_by : Cluster → RecordMap
held_by c = held_with (effects_on_way c.in_flight) (records_in c)

-- the journal is one serial run of the namespace, in each session's order, to the space that the servers hold together, which
-- is sound; and what each session was told is what the journal has
pub record IsOneSerialRun (c : Cluster) : Type 0 where
  pub serial : JournalSerial c.journal (held_by c)
  pub sound : IsSound (nodes_of (held_by c))
  pub numbered : (x : Session) → AreNumbered 1 (items_by x c.journal) (1 + length (items_by x c.journal))
  pub reaped : (k : ℕ) → AreNumbered 1 (items_at k c.journal) (1 + length (items_at k c.journal))
  pub told : (x : Session) → IsFrontOf (items_by x c.journal) (c.replied x)

-- ## Whatever the clocks show

-- each event can happen when it does
abbrev pub CanRun : List Dated → Cluster → Type 0
CanRun [] c = Unit {0}
CanRun (e ∷ es) c = CanHappen e.what c × CanRun es (after_event e.now e.what c)

-- everything is at its place, no two rows conflict, and what the servers and the parcels between them hold together is sound
pub record IsOrderly (c : Cluster) : Type 0 where
  pub places : PlacesHold c
  pub apart : NoRowsConflict (rows_in c)
  pub sound : AreSound (held_by c)
