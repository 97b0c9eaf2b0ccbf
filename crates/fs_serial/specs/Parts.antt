-- The parts of the invariant, together.
use Rattle.std.specs.Prelude.{ℕ, ◌==◌, List, if◌then◌else◌}
use Rattle.fs_ident.specs.declared.actor.Session.{Session}
use Rattle.fs_msg.specs.declared.item.Item.{Item}
use Rattle.fs_record.specs.ValueOf.{value_of}
use Rattle.fs_serial.specs.Fresh.{LivesTold, NodesMade, FreshReserved, reserved_by}
use Rattle.fs_serial.specs.Gone.{IsOfGone}
use Rattle.fs_serial.specs.Leases.{LeasesBacked, LeasesTrue, LeasesGiven, LeasesDistinct, LeasesMatch, FreshLeases}
use Rattle.fs_serial.specs.Led.{LedFits}
use Rattle.fs_serial.specs.Numbers.{NumbersInOrder, ReapsInOrder, RepliesKept}
use Rattle.fs_serial.specs.Pending.{PendingStand, UsesHeld, UsesBacked, AreEntries, NamedOnce, RefusedGone}
use Rattle.fs_serial.specs.Rows.{NoRowsConflict, PromisesKept, RowsCounted, RowsShaped, RowsGiven}
use Rattle.fs_serial.specs.Serial.{JournalSerial, AreSound}
use Rattle.fs_serial.specs.Settled.{Settled}
use Rattle.fs_serial.specs.Sight.{Sight}

-- ## At the servers

-- what is promised
pub record ServersHold (s : Sight) : Type 0 where
  pub apart : NoRowsConflict s.rows
  pub promises : PromisesKept s.records s.rows
  pub serial : JournalSerial s.journal s.records
  pub reaped : ReapsInOrder s.reaps s.journal

-- and what keeps it so
pub record ServersFit (s : Sight) : Type 0 where
  pub shaped : RowsShaped s.rows
  pub counted : RowsCounted s.rows
  pub given : RowsGiven s.given s.rows
  pub sound : AreSound s.records
  pub made : NodesMade s.records s.journal

-- ## Of a session, and the client as it will be

-- what is promised
pub record SessionHolds (skew greatest : ℕ) (s : Sight) (by : Session) (replied : List Item) (d : Settled) : Type 0 where
  pub backed : LeasesBacked skew greatest s.rows d.leases
  pub telling : LeasesTrue s.rows (IsOfGone s.records s.journal) (value_of s.records by) d.leases
  pub pending : PendingStand s.rows by (value_of s.records by) d.log
  pub numbers : NumbersInOrder by s.journal d.log d.next
  pub replies : RepliesKept by s.journal d.log replied

-- and what keeps it so
pub record SessionFits (skew greatest : ℕ) (s : Sight) (by : Session) (d : Settled) : Type 0 where
  pub given : LeasesGiven s.given d.leases
  pub distinct : LeasesDistinct d.leases
  pub matching : LeasesMatch s.rows by d.leases
  pub fresh : FreshLeases d.leases
  pub lives : LivesTold s.journal d.leases
  pub held : UsesHeld d.leases d.log
  pub backed : UsesBacked skew greatest s.rows d.log
  pub entries : AreEntries d.log
  pub once : NamedOnce d.log
  pub refused : RefusedGone s.rows d.log d.over
  pub led : LedFits skew greatest s by d d.led

-- ## Together

-- each session with its client as it will be, and what it was told; a directory whose removal is on its way still gives identifiers
pub record AllHold (skew greatest : ℕ) (s : Sight) (replied : Session → List Item) (clients : Session → Settled) : Type 0 where
  pub servers : ServersHold s
  pub kept : ServersFit s
  pub sessions : (x : Session) → SessionHolds skew greatest s x (replied x) (clients x)
  pub fitting : (x : Session) → SessionFits skew greatest s x (clients x)
  pub reserved : FreshReserved (reserved_by clients) s.stored s.journal

-- the session's client is this now
abbrev pub with_client : Session → Settled → (Session → Settled) → Session → Settled
with_client by d clients x = if by.0 == x.0 then d else clients x

-- what the session was told is this now
abbrev pub with_replies : Session → List Item → (Session → List Item) → Session → List Item
with_replies by is replied x = if by.0 == x.0 then is else replied x
