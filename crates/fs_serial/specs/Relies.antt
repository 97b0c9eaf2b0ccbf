-- What a session relies on while the servers change for another.
use Rattle.std.specs.Prelude.{◌≡◌, ◌⊎◌, ℕ, ◌+◌, ◌<◌, ◌≤◌, List, None, Some}
use Rattle.std.specs.FinMap.{get}
use Rattle.fs_ident.specs.In.{In}
use Rattle.fs_ident.specs.declared.actor.Session.{Session}
use Rattle.fs_ident.specs.declared.kind.Kind.TheVariants.{Dir}
use Rattle.fs_field.specs.declared.row.Row.{Row}
use Rattle.fs_record.specs.Records.{node_of}
use Rattle.fs_record.specs.ValueOf.{value_of}
use Rattle.fs_serial.specs.Fresh.{IsMade, made}
use Rattle.fs_serial.specs.Gone.{IsOfGone}
use Rattle.fs_serial.specs.Leases.{IsBacked}
use Rattle.fs_serial.specs.Numbers.{items_by}
use Rattle.fs_serial.specs.Sight.{Sight, IsGiven}

-- a row of the same lease stands among these
pub record Stood (rows : List Row) (r : Row) : Type 0 where
  pub row : Row
  pub stood : In row rows
  pub number : row.no ≡ r.no
  pub session : row.session ≡ r.session
  pub field : row.field ≡ r.field
  pub kind : row.kind ≡ r.kind

pub record Relies (skew greatest : ℕ) (by : Session) (s t : Sight) : Type 0 where
  -- numbers only rise
  pub given : (k : ℕ) → s.given k ≤ t.given k
  -- a row with an old number stood before
  pub older : (r : Row) → In r t.rows → IsGiven s.given r.no → Stood s.rows r
  -- its own rows are kept until they have ended
  pub kept : (r : Row) → In r s.rows → r.session ≡ by → greatest < r.until + skew → IsBacked t.rows r.no r.until
  -- what its own rows are on says the same, but for size and stamp of a file that went
  pub values : (r : Row) → In r t.rows → IsGiven s.given r.no → r.session ≡ by
      → IsOfGone t.records s.journal r.field ⊎ (value_of t.records by r.field ≡ value_of s.records by r.field)
  -- what was made stays made, and once it lives no more it stays gone
  pub dirs : (file : List ℕ) → made s.journal file ≡ Some Dir → made t.journal file ≡ Some Dir
  pub made : (file : List ℕ) → IsMade s.journal file → IsMade t.journal file
  pub gone : (file : List ℕ) → IsMade s.journal file → node_of (get s.records file) ≡ None → node_of (get t.records file) ≡ None
  -- its own operations in the journal are the same
  pub items : items_by by t.journal ≡ items_by by s.journal
