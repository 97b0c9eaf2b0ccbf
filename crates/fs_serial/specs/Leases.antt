-- Parts about the leases of a session.
use Rattle.std.specs.Prelude.{◌≡◌, ◌⊎◌, ℕ, ◌+◌, ◌<◌, ◌≤◌, List, Some, None}
use Rattle.fs_ident.specs.Ident.{child}
use Rattle.fs_ident.specs.In.{In}
use Rattle.fs_ident.specs.declared.actor.LeaseNo.{LeaseNo}
use Rattle.fs_ident.specs.declared.actor.Session.{Session}
use Rattle.fs_field.specs.declared.field.Field.{Field}
use Rattle.fs_field.specs.declared.field.Field.TheVariants.{Life}
use Rattle.fs_field.specs.declared.lease_kind.LeaseKind.{LeaseKind}
use Rattle.fs_field.specs.declared.lease_kind.LeaseKind.TheVariants.{Exclusive}
use Rattle.fs_field.specs.declared.row.Row.{Row}
use Rattle.fs_field.specs.declared.value.Value.{Value}
use Rattle.fs_field.specs.declared.value.Value.TheVariants as value
use Rattle.fs_serial.specs.Settled.{Lease}
use Rattle.fs_serial.specs.Sight.{IsGiven}

-- ## Backed

-- a row has the number, and ends no sooner
pub record IsBacked (rows : List Row) (wanted : LeaseNo) (until : ℕ) : Type 0 where
  pub row : Row
  pub stands : In row rows
  pub number : row.no ≡ wanted
  pub lasts : until ≤ row.until

-- each lease has its row, or has ended
abbrev pub LeasesBacked : ℕ → ℕ → List Row → List Lease → Type 0
LeasesBacked skew greatest rows leases = (l : Lease) → In l leases → greatest < l.until + skew → IsBacked rows l.no l.until

-- ## True

-- each lease whose row stands tells what its field says, unless that is of no matter any more
abbrev pub LeasesTrue : List Row → (Field → Type 0) → (Field → Value) → List Lease → Type 0
LeasesTrue rows gone values leases =
    (l : Lease) → In l leases → (r : Row) → In r rows → r.no ≡ l.no → gone l.field ⊎ (l.base ≡ values l.field)

-- ## Numbers

-- the number of each lease was given
abbrev pub LeasesGiven : (ℕ → ℕ) → List Lease → Type 0
LeasesGiven given leases = (l : Lease) → In l leases → IsGiven given l.no

-- two leases with one number are one
abbrev pub LeasesDistinct : List Lease → Type 0
LeasesDistinct leases = (l m : Lease) → In l leases → In m leases → l.no ≡ m.no → l ≡ m

-- the row is the session's, on this field and of this kind
pub record IsRowOf (by : Session) (on : Field) (of : LeaseKind) (r : Row) : Type 0 where
  pub session : r.session ≡ by
  pub field : r.field ≡ on
  pub kind : r.kind ≡ of

-- a row with a lease's number is the row of that lease
abbrev pub LeasesMatch : List Row → Session → List Lease → Type 0
LeasesMatch rows by leases = (l : Lease) → In l leases → (r : Row) → In r rows → r.no ≡ l.no → IsRowOf by l.field l.kind r

-- ## Leases on new files

-- it is the exclusive lease on the life of a file below the directory, which does not live
pub record IsFresh (dir : List ℕ) (l : Lease) : Type 0 where
  pub number : ℕ
  pub field : l.field ≡ Life (child dir number)
  pub kind : l.kind ≡ Exclusive
  pub base : l.base ≡ value.Life None

abbrev pub FreshLeases : List Lease → Type 0
FreshLeases leases = (l : Lease) → In l leases → (dir : List ℕ) → l.below ≡ Some dir → IsFresh dir l
