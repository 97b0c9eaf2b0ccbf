-- What every table of rows on modes is.
use Rattle.std.specs.Prelude.{◌≡◌, Bool, true, false, not, ◌&&◌, List, Option, is_some}
use Rattle.fs_ident.specs.In.{In}
use Rattle.fs_field.specs.declared.field.Field.{Field}
use Rattle.fs_field.specs.declared.field.Field.TheVariants.{SelfW, Other}
use Rattle.fs_field.specs.declared.lease_kind.LeaseKind.{LeaseKind}
use Rattle.fs_field.specs.declared.row.Row.{Row}
use Rattle.fs_field.specs.Conflict.{is_exclusive}
use Rattle.fs_field.specs.Field.{tells_no_mode}
use Rattle.fs_field.specs.Table.{is_ordered}

-- numbers rise, and each row is on what sessions tell of modes
pub record IsModeTable (rows : List Row) : Type 0 where
  pub ordered : is_ordered rows ≡ true
  pub on_modes : (row : Row) → In row rows → tells_no_mode row.field ≡ false

-- ## What servers give

-- a lease on what a session itself tells of a mode is exclusive and promises nothing; one on what others tell is shared
-- and promises it
abbrev pub is_of_mode : Field → LeaseKind → Option Bool → Bool
is_of_mode (SelfW f m) kind promise = is_exclusive kind && not (is_some promise)
is_of_mode (Other f m) kind promise = not (is_exclusive kind) && is_some promise
is_of_mode field kind promise = false
