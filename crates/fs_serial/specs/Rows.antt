-- Parts about rows alone.
use Rattle.std.specs.Prelude.{◌≡◌, ◌≤◌, ℕ, true, List}
use Rattle.fs_field.specs.declared.row.Row.{Row}
use Rattle.fs_field.specs.Conflict.{NoPlainConflict}
use Rattle.fs_ident.specs.In.{In}
use Rattle.fs_moderows.specs.Kept.{KeptPromises}
use Rattle.fs_record.specs.Records.{RecordMap}
use Rattle.fs_record.specs.ValueOf.{selves_in}
use Rattle.fs_server.specs.Plan.{is_shaped}
use Rattle.fs_serial.specs.Sight.{IsGiven}

-- no two rows conflict by their sessions, fields and kinds alone
abbrev pub NoRowsConflict : List Row → Type 0
NoRowsConflict rows = NoPlainConflict rows

-- what each session was told of the others' modes is so, and stays so as long as others change what they have by their
-- rows alone
abbrev pub PromisesKept : RecordMap → List Row → Type 0
PromisesKept m rows = KeptPromises (selves_in m) rows

-- a row on what sessions tell of modes is as it has to be
abbrev pub RowsShaped : List Row → Type 0
RowsShaped rows = (r : Row) → In r rows → is_shaped r ≡ true

-- the numbers of leases begin with 1
abbrev pub RowsCounted : List Row → Type 0
RowsCounted rows = (r : Row) → In r rows → 1 ≤ r.no.count

-- each row has a number that was given
abbrev pub RowsGiven : (ℕ → ℕ) → List Row → Type 0
RowsGiven given rows = (r : Row) → In r rows → IsGiven given r.no
