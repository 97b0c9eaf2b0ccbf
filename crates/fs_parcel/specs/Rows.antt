-- The rows of a server, which stand in two tables.
use Rattle.std.specs.Prelude.{◌≡◌, ◌||◌, Bool, true, not, List}
use Rattle.std.specs.List.{filter}
use Rattle.fs_field.specs.Conflict.{NoPlainConflict}
use Rattle.fs_field.specs.Field.{tells_no_mode}
use Rattle.fs_field.specs.Table.{is_ordered}
use Rattle.fs_field.specs.declared.row.Row.{Row}
use Rattle.fs_moderows.specs.Table.{is_of_mode}
use Rattle.fs_rows.specs.Granted.{with_rows}

-- the row is no part of what sessions tell of modes
abbrev pub is_off_modes : Row → Bool
is_off_modes row = tells_no_mode row.field

abbrev pub rows_off_modes : List Row → List Row
rows_off_modes rows = filter is_off_modes rows

abbrev pub rows_on_modes : List Row → List Row
rows_on_modes rows = filter (λ r. not (is_off_modes r)) rows

-- those of both tables, in order of number
abbrev pub in_one_list : List Row → List Row → List Row
in_one_list plain modes = with_rows modes plain

-- both tables make one list in order: no number stands in both
abbrev pub are_one_list : List Row → List Row → Bool
are_one_list plain modes = is_ordered (in_one_list plain modes)

-- the rows in order of number; no two of them conflict by their sessions, fields and kinds alone
pub record AreRows (rows : List Row) : Type 0 where
  pub ordered : is_ordered rows ≡ true
  pub free : NoPlainConflict rows

-- a lease that a server gives on what sessions tell of modes is as it has to be
abbrev pub is_shaped : Row → Bool
is_shaped row = tells_no_mode row.field || is_of_mode row.field row.kind row.promise
