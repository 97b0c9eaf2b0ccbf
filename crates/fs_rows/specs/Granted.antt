-- The rows of a table with several more.
use Rattle.std.specs.Prelude.{List, [], ◌∷◌}
use Rattle.fs_field.specs.declared.row.Row.{Row}
use Rattle.fs_field.specs.Table.{with_row}

-- the rows, and each of the first list put in, in order
abbrev pub with_rows : List Row → List Row → List Row
with_rows [] rows = rows
with_rows (r ∷ rs) rows = with_rows rs (with_row r rows)
