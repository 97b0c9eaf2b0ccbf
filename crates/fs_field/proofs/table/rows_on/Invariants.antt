use Rattle.std.proofs.Common.{◌≡◌, ◌++◌, drop}
use Rattle.fs_field.specs.Table.{rows_on}
use Rattle.fs_field.proofs.table.rows_on.Given as goal

abbrev pub invariant-loop-row : goal.invariant-loop-row
invariant-loop-row l = l.told ++ rows_on l.field (drop l.row-index l.rows) ≡ rows_on l.field l.rows
