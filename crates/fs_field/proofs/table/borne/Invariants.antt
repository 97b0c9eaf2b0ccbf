use Rattle.std.proofs.Common.{◌≡◌, ◌++◌, drop}
use Rattle.fs_field.specs.Table.{borne_numbers}
use Rattle.fs_field.proofs.table.borne.Given as goal

abbrev pub invariant-loop-row : goal.invariant-loop-row
invariant-loop-row l = l.told ++ borne_numbers l.dir (drop l.row-index l.rows) ≡ borne_numbers l.dir l.rows
