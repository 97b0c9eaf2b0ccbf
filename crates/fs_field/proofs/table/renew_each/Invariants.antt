use Rattle.std.proofs.Common.{◌≡◌, ◌++◌, take, drop, map}
use Rattle.fs_field.specs.Table.{renewed_row}
use Rattle.fs_field.proofs.table.renew_each.Given as goal

abbrev pub invariant-loop-row : goal.invariant-loop-row
invariant-loop-row l = take l.row-index l.rows ++ map (renewed_row l.no l.until) (drop l.row-index l.rows) ≡ map (renewed_row l.no l.until) l.initial.rows
