use Rattle.std.proofs.Common.{◌≡◌, ◌++◌, take, drop, map}
use Rattle.fs_field.specs.Table.{locked_row}
use Rattle.fs_field.proofs.table.lock_each.Given as goal

abbrev pub invariant-loop-row : goal.invariant-loop-row
invariant-loop-row l = take l.row-index l.rows ++ map (locked_row l.no l.txn) (drop l.row-index l.rows) ≡ map (locked_row l.no l.txn) l.initial.rows
