use Rattle.std.proofs.Common.{◌≡◌, ◌++◌, take, drop, map}
use Rattle.fs_field.specs.Table.{unlocked_row}
use Rattle.fs_field.proofs.table.unlock.Given as goal

abbrev pub invariant-loop-row : goal.invariant-loop-row
invariant-loop-row l = take l.row-index l.rows ++ map (unlocked_row l.txn) (drop l.row-index l.rows) ≡ map (unlocked_row l.txn) l.initial.rows
