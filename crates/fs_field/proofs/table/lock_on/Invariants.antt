use Rattle.std.proofs.Common.{◌≡◌, drop}
use Rattle.fs_field.specs.Table.{lock_on}
use Rattle.fs_field.proofs.table.lock_on.Given as goal

abbrev pub invariant-loop-row : goal.invariant-loop-row
invariant-loop-row l = lock_on l.field l.rows ≡ lock_on l.field (drop l.row-index l.rows)
