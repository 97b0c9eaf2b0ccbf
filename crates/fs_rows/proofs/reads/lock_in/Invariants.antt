use Rattle.std.proofs.Common.{◌≡◌, drop}
use Rattle.std.specs.List.{filter}
use Rattle.fs_field.specs.Table.{lock_on, is_live}
use Rattle.fs_rows.proofs.reads.lock_in.Given as goal

abbrev pub invariant-loop-row : goal.invariant-loop-row
invariant-loop-row l = lock_on l.field (filter (is_live l.now l.skew) (drop l.row-index l.rows)) ≡ lock_on l.field (filter (is_live l.now l.skew) l.rows)
