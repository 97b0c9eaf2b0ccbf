use Rattle.std.proofs.Common.{◌≡◌, ◌++◌, drop}
use Rattle.std.specs.List.{filter}
use Rattle.fs_field.specs.Table.{is_live}
use Rattle.fs_rows.specs.Live.{unlocked_on}
use Rattle.fs_rows.proofs.reads.unlocked_in.Given as goal

abbrev pub invariant-loop-row : goal.invariant-loop-row
invariant-loop-row l = l.told ++ unlocked_on l.field (filter (is_live l.now l.skew) (drop l.row-index l.rows)) ≡ unlocked_on l.field (filter (is_live l.now l.skew) l.rows)
