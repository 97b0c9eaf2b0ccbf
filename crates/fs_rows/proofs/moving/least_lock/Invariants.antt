use Rattle.std.proofs.Common.{◌≡◌, drop}
use Rattle.std.specs.List.{filter}
use Rattle.fs_field.specs.Table.{is_live}
use Rattle.fs_rows.specs.Moving.{least_of, locked_in}
use Rattle.fs_rows.proofs.moving.least_lock.Given as goal

abbrev pub invariant-loop-row : goal.invariant-loop-row
invariant-loop-row l = least_of l.least (locked_in l.prefix l.map l.me (filter (is_live l.now l.skew) (drop l.row-index l.rows))) ≡ locked_in l.prefix l.map l.me (filter (is_live l.now l.skew) l.rows)
