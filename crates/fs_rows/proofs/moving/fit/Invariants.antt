use Rattle.std.proofs.Common.{◌≡◌, length}
use Rattle.std.specs.List.{filter}
use Rattle.fs_field.specs.Table.{is_live}
use Rattle.fs_rows.specs.Moving.{fits}
use Rattle.fs_rows.proofs.moving.fit.Given as goal

abbrev pub invariant-loop-row : goal.invariant-loop-row
invariant-loop-row l = fits (filter (is_live l.now l.skew) l.rows) l.before ≡ fits (filter (is_live l.now l.skew) l.rows) l.more

abbrev pub decreases-loop-row : goal.decreases-loop-row
decreases-loop-row l = length l.before
