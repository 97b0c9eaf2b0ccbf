use Rattle.std.proofs.Common.{◌≡◌, drop}
use Rattle.std.specs.List.{filter, find}
use Rattle.fs_field.specs.Table.{is_live}
use Rattle.fs_moderows.specs.Sought.{passes}
use Rattle.fs_moderows.proofs.sought.first_in.Given as goal

abbrev pub invariant-loop-row : goal.invariant-loop-row
invariant-loop-row l = find (passes l.sought) (filter (is_live l.now l.skew) (drop l.row-index l.rows)) ≡ find (passes l.sought) (filter (is_live l.now l.skew) l.rows)
