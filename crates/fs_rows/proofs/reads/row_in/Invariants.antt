use Rattle.std.proofs.Common.{◌≡◌, drop}
use Rattle.std.specs.List.{filter, find}
use Rattle.fs_field.specs.Table.{has_no, is_live}
use Rattle.fs_rows.proofs.reads.row_in.Given as goal

abbrev pub invariant-loop-row : goal.invariant-loop-row
invariant-loop-row l = find (has_no l.no) (filter (is_live l.now l.skew) (drop l.row-index l.rows)) ≡ find (has_no l.no) (filter (is_live l.now l.skew) l.rows)
