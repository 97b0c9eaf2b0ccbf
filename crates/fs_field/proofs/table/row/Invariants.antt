use Rattle.std.proofs.Common.{◌≡◌, drop}
use Rattle.std.specs.List.{find}
use Rattle.fs_field.specs.Table.{has_no}
use Rattle.fs_field.proofs.table.row.Given as goal

abbrev pub invariant-loop-row : goal.invariant-loop-row
invariant-loop-row l = find (has_no l.no) l.rows ≡ find (has_no l.no) (drop l.row-index l.rows)
