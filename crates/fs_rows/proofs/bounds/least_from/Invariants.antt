use Rattle.std.proofs.Common.{◌≡◌, drop}
use Rattle.fs_rows.specs.Bounds.{least_end}
use Rattle.fs_rows.proofs.bounds.least_from.Given as goal

abbrev pub invariant-loop-row : goal.invariant-loop-row
invariant-loop-row l = least_end l.least (drop l.row-index l.rows) ≡ least_end 18446744073709551615 l.rows
