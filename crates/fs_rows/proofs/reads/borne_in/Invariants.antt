use Rattle.std.proofs.Common.{◌≡◌, ◌++◌, drop}
use Rattle.std.specs.List.{filter}
use Rattle.fs_field.specs.Table.{borne_numbers, is_live}
use Rattle.fs_rows.proofs.reads.borne_in.Given as goal

abbrev pub invariant-loop-row : goal.invariant-loop-row
invariant-loop-row l = l.told ++ borne_numbers l.dir (filter (is_live l.now l.skew) (drop l.row-index l.rows)) ≡ borne_numbers l.dir (filter (is_live l.now l.skew) l.rows)
