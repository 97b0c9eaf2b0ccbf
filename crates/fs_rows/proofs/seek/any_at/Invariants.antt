use Rattle.std.proofs.Common.{◌≡◌, drop}
use Rattle.std.specs.List.{filter}
use Rattle.fs_field.specs.Table.{is_live}
use Rattle.fs_rows.specs.Borne.{any_has}
use Rattle.fs_rows.proofs.seek.any_at.Given as goal

abbrev pub invariant-loop-no : goal.invariant-loop-no
invariant-loop-no l = any_has (drop l.no-index l.numbers) (filter (is_live l.now l.skew) l.rows) ≡ any_has l.numbers (filter (is_live l.now l.skew) l.rows)
