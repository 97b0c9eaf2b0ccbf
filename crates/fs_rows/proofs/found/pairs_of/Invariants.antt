use Rattle.std.proofs.Common.{◌≡◌, ◌&&◌, ◌++◌, drop, map}
use Rattle.fs_field.specs.declared.row.Row.{Row}
use Rattle.fs_field.specs.Table.{is_live}
use Rattle.fs_rows.specs.Sought.{passes}
use Rattle.fs_rows.specs.Picked.{picked}
use Rattle.fs_rows.proofs.found.pairs_of.Given as goal

abbrev pub invariant-loop-no : goal.invariant-loop-no
invariant-loop-no l = l.pairs ++ map (λ (r : Row). (r.no, r.session)) (picked (λ r. is_live l.now l.skew r && passes l.sought r) l.rows (drop l.no-index l.numbers)) ≡ map (λ (r : Row). (r.no, r.session)) (picked (λ r. is_live l.now l.skew r && passes l.sought r) l.rows l.numbers)
