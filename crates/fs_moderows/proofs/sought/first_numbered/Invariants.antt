use Rattle.std.proofs.Common.{◌≡◌, ◌&&◌, drop}
use Rattle.std.specs.List.{filter, find}
use Rattle.fs_field.specs.Table.{is_live}
use Rattle.fs_moderows.specs.Index.{is_on}
use Rattle.fs_moderows.specs.Sought.{file_sought, passes}
use Rattle.fs_moderows.proofs.sought.first_numbered.Given as goal

abbrev pub invariant-loop-no : goal.invariant-loop-no
invariant-loop-no l = find (λ r. is_live l.now l.skew r && passes l.sought r) (drop l.no-index (filter (is_on (file_sought l.sought)) l.rows)) ≡ find (passes l.sought) (filter (is_live l.now l.skew) l.rows)
