use Rattle.std.proofs.Common.{◌≡◌, ◌&&◌, take}
use Rattle.std.specs.List.{find}
use Rattle.std.specs.Option.{option_copied}
use Rattle.fs_field.specs.Table.{is_live}
use Rattle.fs_rows.specs.Index.{has_number}
use Rattle.fs_rows.specs.Sought.{passes}
use Rattle.fs_rows.proofs.seek.least_among.Given as goal

abbrev pub invariant-loop-no : goal.invariant-loop-no
invariant-loop-no l = option_copied l.least ≡ find (λ r. has_number r.no (take l.no-index l.numbers) && (is_live l.now l.skew r && passes l.sought r)) l.rows
