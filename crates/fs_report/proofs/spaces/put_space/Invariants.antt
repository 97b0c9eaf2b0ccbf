use Rattle.std.proofs.Common.{◌≡◌, ◌++◌, take}
use Rattle.std.specs.Prelude.{flat_map}
use Rattle.std.specs.FinMap.{get}
use Rattle.fs_report.specs.Report.{file_text}
use Rattle.fs_report.proofs.spaces.put_space.Given as goal

abbrev pub invariant-loop-id : goal.invariant-loop-id
invariant-loop-id l = l.out.items ≡ l.initial.out.items ++ flat_map (λ id. file_text id (get l.s id)) (take l.id-index l.id-items)
