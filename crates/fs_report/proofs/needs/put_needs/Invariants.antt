use Rattle.std.proofs.Common.{◌≡◌, ◌++◌, take}
use Rattle.std.specs.Prelude.{codes, flat_map}
use Rattle.fs_report.specs.Notes.{need_text}
use Rattle.fs_report.proofs.needs.put_needs.Given as goal

abbrev pub invariant-loop-need : goal.invariant-loop-need
invariant-loop-need l = l.out.items ≡ l.initial.out.items ++ flat_map (λ m. codes ", " ++ need_text m) (take l.need-index l.rest)
