use Rattle.std.proofs.Common.{◌≡◌, ◌+◌, ◌++◌, drop}
use Rattle.fs_report.specs.Report.{items_text}
use Rattle.farsite.proofs.replay.items.Given as goal

abbrev pub invariant-loop-at : goal.invariant-loop-at
invariant-loop-at l = l.out.items ++ items_text (l.at + 1) (drop l.at l.i-items) ≡ l.initial.out.items ++ items_text 1 l.i-items
