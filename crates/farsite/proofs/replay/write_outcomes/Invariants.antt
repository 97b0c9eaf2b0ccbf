use Rattle.std.proofs.Common.{◌≡◌, ◌+◌, ◌++◌, drop}
use Rattle.fs_report.specs.Report.{outcomes_text}
use Rattle.farsite.proofs.replay.write_outcomes.Given as goal

abbrev pub invariant-loop-at : goal.invariant-loop-at
invariant-loop-at l = l.out.items ++ outcomes_text (l.at + 1) (drop l.at l.o-items) ≡ l.initial.out.items ++ outcomes_text 1 l.o-items
