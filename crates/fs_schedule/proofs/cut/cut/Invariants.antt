use Rattle.std.proofs.Common.{take}
use Rattle.fs_schedule.specs.Separated.{Lacks}
use Rattle.fs_schedule.proofs.cut.cut.Given as goal

abbrev pub invariant-loop-at : goal.invariant-loop-at
invariant-loop-at l = Lacks l.b (take l.at l.bytes)
