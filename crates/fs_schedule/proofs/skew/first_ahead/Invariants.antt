use Rattle.std.proofs.Common.{◌+◌, take}
use Rattle.fs_schedule.specs.Ahead.{AllReadBelow}
use Rattle.fs_schedule.proofs.skew.first_ahead.Given as goal

abbrev pub invariant-loop-at : goal.invariant-loop-at
invariant-loop-at l = AllReadBelow (l.reading + l.skew) (take l.at l.events)
