use Rattle.std.proofs.Common.{take}
use Rattle.fs_schedule.proofs.Skews.{IsSeen}
use Rattle.fs_schedule.proofs.skew.first_skew.Given as goal

abbrev pub invariant-loop-at : goal.invariant-loop-at
invariant-loop-at l = IsSeen l.skew (take l.at l.events) l.greatest
