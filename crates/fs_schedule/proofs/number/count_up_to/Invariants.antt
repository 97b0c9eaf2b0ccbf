use Rattle.std.proofs.Common.{take}
use Rattle.fs_schedule.proofs.Digits.{IsTold}
use Rattle.fs_schedule.proofs.number.count_up_to.Given as goal

abbrev pub invariant-loop-at : goal.invariant-loop-at
invariant-loop-at l = IsTold l.most (take l.at l.digits) l.number
