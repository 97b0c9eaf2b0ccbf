use Rattle.std.proofs.Common.{◌≡◌, drop}
use Rattle.fs_record.specs.Applied.{records_after_all}
use Rattle.fs_serial.proofs.space.joined.Given as goal

-- with what is left of what was decided, it is as it will be
abbrev pub invariant-loop-e : goal.invariant-loop-e
invariant-loop-e l = records_after_all l.all (drop l.e-index l.e-items) ≡ records_after_all l.initial.all l.e-items
