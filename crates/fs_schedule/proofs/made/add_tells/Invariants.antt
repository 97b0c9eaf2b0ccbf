use Rattle.std.proofs.Common.{◌≡◌}
use Rattle.fs_schedule.specs.Made.{tells, with_events}
use Rattle.fs_schedule.proofs.made.add_tells.Given as goal

abbrev pub invariant-loop-k : goal.invariant-loop-k
invariant-loop-k l = l.events ≡ with_events l.initial.events (tells l.k)
