use Rattle.std.proofs.Common.{◌≡◌}
use Rattle.fs_schedule.specs.Made.{each, turns, with_events}
use Rattle.fs_schedule.proofs.made.add_turns.Given as goal

abbrev pub invariant-loop-k : goal.invariant-loop-k
invariant-loop-k l = l.events ≡ with_events l.initial.events (each turns l.k)
