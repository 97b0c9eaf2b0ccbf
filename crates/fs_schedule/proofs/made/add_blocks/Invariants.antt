use Rattle.fs_schedule.proofs.Making.{IsMade}
use Rattle.fs_schedule.proofs.made.add_blocks.Given as goal

abbrev pub invariant-loop-b : goal.invariant-loop-b
invariant-loop-b l = IsMade l.n l.b l.initial.events l.events l.state
