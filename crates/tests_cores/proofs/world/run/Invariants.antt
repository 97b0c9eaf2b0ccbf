use Rattle.fs_schedule.specs.declared.event.What.{What}
use Rattle.fs_world.specs.World.{FitsWorld, first_world}
use Rattle.tests_cores.proofs.world.run.Given as goal

-- what may happen to the first world may happen to this one
abbrev pub invariant-loop-event : goal.invariant-loop-event
invariant-loop-event l = (what : What) → FitsWorld (first_world l.schedule.head) what → FitsWorld l.world what
