use Rattle.std.proofs.Common.{length}
use Rattle.fs_server.specs.Step.{AreNumbersLeft}
use Rattle.tests_cores.proofs.server.are_numbers_left.Given as goal

-- those before have numbers left
abbrev pub invariant-loop-first : goal.invariant-loop-first
invariant-loop-first l = AreNumbersLeft l.rest → AreNumbersLeft l.records

abbrev pub decreases-loop-first : goal.decreases-loop-first
decreases-loop-first l = length l.rest
