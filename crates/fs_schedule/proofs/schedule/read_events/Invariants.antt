use Rattle.std.proofs.Common.{length}
use Rattle.fs_schedule.specs.Lines.{lines_of}
use Rattle.fs_schedule.proofs.Reading.{IsReadSoFar}
use Rattle.fs_schedule.proofs.schedule.read_events.Given as goal

abbrev pub decreases-loop-events : goal.decreases-loop-events
decreases-loop-events l = length l.rest

abbrev pub invariant-loop-events : goal.invariant-loop-events
invariant-loop-events l = IsReadSoFar l.head l.events (lines_of l.rest) (lines_of l.text)
