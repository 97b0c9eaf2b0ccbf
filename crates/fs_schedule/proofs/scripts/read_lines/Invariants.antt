use Rattle.std.proofs.Common.{length}
use Rattle.fs_schedule.specs.Lines.{lines_of}
use Rattle.fs_schedule.proofs.ScriptLaws.{IsScriptSoFar}
use Rattle.fs_schedule.proofs.scripts.read_lines.Given as goal

abbrev pub decreases-loop-script : goal.decreases-loop-script
decreases-loop-script l = length l.rest

abbrev pub invariant-loop-script : goal.invariant-loop-script
invariant-loop-script l = IsScriptSoFar l.client l.head l.script (lines_of l.rest) (lines_of l.text)
