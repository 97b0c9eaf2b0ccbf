use Rattle.std.proofs.Common.{length}
use Rattle.fs_schedule.specs.Reading.{words_in}
use Rattle.fs_schedule.proofs.Cuts.{IsSplit}
use Rattle.fs_schedule.proofs.words.words_of.Given as goal

abbrev pub decreases-loop-word : goal.decreases-loop-word
decreases-loop-word l = length l.rest

abbrev pub invariant-loop-word : goal.invariant-loop-word
invariant-loop-word l = IsSplit (words_in l.words) l.rest l.line
