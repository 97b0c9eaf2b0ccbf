use Rattle.std.proofs.Common.{◌≡◌, ◌++◌, vec_len}
use Rattle.fs_window.proofs.queue.queue_of.Given as goal

-- what is left, and what was moved
abbrev pub invariant-loop-segment : goal.invariant-loop-segment
invariant-loop-segment l = l.left.items ++ l.queue ≡ l.fn.segments

abbrev pub decreases-loop-segment : goal.decreases-loop-segment
decreases-loop-segment l = vec_len l.left
