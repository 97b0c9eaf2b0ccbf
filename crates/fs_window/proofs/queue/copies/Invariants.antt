use Rattle.std.proofs.Common.{◌≡◌, ◌++◌}
use Rattle.fs_window.proofs.queue.copies.Given as goal

-- what was copied, and what is left
abbrev pub invariant-loop-value : goal.invariant-loop-value
invariant-loop-value g l = l.twin ++ l.value-iterator ≡ l.queue
