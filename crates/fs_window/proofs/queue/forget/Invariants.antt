use Rattle.std.proofs.Common.{◌≡◌, drop}
use Rattle.fs_window.proofs.queue.forget.Given as goal

abbrev pub invariant-loop : goal.invariant-loop
invariant-loop g l = l.queue ≡ drop l.counter l.fn.queue
