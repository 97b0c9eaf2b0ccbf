use Rattle.std.proofs.Common.{◌≡◌, drop}
use Rattle.fs_window.proofs.queue.values_from.Given as goal

abbrev pub invariant-loop : goal.invariant-loop
invariant-loop g l = l.values ≡ drop l.counter l.queue
