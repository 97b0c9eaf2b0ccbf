use Rattle.std.proofs.Common.{◌≡◌, None, replicate}
use Rattle.fs_window.proofs.kept.behind_holes.Given as goal

abbrev pub invariant-loop : goal.invariant-loop
invariant-loop l = l.slots ≡ replicate l.counter None
