use Rattle.std.proofs.Common.{◌≡◌, ◌++◌, drop}
use Rattle.fs_server.proofs.concludes.copy_of_all.Given as goal

abbrev pub invariant-loop-e : goal.invariant-loop-e
invariant-loop-e l = l.copies ++ drop l.e-index l.effects ≡ l.effects
