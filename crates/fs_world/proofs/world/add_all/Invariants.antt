use Rattle.std.proofs.Common.{◌≡◌, ◌++◌, take}
use Rattle.fs_world.proofs.world.add_all.Given as goal

abbrev pub invariant-loop-e : goal.invariant-loop-e
invariant-loop-e l = l.effects ≡ l.initial.effects ++ take l.e-index l.more
