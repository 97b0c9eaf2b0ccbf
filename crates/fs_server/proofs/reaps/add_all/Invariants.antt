use Rattle.std.proofs.Common.{◌≡◌, ◌++◌}
use Rattle.std.specs.Vec.Iter.{into_iter_items}
use Rattle.fs_server.proofs.reaps.add_all.Given as goal

abbrev pub invariant-loop-e : goal.invariant-loop-e
invariant-loop-e l = l.effects ++ into_iter_items l.e-iterator ≡ l.initial.effects ++ into_iter_items l.initial.e-iterator
