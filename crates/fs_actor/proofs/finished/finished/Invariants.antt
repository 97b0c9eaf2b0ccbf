use Rattle.std.proofs.Common.{◌≡◌, ◌++◌, take, map}
use Rattle.fs_server.specs.Ships.{item_of}
use Rattle.fs_actor.proofs.finished.finished.Given as goal

abbrev pub invariant-loop-entry : goal.invariant-loop-entry
invariant-loop-entry l = l.items ≡ l.initial.items ++ map (item_of l.s) (take l.entry-index l.entry-items)
