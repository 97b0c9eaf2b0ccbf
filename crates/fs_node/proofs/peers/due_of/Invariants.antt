use Rattle.std.proofs.Common.{◌≡◌, ◌++◌}
use Rattle.std.specs.Vec.Iter.{into_iter_items}
use Rattle.fs_node.specs.Peers.{due_of}
use Rattle.fs_node.proofs.peers.due_of.Given as goal

-- what is due, and what is due of the packets that are left, is all
abbrev pub invariant-loop-sent : goal.invariant-loop-sent
invariant-loop-sent l = l.due ++ due_of l.peers (into_iter_items l.sent-iterator) ≡ l.initial.due ++ due_of l.peers (into_iter_items l.initial.sent-iterator)
