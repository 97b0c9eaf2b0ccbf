use Rattle.std.proofs.Common.{◌≡◌, drop}
use Rattle.fs_node.specs.Peers.{addr_of}
use Rattle.fs_node.proofs.peers.addr_of.Given as goal

-- of the actors that are left the same comes as of all
abbrev pub invariant-loop-peer : goal.invariant-loop-peer
invariant-loop-peer l = addr_of (drop l.peer-index l.peers) l.who ≡ addr_of l.peers l.who
