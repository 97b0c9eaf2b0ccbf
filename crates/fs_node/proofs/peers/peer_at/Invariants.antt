use Rattle.std.proofs.Common.{◌≡◌, drop}
use Rattle.fs_node.specs.Peers.{peer_at}
use Rattle.fs_node.proofs.peers.peer_at.Given as goal

-- of the actors that are left the same comes as of all
abbrev pub invariant-loop-peer : goal.invariant-loop-peer
invariant-loop-peer l = peer_at (drop l.peer-index l.peers) l.at ≡ peer_at l.peers l.at
