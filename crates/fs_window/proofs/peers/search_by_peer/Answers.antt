use Rattle.std.proofs.Common.{rules}
use Rattle.std.proofs.lemmas.Fn.{always_returns_same}
use Rattle.fs_ident.specs.declared.actor.Peer.{Peer}
use Rattle.fs_window.specs.Peers.{peer_cmp}
use Rattle.fs_window.proofs.PeerOrder.{searched}
use Rattle.fs_window.proofs.peers.search_by_peer.Goals as goal

pub returns : goal.returns
returns g c =
    let facts = c.binary_search_by.ensures in
    let by_peer = facts.position (λ (entry : Peer × g.row.V.Denot). peer_cmp entry.0 c.args.peer) (always_returns_same _ _ _ (λ a r q k. search rules)) in
    let both = searched c.args.entries.now c.args.peer c.binary_search_by.result c.requires facts.bound by_peer in
    record { found = both.0; absent = both.1 }
