use Rattle.std.proofs.Common.{◌∙◌, ap, map}
use Rattle.fs_ident.specs.declared.actor.Peer.{Peer}
use Rattle.fs_window.specs.declared.link.Link.{Link}
use Rattle.fs_window.specs.Peers.{ByPeer}
use Rattle.fs_window.specs.Post.{link_sent}
use Rattle.fs_window.proofs.ByActor.{links_changed}
use Rattle.fs_window.proofs.post.Post.mark_sent.Goals as goal

pub invariant_of-self : goal.invariant_of-self
invariant_of-self c =
    let state = c.mark_touched.ensures.marked ∙ ap (λ (es : ByPeer Link). map (λ (e : Peer × Link). (e.0, link_sent e.1)) es) c.items_mut.ensures.value in
    (links_changed _ _ _ _ link_sent c.self.invariant.0 state, c.mark_touched.ensures.settled)
