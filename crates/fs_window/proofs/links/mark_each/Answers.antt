use Rattle.std.proofs.Common.{ap, get_or, rules}
use Rattle.std.proofs.lemmas.List.Edits.{map_over_more}
use Rattle.fs_ident.specs.declared.actor.Peer.{Peer}
use Rattle.fs_window.specs.declared.link.Link.{Link}
use Rattle.fs_window.specs.Post.{link_sent}
use Rattle.fs_window.proofs.links.mark_each.Goals as goal

pub loop-entry-preserved : goal.loop-entry-preserved
loop-entry-preserved c =
    let here = c.loop-entry.entry-index in
    rw c.mark_one.ensures
    (map_over_more (λ (e : Peer × Link). (e.0, link_sent e.1)) c.args.links.now c.loop-entry.links here _ (search rules) c.loop-entry.invariant
    (ap (λ (e : Peer × Link). get_or c.loop-entry.links here e) c.entry-item.is))
