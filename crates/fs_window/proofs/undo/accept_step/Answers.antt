use Rattle.std.proofs.Common.{◌∙◌, sym}
use Rattle.fs_window.specs.declared.link.Link.{Link}
use Rattle.fs_window.specs.Peers.{IsPlaceOf, IsGapFor}
use Rattle.fs_window.specs.Post.{new_link, link_accepted}
use Rattle.fs_window.proofs.Undone.{restored_told, restored_made}
use Rattle.fs_window.proofs.undo.accept_step.Goals as goal

pub returns-in_ok-heard-in-Ok-clause-step : goal.returns-in_ok-heard-in-Ok-clause-step
returns-in_ok-heard-in-Ok-clause-step c =
    let new = new_link c.args.width in
    let place : IsPlaceOf c.args.links.now c.args.from c.in-Ok.at = rw c.as_slice.ensures at c.in-Ok.ensures.found in
    let heard = c.in_ok-heard-in-Ok in
    restored_told c.args.links.now c.accept_at.new.links c.args.from _ new (λ (l : Link). link_accepted l c.args.p.now) heard.before c.requires.ordered
    (place.value (c.args.from, new)) (heard.ensures.state new) (heard.ensures.before new)

pub returns-in_ok-insert-in-Err-clause-step : goal.returns-in_ok-insert-in-Err-clause-step
returns-in_ok-insert-in-Err-clause-step c =
    let gap : IsGapFor c.args.links.now c.args.from c.in-Err.at = rw c.as_slice.ensures at c.in-Err.ensures.absent in
    restored_made c.args.links.now c.insert.new.self c.args.from c.accept.new.self c.requires.ordered gap.absent (c.in_ok-insert-in-Err.ensures.ok ∙ sym (gap.more c.accept.new.self))
