use Rattle.std.proofs.Common.{◌∙◌, sym}
use Rattle.fs_window.specs.declared.link.Link.{Link}
use Rattle.fs_window.specs.Peers.{IsPlaceOf, IsGapFor}
use Rattle.fs_window.specs.Post.{new_link, link_pushed}
use Rattle.fs_window.proofs.Undone.{restored_told, restored_made}
use Rattle.fs_window.proofs.undo.push_step.Goals as goal

pub returns-in_ok-push_at-in-Ok-clause-step : goal.returns-in_ok-push_at-in-Ok-clause-step
returns-in_ok-push_at-in-Ok-clause-step c =
    let new = new_link c.args.width in
    let place : IsPlaceOf c.args.links.now c.args.to c.in-Ok.at = rw c.as_slice.ensures at c.in-Ok.ensures.found in
    let pushed = c.in_ok-push_at-in-Ok in
    restored_told c.args.links.now c.push_at.new.links c.args.to _ new (λ (l : Link). link_pushed l c.args.message.now) pushed.field-0 c.requires.ordered
    (place.value (c.args.to, new)) (pushed.ensures.ok new) (pushed.ensures.before new)

pub returns-in_ok-insert-in-Err-clause-step : goal.returns-in_ok-insert-in-Err-clause-step
returns-in_ok-insert-in-Err-clause-step c =
    let gap : IsGapFor c.args.links.now c.args.to c.in-Err.at = rw c.as_slice.ensures at c.in-Err.ensures.absent in
    restored_made c.args.links.now c.insert.new.self c.args.to c.push.new.self c.requires.ordered gap.absent (c.in_ok-insert-in-Err.ensures.ok ∙ sym (gap.more c.push.new.self))
