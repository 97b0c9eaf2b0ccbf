use Rattle.fs_window.specs.Peers.{IsPlaceOf}
use Rattle.fs_window.specs.Post.{new_link}
use Rattle.fs_window.proofs.Undone.{restored_here}
use Rattle.fs_window.proofs.undo.restore.Goals as goal

pub returns-in-Some : goal.returns-in-Some
returns-in-Some c =
    let place : IsPlaceOf c.args.links.now c.args.step.peer c.in-Ok.at = rw c.as_slice.ensures at c.in-Ok.ensures.found in
    let here = place.value (c.args.step.peer, new_link 1) in
    restored_here c.args.links.now c.restore_at.new.links c.args.step c.in-Some.before _ c.in-Some.is here (c.restore_at.ensures _ here)
