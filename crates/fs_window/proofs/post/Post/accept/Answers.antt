use Rattle.fs_window.specs.Post.{new_link}
use Rattle.fs_window.proofs.ByActor.{links_put}
use Rattle.fs_window.proofs.Settled.{settled_put}
use Rattle.fs_window.proofs.post.Post.accept.Goals as goal

pub invariant_of-self-in-Ok : goal.invariant_of-self-in-Ok
invariant_of-self-in-Ok c =
    let state = c.in_ok-accept_at-in-Ok.ensures.state (new_link c.self.inside.width) in
    (links_put _ _ _ _ _ _ c.self.invariant.0 state, settled_put c.touch.new.touched c.self.inside.touched c.self.inside.links c.as_slice.result.now c.accept_at.new.links c.args.from _ c.as_slice.ensures c.touch.ensures.changed c.self.invariant.1 state)
