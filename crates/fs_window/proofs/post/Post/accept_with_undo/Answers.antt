use Rattle.std.proofs.Common.{◌∙◌}
use Rattle.fs_window.proofs.ByActor.{links_put}
use Rattle.fs_window.proofs.Settled.{settled_put}
use Rattle.fs_window.proofs.Undone.{undone_noted}
use Rattle.fs_window.proofs.post.Post.accept_with_undo.Goals as goal

pub record_step-requires : goal.record_step-requires
record_step-requires c = (links_put c.self.inside.me c.self.inside.width c.self.inside.links c.accept_step.new.links _ _ c.self.invariant.0 c.in_ok-heard.ensures.state).ordered

pub invariant_of-self-2 : goal.invariant_of-self-2
invariant_of-self-2 c =
    let state = c.in_ok-record_step.ensures.ok ∙ c.in_ok-heard.ensures.state in
    (links_put _ _ _ _ _ _ c.self.invariant.0 state, settled_put c.touch.new.touched c.self.inside.touched c.self.inside.links c.as_slice.result.now c.record_step.new.links c.args.from _ c.as_slice.ensures c.touch.ensures.changed c.self.invariant.1 state)

pub returns-clause-undo : goal.returns-clause-undo
returns-clause-undo c =
    undone_noted c.self.inside.me c.self.inside.width c.args.undo.now c.record_step.new.undo c.in_ok-heard.step c.self.inside.links c.accept_step.new.links c.record_step.new.links c.args.self.now
    c.in_ok-record_step.ensures.noted c.in_ok-record_step.ensures.ok c.in_ok-heard.ensures.step c.self.view_is
