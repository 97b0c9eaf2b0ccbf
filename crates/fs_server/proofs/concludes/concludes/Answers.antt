use Rattle.std.proofs.Common.{ap, ◌∙◌}
use Rattle.fs_txn.specs.Deciding.{decision}
use Rattle.fs_txn.specs.Leading.{elsewhere}
use Rattle.fs_server.specs.Concludes.{path_for}
use Rattle.fs_server.specs.Gathered.{ends_by}
use Rattle.fs_server.proofs.Concluding.{concludes_can, concludes_so, few_votes}
use Rattle.fs_server.specs.declared.change.Change.TheVariants as change
use Rattle.fs_server.specs.declared.decide.Decided.{Decided}
use Rattle.fs_server.proofs.concludes.concludes.Goals as goal

pub elsewhere-requires : goal.elsewhere-requires
elsewhere-requires c = few_votes c.args.leading c.requires.can.uses c.requires.can.whole

pub returns-clause-step : goal.returns-clause-step
returns-clause-step c =
    concludes_so c.args.begins c.args.leading c.args.uses c.args.files c.args.send c.args.at.now c.in_ok-d.d c.in_ok-decision.decision c.in_ok-others.others
    (path_for c.args.leading.leader.mode c.args.leading.leader.op c.args.at.now) c.requires.can
    (c.in_ok-decision.ensures ∙ ap (decision c.args.leading.leader) (c.as_ref.ensures.value ∙ c.in_ok-path.ensures)) (c.in_ok-others.ensures ∙ ap (λ k. elsewhere k c.args.leading) c.me-me.ensures)
    (ap (λ (d : Decided). d.change) c.in_ok-d.ensures ∙ ap (λ k. change.Lead c.args.begins c.args.leading.leader.txn c.args.uses c.args.files (ends_by k c.args.leading c.in_ok-decision.decision c.in_ok-others.others)) c.me-me.ensures)
    (ap (λ (d : Decided). d.out) c.in_ok-d.ensures)

pub returns-clause-can : goal.returns-clause-can
returns-clause-can c =
    concludes_can c.args.begins c.args.leading c.args.uses c.args.files c.args.at.now c.in_ok-d.d c.in_ok-decision.decision c.in_ok-others.others c.requires.ready c.requires.can
    (ap (λ (d : Decided). d.change) c.in_ok-d.ensures ∙ ap (λ k. change.Lead c.args.begins c.args.leading.leader.txn c.args.uses c.args.files (ends_by k c.args.leading c.in_ok-decision.decision c.in_ok-others.others)) c.me-me.ensures)
