use Rattle.std.proofs.Common.{rules, ◌≡◌}
use Rattle.std.specs.Prelude.{None}
use Rattle.fs_view.specs.View.{walk_in}
use Rattle.fs_client.proofs.Needed.{asking_is}
use Rattle.fs_client.proofs.acts.walked.Goals as goal

pub returns-in_default-clause-plan : goal.returns-in_default-clause-plan
returns-in_default-clause-plan c =
    let walked : c.in_ok-items.field-0 ≡ walk_in c.args.at.now.view c.args.at.now.last c.args.op.now = search rules in
    let unanswered : c.in_ok-items.field-0.reply ≡ None = search rules in
    asking_is c.args.at.now c.args.op.now c.in_ok-items.field-0 c.in_ok-ask_for.field-0 walked unanswered c.in_ok-ask_for.ensures
