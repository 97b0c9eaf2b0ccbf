use Rattle.std.proofs.Common.{◌≡◌, false}
use Rattle.std.proofs.lemmas.Bool.{false_from_ne_true}
use Rattle.fs_client.specs.Acts.{is_act_spent}
use Rattle.fs_actor.proofs.Spending.{no_error}
use Rattle.fs_actor.proofs.client_events.client_acts.Goals as goal
use Rattle.fs_actor.proofs.client_events.client_acts.Goals.{After-does}

-- what was planned needs no number above the last
room : (c : After-does) → is_act_spent c.args.client.now c.args.now c.args.op.now ≡ false
room c = false_from_ne_true _ (λ t. no_error _ _ _ (c.in_ok-plan_act.ensures.only t))

pub returns-clause-done : goal.returns-clause-done
returns-clause-done c = rw (room c) (rw (c.act_noted-plan.ensures, c.in_ok-plan_act.ensures.plan) at c.does.ensures.done)

pub returns-clause-spent : goal.returns-clause-spent
returns-clause-spent c = rw (room c) (rw (c.act_noted-plan.ensures, c.in_ok-plan_act.ensures.plan) at c.does.ensures.spent)
