use Rattle.fs_actor.proofs.client_events.takes.Goals as goal

pub returns-clause-done : goal.returns-clause-done
returns-clause-done c = rw (c.client_noted-plan.ensures, c.in_ok-plan_answer.ensures.plan) at c.does.ensures.done

pub returns-clause-spent : goal.returns-clause-spent
returns-clause-spent c = rw (c.client_noted-plan.ensures, c.in_ok-plan_answer.ensures.plan) at c.does.ensures.spent
