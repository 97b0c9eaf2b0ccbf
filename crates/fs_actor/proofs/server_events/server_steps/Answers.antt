use Rattle.std.proofs.Common.{◌≡◌, sym, subst}
use Rattle.std.specs.Prelude.{Some, None, IfOk, IsErrOf}
use Rattle.fs_actor.specs.Actor.{ServerSide, ServerStep, server_does, server_steps}
use Rattle.fs_actor.specs.Events.{ServerDid}
use Rattle.fs_msg.specs.declared.core_error.Counter.{Counter}
use Rattle.fs_msg.specs.declared.core_error.CoreError.TheVariants as errors
use Rattle.fs_server.specs.Plan.{committed}
use Rattle.fs_server.specs.Step.{spent_by}
use Rattle.fs_actor.proofs.Spending.{no_error, nothing_spent}
use Rattle.fs_actor.proofs.server_events.server_steps.Goals as goal
use Rattle.fs_actor.proofs.server_events.server_steps.Goals.{After-does}

-- what was planned is the step
stepped : (c : After-does) → server_does c.args.turn c.args.heard None (record { server = committed c.in_ok-plan.plan c.args.server.now; out = c.in_ok-plan.plan.out }) (record { server = c.args.server.now; post = c.args.post.now }) ≡ server_steps c.args.turn c.args.heard c.args.now c.args.event.now (record { server = c.args.server.now; post = c.args.post.now })
stepped c =
    let a = c.args in
    let e = c.in_ok-plan.ensures in
    let x : ServerSide = record { server = a.server.now; post = a.post.now } in
    let none : spent_by a.server.now a.now a.event.now ≡ None = nothing_spent _ (λ counter s. no_error _ _ _ (e.only counter s)) in
    λ i. server_does a.turn a.heard (sym none i) (record { server = e.server i; out = e.out i }) x

pub returns-clause-done : goal.returns-clause-done
returns-clause-done c = subst (λ (y : ServerStep). IfOk c.does.result (ServerDid y c.does.new.server c.does.new.post)) (stepped c) c.does.ensures.done

pub returns-clause-spent : goal.returns-clause-spent
returns-clause-spent c = subst (λ (y : ServerStep). (counter : Counter) → IsErrOf c.does.result (errors.Spent counter) → y.spent ≡ Some counter) (stepped c) c.does.ensures.spent
