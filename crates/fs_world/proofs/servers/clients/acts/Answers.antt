use Rattle.std.proofs.Common.{◌≡◌, ◌∙◌, ℕ, false, List, ap, sym, subst}
use Rattle.std.proofs.lemmas.Bool.{false_from_ne_true}
use Rattle.std.specs.Prelude.{IfOk, None, Result}
use Rattle.fs_actor.specs.Actor.{act_noted}
use Rattle.fs_client.specs.Acts.{act_plan, is_act_spent}
use Rattle.fs_client.specs.declared.plan.Plan.{Plan}
use Rattle.fs_ident.specs.declared.actor.Session.{Session}
use Rattle.fs_model.specs.declared.op.Op.{Op}
use Rattle.fs_msg.specs.declared.item.Item.{Item}
use Rattle.fs_msg.specs.declared.note.Note.{Note}
use Rattle.fs_world.specs.Calls.{client_does, session_left}
use Rattle.fs_world.specs.Packets.{Packets}
use Rattle.fs_world.specs.Served.{SessionStepped, client_acts}
use Rattle.fs_world.specs.declared.servers.session_state.SessionState.{SessionState}
use Rattle.fs_world.proofs.Spending.{no_error}
use Rattle.fs_world.proofs.servers.clients.acts.Goals as goal
use Rattle.fs_world.proofs.servers.clients.acts.Goals.{After-commit_and_send}

-- what was planned needs no number above the last
room : (c : After-commit_and_send) → is_act_spent c.args.state.now.client c.args.now c.args.op.now ≡ false
room c = false_from_ne_true _ (λ t. no_error _ _ _ (c.in_ok-plan_act.ensures.only t))

-- so it is what the operation comes to
acted : {T E : Type 0} (r : Result T E) (left : T → SessionStepped) (now : ℕ) (s : Session) (o : Op) (state : SessionState)
    (journal : List Item) (packets : Packets) (p : Plan Note) → is_act_spent state.client now o ≡ false
    → p ≡ act_noted (act_plan state.client now o)
    → IfOk r (λ outcome. left outcome ≡ client_does s false None false p state journal packets)
    → IfOk r (λ outcome. left outcome ≡ client_acts now s o state journal packets)
acted r left now s o state journal packets p q e done =
    subst (λ b. IfOk r (λ outcome. left outcome ≡ client_does s false None b (act_noted (act_plan state.client now o)) state journal
    packets)) (sym q)
    (subst (λ (x : Plan Note). IfOk r (λ outcome. left outcome ≡ client_does s false None false x state journal packets)) e done)

pub returns-clause-done : goal.returns-clause-done
returns-clause-done c =
    acted c.commit_and_send.result (λ outcome. session_left outcome c.commit_and_send.new.state c.commit_and_send.new.journal
    c.commit_and_send.new.packets) c.args.now c.args.s c.args.op.now c.args.state.now c.args.journal.now c.args.packets.now _ (room c)
    (c.act_noted-plan.ensures ∙ ap act_noted c.in_ok-plan_act.ensures.plan)
    c.commit_and_send.ensures.done

pub returns-clause-spends : goal.returns-clause-spends
returns-clause-spends c = rw (room c) (rw (c.act_noted-plan.ensures, c.in_ok-plan_act.ensures.plan) at c.commit_and_send.ensures.spends)
