use Rattle.std.proofs.Common.{sym, subst, ◌∙◌}
use Rattle.std.specs.Prelude.{Result, Ok, Err, IfOk, OnOk}
use Rattle.fs_msg.specs.declared.core_error.CoreError.{CoreError}
use Rattle.fs_schedule.specs.declared.outcome.Outcome.{Outcome}
use Rattle.fs_world.specs.Carried.{LinksCarry}
use Rattle.fs_world.specs.Refusals.{HasNone, is_link_strange}
use Rattle.fs_world.specs.declared.form.Form.{Form}
use Rattle.fs_world.specs.declared.form.Form.TheVariants.{Direct, Served}
use Rattle.fs_world.specs.Served.{step_of}
use Rattle.fs_world.specs.Within.{IsWithin}
use Rattle.fs_world.specs.World.{FitsWorld}
use Rattle.fs_world.proofs.AtSession.{outcome_then}
use Rattle.fs_world.proofs.Carrying.{links_carry}
use Rattle.fs_world.proofs.NothingUnsent.{answered_plain}
use Rattle.fs_world.proofs.Within.{was_within}
use Rattle.fs_world.proofs.world.World.step.Goals as goal
use Rattle.fs_world.proofs.world.World.step.Goals.{in-Direct, in-Served}

pub returns-clause-known : goal.returns-clause-known
returns-clause-known c = elim c.match-self.branch [
  | in-Direct w ↦
      subst (λ (r : Result Outcome CoreError). IfOk r (HasNone is_link_strange)) (sym w.result-is)
      (answered_plain (Direct w.in-Direct.direct) c.args.event.now w.step.result tt w.step.ensures.outcome)
  | in-Served w ↦
      subst (λ (r : Result Outcome CoreError). IfOk r (HasNone is_link_strange)) (sym w.result-is)
      (answered_plain (Served w.in-Served.served) c.args.event.now w.step-in-Served.result
      (subst LinksCarry w.in-Served.is (links_carry c.self.inside.form c.self.invariant))
      (outcome_then w.step-in-Served.result w.step-in-Served.new.self
      (step_of w.in-Served.served c.args.event.now.reading c.args.event.now.what) w.step-in-Served.ensures.done))
]

pub returns-clause-carried : goal.returns-clause-carried
returns-clause-carried c = subst LinksCarry c.self.view_is (links_carry c.self.inside.form c.self.invariant)

always_ok : (r : Result Outcome CoreError) (P : Type 0) → P → OnOk r P
always_ok (Ok o) P h = h
always_ok (Err e) P h = tt

pub returns-clause-within : goal.returns-clause-within
returns-clause-within c = elim c.match-self.branch [
  | in-Direct w ↦
      subst (λ (r : Result Outcome CoreError). OnOk r (IsWithin c.args.self.now c.args.event.now)) (sym w.result-is)
      (subst (λ (f : Form). OnOk w.step.result (IsWithin f c.args.event.now)) (sym w.in-Direct.is ∙ c.self.view_is)
      (always_ok w.step.result (IsWithin (Direct w.in-Direct.direct) c.args.event.now) tt))
  | in-Served w ↦
      subst (λ (r : Result Outcome CoreError). OnOk r (IsWithin c.args.self.now c.args.event.now)) (sym w.result-is)
      (subst (λ (f : Form). OnOk w.step-in-Served.result (IsWithin f c.args.event.now)) (sym w.in-Served.is ∙ c.self.view_is)
      (was_within w.step-in-Served.result w.step-in-Served.new.self w.in-Served.served c.args.event.now
      (subst (λ (f : Form). FitsWorld f c.args.event.now.what) (sym c.self.view_is ∙ w.in-Served.is) c.requires.asked)
      w.step-in-Served.ensures.done w.step-in-Served.ensures.linked))
]
