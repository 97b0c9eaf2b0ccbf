use Rattle.std.proofs.Common.{◌&&◌, ap, cond, sym, ◌∙◌}
use Rattle.std.specs.Prelude.{Some, None}
use Rattle.fs_field.specs.Table.{is_live}
use Rattle.fs_moderows.specs.Sought.{only, passes}
use Rattle.fs_moderows.proofs.sought.sought_at.Goals.{else-is_live-via-then-is_live+else-passes, else-is_live-via-else-is_live}
use Rattle.fs_moderows.proofs.sought.sought_at.Goals as goal

pub returns-then-passes : goal.returns-then-passes
returns-then-passes c =
    sym (ap (λ b. cond (b && passes c.args.sought.now c.in-Some.row.now) (Some c.in-Some.row.now) None) (sym c.is_live.ensures ∙ c.if-is_live.true)
    ∙ ap (λ b. cond b (Some c.in-Some.row.now) None) (sym c.passes.ensures ∙ c.if-passes.true))
    ∙ ap (only (λ r. is_live c.args.now c.args.skew r && passes c.args.sought.now r)) c.in-Some.ensures

pub returns-else-is_live : goal.returns-else-is_live
returns-else-is_live c =
    sym (ap (λ b. cond b (Some c.in-Some.row.now) None)
    (elim c.else-is_live.branch [
      | else-is_live-via-then-is_live+else-passes w ↦ ap (λ b. b && passes c.args.sought.now c.in-Some.row.now) (sym c.is_live.ensures ∙ w.if-is_live.true) ∙ sym w.passes.ensures ∙ w.if-passes.false
      | else-is_live-via-else-is_live w ↦ ap (λ b. b && passes c.args.sought.now c.in-Some.row.now) (sym c.is_live.ensures ∙ w.if-is_live.false)
    ]))
    ∙ ap (only (λ r. is_live c.args.now c.args.skew r && passes c.args.sought.now r)) c.in-Some.ensures

pub returns-in-None : goal.returns-in-None
returns-in-None c = ap (only (λ r. is_live c.args.now c.args.skew r && passes c.args.sought.now r)) c.in-None.ensures
