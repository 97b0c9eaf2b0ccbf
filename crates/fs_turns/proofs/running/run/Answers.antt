use Rattle.std.proofs.Common.{◌∙◌, ap, refl, sym}
use Rattle.fs_turns.proofs.Turns.{run_cut, run_more, run_none, run_spent, same_error}
use Rattle.fs_turns.proofs.running.run.Goals as goal

pub loop-init : goal.loop-init
loop-init g c = (run_none _ _ _ _, refl, refl)

pub loop-preserved : goal.loop-preserved
loop-preserved g c = (
  run_more _ _ c.loop.counter _ _ _ _ _ _ c.loop.invariant.0 (sym c.is_over.ensures ∙ c.if-is_over.false) c.in_ok-turn.ensures.turn,
  c.turn.ensures.room ∙ c.loop.invariant.1,
  c.in_ok-turn.ensures.quiet ∙ c.loop.invariant.2,
)

pub returns-in_err-turn-clause-spent : goal.returns-in_err-turn-clause-spent
returns-in_err-turn-clause-spent g c = λ counter h.
    let e = same_error c.from_residual.result c.turn.result _ _ c.from_residual.ensures.1 c.in_err-turn.was h in
    run_spent g.A.Actor.is_over g.A.Actor.step c.loop.counter c.args.turns counter _ _ _ _ _ _ _ c.loop.invariant.0 c.loop-test.true (sym c.is_over.ensures ∙ c.if-is_over.false) (c.turn.ensures.spent counter e) (ap g.K.Sink.written (c.turn.ensures.unspent counter e))

pub returns-in_err-turn-clause-cut : goal.returns-in_err-turn-clause-cut
returns-in_err-turn-clause-cut g c = λ h.
    let e = same_error c.from_residual.result c.turn.result _ _ c.from_residual.ensures.1 c.in_err-turn.was h in
    run_cut g.A.Actor.is_over g.A.Actor.step c.loop.counter c.args.turns _ _ _ _ _ c.loop.invariant.0 c.loop-test.true (sym c.is_over.ensures ∙ c.if-is_over.false) (c.turn.ensures.cut e)
