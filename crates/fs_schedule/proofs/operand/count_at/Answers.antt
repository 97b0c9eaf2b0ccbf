use Rattle.std.proofs.Common.{◌≡◌, refl, sym, ◌∙◌, ap, arith}
use Rattle.std.specs.Fmt.{decimal}
use Rattle.fs_schedule.proofs.Asked.{bare_one, not_zero}
use Rattle.fs_schedule.proofs.operand.count_at.Goals as goal

pub returns-then-n-eq0 : goal.returns-then-n-eq0
returns-then-n-eq0 c = (
  refl,
  λ n fits e.
      let zero : c.in_ok-n.n ≡ 0 = omega (arith, c.if-n-eq0.true) in
      not_zero c.args.most n c.ranges.most.fits fits (ap decimal (sym zero) ∙ bare_one _ _ (sym c.in_ok-n.ensures.1 ∙ e)),
)
