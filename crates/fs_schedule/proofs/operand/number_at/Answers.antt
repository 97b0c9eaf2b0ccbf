use Rattle.std.proofs.Common.{refl, sym, ◌∙◌, ap, arith}
use Rattle.fs_schedule.specs.Reading.{word_of}
use Rattle.fs_schedule.proofs.Asked.{bare_one, too_great}
use Rattle.fs_schedule.proofs.operand.number_at.Goals as goal

pub returns-then-most-n : goal.returns-then-most-n
returns-then-most-n c = (
  refl,
  λ n le e.
      let number = c.in_ok-n.ensures in
      too_great c.args.most c.in_ok-n.n n (omega arith) number.0 c.if-most-n.true le (sym number.1 ∙ bare_one _ _ (sym (ap word_of c.in-Bare.is) ∙ e)),
)
