use Rattle.std.proofs.Common.{refl, get_or}
use Rattle.fs_schedule.specs.Reading.{IsToldNumber}
use Rattle.fs_schedule.proofs.Digits.{not_told, told_more}
use Rattle.fs_schedule.proofs.Refusals.{tells_surely_err}
use Rattle.fs_schedule.proofs.number.count_up_to.Goals as goal

pub returns-in_err-digit : goal.returns-in_err-digit
returns-in_err-digit c = tells_surely_err (IsToldNumber c.args.most) _ c.args.digits.now c.in_err-digit.field-0.0 c.from_residual.ensures (c.in_err-digit.ensures.0, λ n is. not_told c.args.most c.args.digits.now c.loop-at.at n c.loop-at-test.true c.in_err-digit.ensures.1 is)

pub loop-at-preserved : goal.loop-at-preserved
loop-at-preserved c =
    told_more c.args.most c.args.digits.now c.loop-at.at c.loop-at.number c.with_digit-number.result (get_or c.args.digits.now c.loop-at.at 0) c.in_ok-digit.digit c.loop-at-test.true refl c.in_ok-digit.ensures c.with_digit-number.ensures c.loop-at.invariant
