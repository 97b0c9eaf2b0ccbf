use Rattle.std.proofs.Common.{ap}
use Rattle.fs_schedule.specs.Reading.{word_of, IsToldCount}
use Rattle.fs_schedule.proofs.Refusals.{tells_surely_err, no_digits}
use Rattle.fs_schedule.proofs.head.servers_at.Goals as goal

pub returns-in_err-number : goal.returns-in_err-number
returns-in_err-number c = tells_surely_err IsToldCount _ (word_of c.args.word.now) c.in_err-number.field-0.0 c.from_residual.ensures (c.in_err-number.ensures.0, λ n is. no_digits n c.in-Bare.digits.now (word_of c.args.word.now) (ap word_of c.in-Bare.is) (rw c.from.ensures at (c.in_err-number.ensures.1 n)) is)
