use Rattle.std.proofs.Common.{◌∷◌}
use Rattle.std.specs.Prelude.{codes}
use Rattle.fs_schedule.specs.Words.{Bare}
use Rattle.fs_schedule.specs.Reading.{word_of, words_in, IsToldWhat}
use Rattle.fs_schedule.proofs.Refusals.{tells_err, told_do, no_do}
use Rattle.fs_schedule.proofs.line.do_by.Goals as goal

pub returns-in_err-number : goal.returns-in_err-number
returns-in_err-number c = tells_err (IsToldWhat c.args.head) _ (Bare (codes "do") ∷ word_of c.args.session.now ∷ words_in c.args.words.now) c.in_err-number.field-0.0 c.from_residual.ensures (λ o w is. no_do c.args.head w (word_of c.args.session.now) (words_in c.args.words.now) c.in_err-number.ensures.1 is)

pub returns : goal.returns
returns c = told_do c.args.head c.in_ok-number.number (word_of c.args.session.now) c.in_ok-op.op (words_in c.args.words.now) c.in_ok-number.ensures c.in_ok-op.ensures
