use Rattle.std.proofs.Common.{[], ◌∷◌}
use Rattle.std.specs.Prelude.{codes}
use Rattle.fs_schedule.specs.Words.{Bare}
use Rattle.fs_schedule.specs.Reading.{word_of, IsToldWhat}
use Rattle.fs_schedule.proofs.Refusals.{tells_surely_err, told_join, no_join}
use Rattle.fs_schedule.proofs.line.join_by.Goals as goal

pub returns-in_err-number : goal.returns-in_err-number
returns-in_err-number c = λ head. tells_surely_err (IsToldWhat head) _ (Bare (codes "join") ∷ word_of c.args.session.now ∷ []) c.in_err-number.field-0.0 c.from_residual.ensures (c.in_err-number.ensures.0, λ w is. no_join head w (word_of c.args.session.now) [] c.in_err-number.ensures.1 is)

pub returns : goal.returns
returns c = λ head. told_join head c.in_ok-number.number (word_of c.args.session.now) c.in_ok-number.ensures
