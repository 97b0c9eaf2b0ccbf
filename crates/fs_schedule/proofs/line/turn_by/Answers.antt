use Rattle.std.proofs.Common.{[], ◌∷◌, arith}
use Rattle.std.specs.Prelude.{codes}
use Rattle.fs_schedule.specs.Words.{Bare}
use Rattle.fs_schedule.specs.Reading.{word_of, IsToldWhat}
use Rattle.fs_schedule.proofs.Refusals.{tells_surely_err, told_turn, no_turn}
use Rattle.fs_schedule.proofs.line.turn_by.Goals as goal

pub returns-in_err-who : goal.returns-in_err-who
returns-in_err-who c = tells_surely_err (IsToldWhat c.args.head) _ (Bare (codes "turn") ∷ word_of c.args.actor.now ∷ []) c.in_err-who.field-0.0 c.from_residual.ensures (c.in_err-who.ensures.0, λ w is. no_turn c.args.head w (word_of c.args.actor.now) c.in_err-who.ensures.1 is)

pub returns : goal.returns
returns c = told_turn c.args.head c.in_ok-who.who (word_of c.args.actor.now) (omega (arith, c.if-servers_in-eq0.false, c.servers_in.ensures)) c.in_ok-who.ensures
