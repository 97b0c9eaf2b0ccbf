use Rattle.std.proofs.Common.{ap}
use Rattle.fs_schedule.specs.Reading.{word_of, IsToldPeer}
use Rattle.fs_schedule.proofs.Refusals.{tells_surely_err, no_peer}
use Rattle.fs_schedule.proofs.actor.peer_at.Goals as goal

pub returns-in_err-number-in-None : goal.returns-in_err-number-in-None
returns-in_err-number-in-None c = tells_surely_err (IsToldPeer c.args.head) _ (word_of c.args.word.now) c.in_err-number-in-None.field-0.0 c.from_residual-in_err-number-in-None.ensures (c.in_err-number-in-None.ensures.0, λ who is. no_peer c.args.head who (word_of c.args.word.now) c.in-Bare.text.now (ap word_of c.in-Bare.is) c.in-None.ensures.none c.in_err-number-in-None.ensures.1 is)
