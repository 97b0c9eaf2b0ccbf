use Rattle.std.proofs.Common.{◌∷◌}
use Rattle.fs_schedule.specs.Reading.{word_of, words_in, IsToldEvent}
use Rattle.fs_schedule.proofs.Refusals.{tells_err, no_event}
use Rattle.fs_schedule.proofs.line.event_by.Goals as goal

pub returns-in_err-what : goal.returns-in_err-what
returns-in_err-what c = tells_err (IsToldEvent c.args.head) _ (word_of c.args.reading.now ∷ words_in c.args.words.now) c.in_err-what.field-0.0 c.from_residual-in_err-what.ensures (λ o e is. no_event c.args.head e (word_of c.args.reading.now) (words_in c.args.words.now) (c.in_err-what.ensures o) is)
