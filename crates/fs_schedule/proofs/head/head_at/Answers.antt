use Rattle.std.proofs.Common.{ap}
use Rattle.std.specs.Prelude.{Err}
use Rattle.fs_schedule.specs.declared.unread.Unread.{Unread}
use Rattle.fs_schedule.specs.Reading.{words_in, IsToldHeadLine}
use Rattle.fs_schedule.proofs.Spelled.{told_head_has_words}
use Rattle.fs_schedule.proofs.Refusals.{tells_err, tells_head}
use Rattle.fs_schedule.proofs.head.head_at.Goals as goal

pub returns-in_err-words : goal.returns-in_err-words
returns-in_err-words c = tells_err IsToldHeadLine _ c.args.line.now c.in_err-words.field-0.0 c.from_residual.ensures (λ o head is. told_head_has_words head c.args.line.now (c.in_err-words.ensures.none (ap (λ (x : Unread). Err x) o)) is)

pub returns : goal.returns
returns c = tells_head c.head_of.result (words_in c.in_ok-words.words) c.args.line.now c.in_ok-words.ensures.found (rw c.as_slice.ensures at c.head_of.ensures)
