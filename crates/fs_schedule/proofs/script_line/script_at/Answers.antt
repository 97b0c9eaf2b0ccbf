use Rattle.std.proofs.Common.{ap}
use Rattle.std.specs.Prelude.{Err}
use Rattle.fs_schedule.specs.declared.unread.Unread.{Unread}
use Rattle.fs_schedule.specs.Reading.{words_in}
use Rattle.fs_schedule.specs.Script.{IsScriptLine}
use Rattle.fs_schedule.proofs.Refusals.{tells_err}
use Rattle.fs_schedule.proofs.ScriptLaws.{script_has_words, tells_script}
use Rattle.fs_schedule.proofs.script_line.script_at.Goals as goal

pub returns-in_err-words : goal.returns-in_err-words
returns-in_err-words c = tells_err (IsScriptLine c.args.client c.args.head) _ c.args.line.now c.in_err-words.field-0.0 c.from_residual.ensures (λ o s is. script_has_words c.args.client c.args.head s c.args.line.now (c.in_err-words.ensures.none (ap (λ (x : Unread). Err x) o)) is)

pub returns : goal.returns
returns c = tells_script c.args.client c.args.head c.script_of.result (words_in c.in_ok-words.words) c.args.line.now c.in_ok-words.ensures.found (rw c.as_slice.ensures at c.script_of.ensures)
