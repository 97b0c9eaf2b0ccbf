use Rattle.std.proofs.Common.{◌∷◌, false}
use Rattle.std.specs.Prelude.{codes}
use Rattle.fs_schedule.specs.Reading.{words_in}
use Rattle.fs_schedule.specs.Script.{FitsScript, script_words}
use Rattle.fs_schedule.specs.Words.{Bare}
use Rattle.fs_schedule.proofs.Refusals.{reads_err}
use Rattle.fs_schedule.proofs.ScriptLaws.{no_recall_line}
use Rattle.fs_schedule.proofs.script_line.recall_line.Goals as goal

pub returns-in_err-field : goal.returns-in_err-field
returns-in_err-field c = λ head. reads_err script_words (FitsScript false head) _ (Bare (codes "recall") ∷ words_in c.args.operands.now) c.in_err-field.field-0.0 c.from_residual.ensures (λ o. no_recall_line head _ (c.in_err-field.ensures o))
