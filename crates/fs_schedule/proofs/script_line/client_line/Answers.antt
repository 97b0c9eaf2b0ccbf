use Rattle.std.proofs.Common.{true}
use Rattle.fs_schedule.specs.Reading.{words_in}
use Rattle.fs_schedule.specs.Script.{FitsScript, script_words}
use Rattle.fs_schedule.proofs.Refusals.{reads_err}
use Rattle.fs_schedule.proofs.ScriptLaws.{no_op_line}
use Rattle.fs_schedule.proofs.script_line.client_line.Goals as goal

pub returns-in_err-op : goal.returns-in_err-op
returns-in_err-op c = reads_err script_words (FitsScript true c.args.head) _ (words_in c.args.words.now) c.in_err-op.field-0.0 c.from_residual.ensures (λ o. no_op_line c.args.head _ (c.in_err-op.ensures o))
