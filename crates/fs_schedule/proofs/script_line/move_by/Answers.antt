use Rattle.std.proofs.Common.{◌∷◌, [], false}
use Rattle.std.specs.Prelude.{codes}
use Rattle.fs_schedule.specs.Reading.{word_of}
use Rattle.fs_schedule.specs.Script.{FitsScript, script_words}
use Rattle.fs_schedule.specs.Words.{Bare}
use Rattle.fs_schedule.proofs.Refusals.{reads_err}
use Rattle.fs_schedule.proofs.ScriptLaws.{no_destination, no_prefix}
use Rattle.fs_schedule.proofs.script_line.move_by.Goals as goal

pub returns-in_err-server : goal.returns-in_err-server
returns-in_err-server c = reads_err script_words (FitsScript false c.args.head) _ (Bare (codes "move") ∷ word_of c.args.prefix.now ∷ word_of c.args.to.now ∷ []) c.in_err-server.field-0.0 c.from_residual.ensures (λ o. no_destination c.args.head _ _ c.in_err-server.ensures.1)

pub returns-in_err-id : goal.returns-in_err-id
returns-in_err-id c = reads_err script_words (FitsScript false c.args.head) _ (Bare (codes "move") ∷ word_of c.args.prefix.now ∷ word_of c.args.to.now ∷ []) c.in_err-id.field-0.0 c.from_residual-in_err-id.ensures (λ o. no_prefix c.args.head _ _ (c.in_err-id.ensures o))
