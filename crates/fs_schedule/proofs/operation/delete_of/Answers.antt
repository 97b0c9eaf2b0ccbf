use Rattle.std.proofs.Common.{◌∷◌}
use Rattle.std.specs.Prelude.{codes}
use Rattle.fs_schedule.specs.Words.{Bare}
use Rattle.fs_schedule.specs.Spelling.{op_words, FitsOp}
use Rattle.fs_schedule.specs.Reading.{words_in}
use Rattle.fs_schedule.proofs.Behind.{no_delete}
use Rattle.fs_schedule.proofs.Refusals.{reads_err}
use Rattle.fs_schedule.proofs.operation.delete_of.Goals as goal

pub returns-in_err-dir : goal.returns-in_err-dir
returns-in_err-dir c = reads_err op_words FitsOp _ (Bare (codes "delete") ∷ words_in c.args.operands.now) c.in_err-dir.field-0.0 c.from_residual.ensures (λ o. no_delete _ (c.in_err-dir.ensures o))
