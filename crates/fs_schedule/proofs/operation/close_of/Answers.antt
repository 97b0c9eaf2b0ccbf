use Rattle.std.proofs.Common.{◌∷◌}
use Rattle.std.specs.Prelude.{codes}
use Rattle.fs_schedule.specs.Words.{Bare}
use Rattle.fs_schedule.specs.Spelling.{op_words, FitsOp}
use Rattle.fs_schedule.specs.Reading.{words_in}
use Rattle.fs_schedule.proofs.Behind.{no_close}
use Rattle.fs_schedule.proofs.Refusals.{reads_err}
use Rattle.fs_schedule.proofs.operation.close_of.Goals as goal

pub returns-in_err-file : goal.returns-in_err-file
returns-in_err-file c = reads_err op_words FitsOp _ (Bare (codes "close") ∷ words_in c.args.operands.now) c.in_err-file.field-0.0 c.from_residual.ensures (λ o. no_close _ (c.in_err-file.ensures o))
