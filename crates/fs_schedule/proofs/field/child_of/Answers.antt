use Rattle.std.proofs.Common.{◌∷◌}
use Rattle.std.specs.Prelude.{codes}
use Rattle.fs_schedule.specs.Words.{Bare}
use Rattle.fs_schedule.specs.Spelling.{field_words, FitsField}
use Rattle.fs_schedule.specs.Reading.{words_in}
use Rattle.fs_schedule.proofs.Behind.{no_child}
use Rattle.fs_schedule.proofs.Refusals.{reads_err}
use Rattle.fs_schedule.proofs.field.child_of.Goals as goal

pub returns-in_err-dir : goal.returns-in_err-dir
returns-in_err-dir c = reads_err field_words FitsField _ (Bare (codes "child") ∷ words_in c.args.operands.now) c.in_err-dir.field-0.0 c.from_residual.ensures (λ o. no_child _ (c.in_err-dir.ensures o))
