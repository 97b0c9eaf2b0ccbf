use Rattle.std.proofs.Common.{◌∷◌}
use Rattle.std.specs.Prelude.{codes}
use Rattle.fs_schedule.specs.Words.{Bare}
use Rattle.fs_schedule.specs.Spelling.{field_words, FitsField}
use Rattle.fs_schedule.specs.Reading.{words_in}
use Rattle.fs_schedule.proofs.Behind.{no_self}
use Rattle.fs_schedule.proofs.Refusals.{reads_err}
use Rattle.fs_schedule.proofs.field.self_of.Goals as goal

pub returns-in_err-file : goal.returns-in_err-file
returns-in_err-file c = reads_err field_words FitsField _ (Bare (codes "self") ∷ words_in c.args.operands.now) c.in_err-file.field-0.0 c.from_residual.ensures (λ o. no_self _ (c.in_err-file.ensures o))
