use Rattle.fs_schedule.specs.Operands.{setting_words, IsSetting}
use Rattle.fs_schedule.specs.Reading.{words_in}
use Rattle.fs_schedule.proofs.Pieces.{first_two, behind_two, two_and}
use Rattle.fs_schedule.proofs.Refusals.{reads_err}
use Rattle.fs_schedule.proofs.operands.setting_in.Goals as goal

pub returns-in_err-file : goal.returns-in_err-file
returns-in_err-file c = reads_err setting_words IsSetting _ (words_in c.args.words.now) c.in_err-file.field-0.0 c.from_residual.ensures (λ o p fits e. c.in_err-file.ensures o (p.0, p.1) (fits.0, fits.1) (first_two _ c.args.words.now _ _ _ c.in-len2-up.len_at_least e))

pub returns-in_err-size : goal.returns-in_err-size
returns-in_err-size c = reads_err setting_words IsSetting _ (words_in c.args.words.now) c.in_err-size.field-0.0 c.from_residual-in_err-size.ensures (λ o p fits e. c.in_err-size.ensures.1 (p.2, p.3) (fits.2, fits.3) (behind_two c.args.words.now _ _ _ c.in-len2-up.len_at_least e))

pub returns : goal.returns
returns c =
    let first = c.in_ok-file.ensures in
    let others = c.in_ok-size.ensures in
    ((first.0.0, first.0.1, others.0.0, others.0.1), two_and _ c.args.words.now _ _ _ c.in-len2-up.len_at_least first.1 others.1)
