use Rattle.fs_schedule.specs.Operands.{places_words, ArePlaces}
use Rattle.fs_schedule.specs.Reading.{words_in}
use Rattle.fs_schedule.proofs.Pieces.{first_two, behind_two, two_and}
use Rattle.fs_schedule.proofs.Refusals.{reads_err}
use Rattle.fs_schedule.proofs.operands.places_in.Goals as goal

pub returns-in_err-sdir : goal.returns-in_err-sdir
returns-in_err-sdir c = reads_err places_words ArePlaces _ (words_in c.args.words.now) c.in_err-sdir.field-0.0 c.from_residual.ensures (λ o p fits e. c.in_err-sdir.ensures o (p.0, p.1) (fits.0, fits.1) (first_two _ c.args.words.now _ _ _ c.in-len2-up.len_at_least e))

pub returns-in_err-ddir : goal.returns-in_err-ddir
returns-in_err-ddir c = reads_err places_words ArePlaces _ (words_in c.args.words.now) c.in_err-ddir.field-0.0 c.from_residual-in_err-ddir.ensures (λ o p fits e. c.in_err-ddir.ensures o (p.2, p.3) (fits.2, fits.3) (behind_two c.args.words.now _ _ _ c.in-len2-up.len_at_least e))

pub returns : goal.returns
returns c =
    let first = c.in_ok-sdir.ensures in
    let others = c.in_ok-ddir.ensures in
    ((first.0.0, first.0.1, others.0.0, others.0.1), two_and _ c.args.words.now _ _ _ c.in-len2-up.len_at_least first.1 others.1)
