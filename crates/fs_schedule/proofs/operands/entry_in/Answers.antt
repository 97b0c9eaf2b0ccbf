use Rattle.std.proofs.Common.{length}
use Rattle.fs_schedule.specs.Operands.{entry_words, IsEntry}
use Rattle.fs_schedule.specs.Reading.{words_in}
use Rattle.fs_schedule.proofs.Pieces.{first_two, third, two_and_third, two_below_three}
use Rattle.fs_schedule.proofs.Refusals.{reads_err}
use Rattle.fs_schedule.proofs.operands.entry_in.Goals as goal

pub returns-in_err-dir : goal.returns-in_err-dir
returns-in_err-dir c = reads_err entry_words IsEntry _ (words_in c.args.words.now) c.in_err-dir.field-0.0 c.from_residual.ensures (λ o p fits e. c.in_err-dir.ensures o (p.0, p.1) fits (first_two _ c.args.words.now _ _ _ (two_below_three (length c.args.words.now) c.in-len3.len_at_least) e))

pub returns-in_err-kind : goal.returns-in_err-kind
returns-in_err-kind c = reads_err entry_words IsEntry _ (words_in c.args.words.now) c.in_err-kind.field-0.0 c.from_residual-in_err-kind.ensures (λ o p fits e. c.in_err-kind.ensures.1 p.2 tt (third _ c.args.words.now _ _ _ c.in-len3.len_at_least e))

pub returns : goal.returns
returns c =
    let first = c.in_ok-dir.ensures in
    let whole = two_and_third _ c.args.words.now _ _ _ c.in-len3.len_at_least c.in-len3.len_below first.1 c.in_ok-kind.ensures.1 in
    (first.0, whole)
