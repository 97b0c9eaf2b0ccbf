use Rattle.std.proofs.Common.{List, ℕ, ◌≡◌, sym, ◌∙◌, ap, subst}
use Rattle.fs_schedule.specs.Words.{Bare}
use Rattle.fs_schedule.specs.Spelling.{client_word}
use Rattle.fs_schedule.specs.Reading.{word_of, TellsSurely, IsToldSession}
use Rattle.fs_schedule.proofs.Refusals.{tells_session}
use Rattle.fs_schedule.proofs.session.session_at.Goals as goal

pub returns : goal.returns
returns c =
    let word : word_of c.args.word.now ≡ client_word c.in-Some.digits.now = ap word_of c.in-Bare.is ∙ ap (λ (xs : List ℕ). Bare xs) c.in-Some.ensures.found in
    subst (TellsSurely IsToldSession c.count_up_to.result) (sym word) (tells_session c.count_up_to.result c.in-Some.digits.now c.count_up_to.ensures)
