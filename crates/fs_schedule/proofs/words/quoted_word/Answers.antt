use Rattle.std.proofs.Common.{◌≡◌, ◌∙◌, ap, sym, option_map}
use Rattle.std.specs.Prelude.{Some}
use Rattle.fs_schedule.proofs.Cuts.{not_a_word}
use Rattle.fs_schedule.proofs.words.quoted_word.Goals as goal

pub returns-in_default-behind_space-clause-none : goal.returns-in_default-behind_space-clause-none
returns-in_default-behind_space-clause-none c =
    not_a_word c.args.bytes.now c.cut.result.0.now (option_map (λ r. r.now) c.cut.result.1) c.cut.ensures.whole c.cut.ensures.front (λ xs o e q.
    let none = rw c.in_default-behind_space.is at c.behind_space.ensures.none in
    let there : option_map (λ r. r.now) c.cut.result.1 ≡ Some c.in-Some.rest.now = ap (option_map (λ r. r.now)) c.in-Some.is in
    let same : Some c.in-Some.rest.now ≡ Some xs = sym there ∙ e in
    let here : c.in-Some.rest.now ≡ xs = cc in
    none o (here ∙ q))
