use Rattle.std.proofs.Common.{◌≡◌, ◌∙◌, ap, sym, List, ℕ, ◌∷◌, ◌==◌, length, option_map, true, false}
use Rattle.fs_schedule.proofs.Cuts.{next_lines, nothing_behind, more_behind}
use Rattle.fs_schedule.proofs.cut.next_line.Goals as goal

pub returns-in_default-clause-lines : goal.returns-in_default-clause-lines
returns-in_default-clause-lines c = rw c.in_default.is at (next_lines c.args.bytes.now c.cut.result.0.now (option_map (λ r. r.now) c.cut.result.1) c.cut.ensures.whole c.cut.ensures.front)

pub returns-then-is_empty-clause-lines : goal.returns-then-is_empty-clause-lines
returns-then-is_empty-clause-lines c =
    let empty : (length c.in-Some.rest.now == 0) ≡ true = sym c.is_empty.ensures ∙ c.if-is_empty.true in
    rw c.in-Some.is at (next_lines c.args.bytes.now c.cut.result.0.now (option_map (λ r. r.now) c.cut.result.1) c.cut.ensures.whole c.cut.ensures.front)
    ∙ ap (λ (ls : List (List ℕ)). c.cut.result.0.now ∷ ls) (nothing_behind c.in-Some.rest.now empty)

pub returns-clause-lines : goal.returns-clause-lines
returns-clause-lines c =
    let more : (length c.in-Some.rest.now == 0) ≡ false = sym c.is_empty.ensures ∙ c.if-is_empty.false in
    rw c.in-Some.is at (next_lines c.args.bytes.now c.cut.result.0.now (option_map (λ r. r.now) c.cut.result.1) c.cut.ensures.whole c.cut.ensures.front)
    ∙ ap (λ (ls : List (List ℕ)). c.cut.result.0.now ∷ ls) (more_behind c.in-Some.rest.now more)
