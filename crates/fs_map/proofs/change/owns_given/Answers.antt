use Rattle.std.proofs.Common.{◌∙◌, ℕ, List, Bool, true, false, ap, sym, subst}
use Rattle.fs_ident.specs.Ordered.{Keyed}
use Rattle.fs_map.specs.Part.{IsSpan}
use Rattle.fs_map.proofs.Spans.{shown, shown_within}
use Rattle.fs_map.proofs.change.owns_given.Goals as goal

pub returns-then-any_is_mine : goal.returns-then-any_is_mine
returns-then-any_is_mine c =
    let span : IsSpan c.args.owners.now c.args.piece.now.prefix c.span-start.result.0 c.span-start.result.1 = subst (λ (p : List ℕ). IsSpan c.args.owners.now p c.span-start.result.0 c.span-start.result.1) c.numbers.ensures.same c.span-start.ensures in
    c.if-any_is_mine.true
    ∙ shown_within c.args.owners.now c.args.me c.args.piece.now.prefix c.args.piece.now.given c.span-start.result.0 c.span-start.result.1 span true (sym c.if-any_is_mine.true ∙ c.any_is_mine.ensures)

pub returns-else-any_is_mine : goal.returns-else-any_is_mine
returns-else-any_is_mine c =
    let span : IsSpan c.args.owners.now c.args.piece.now.prefix c.span-start.result.0 c.span-start.result.1 = subst (λ (p : List ℕ). IsSpan c.args.owners.now p c.span-start.result.0 c.span-start.result.1) c.numbers.ensures.same c.span-start.ensures in
    c.any_is_mine-else-any_is_mine.ensures
    ∙ ap (λ (l : Keyed Bool). shown c.args.owners.now c.args.me c.args.piece.now.prefix c.args.piece.now.given l) c.as_slice.ensures
    ∙ shown_within c.args.owners.now c.args.me c.args.piece.now.prefix c.args.piece.now.given c.span-start.result.0 c.span-start.result.1 span false (sym c.if-any_is_mine.false ∙ c.any_is_mine.ensures)
