use Rattle.std.proofs.Common.{◌≡◌, ◌∙◌, ◌++◌, ◌∷◌, [], ℕ, List, ap, sym, rules}
use Rattle.std.specs.Map.Iter.{deref_pair}
use Rattle.std.proofs.lemmas.Map.Iter.{rest_more}
use Rattle.fs_ident.specs.Ordered.{Keyed}
use Rattle.fs_record.specs.declared.record.Record.{Record}
use Rattle.fs_record.specs.Walk.{given_from}
use Rattle.fs_record.proofs.Parting.{given_in, given_next}
use Rattle.fs_record.proofs.moving.given.Goals as goal

pub loop-entry-init : goal.loop-entry-init
loop-entry-init c =
    let piece = c.args.piece.now in
    let all : c.into_iter-entry-iterator.result ≡ c.range-entry-items.result = search rules in
    ap (λ (moved : Keyed Record). moved ++ given_from piece.prefix piece.given c.into_iter-entry-iterator.result) c.new-moved.ensures
    ∙ ap (given_from piece.prefix piece.given) (all ∙ c.range-entry-items.ensures.between tt)
    ∙ given_in piece.prefix piece.given c.args.records.now c.range-entry-items.ensures.ordered

pub loop-entry-preserved-in_ok-push : goal.loop-entry-preserved-in_ok-push
loop-entry-preserved-in_ok-push c =
    let piece = c.args.piece.now in
    let moved = c.loop-entry.moved in
    ap (λ (now : Keyed Record). now ++ given_from piece.prefix piece.given c.next.new.self) (c.in_ok-push.ensures.ok ∙ ap (λ (e : List ℕ × Record). moved ++ e ∷ []) c.in_ok-copy_two.ensures)
    ∙ given_next piece.prefix piece.given moved c.loop-entry.entry-iterator c.next.new.self (c.in-Some.entry.0.now, c.in-Some.entry.1.now)
    (rest_more deref_pair _ _ _ c.in-Some.entry c.in-Some.is c.next.ensures.steps)
    (sym c.begins.ensures ∙ c.if-not-begins.false)
    (sym c.is_given.ensures ∙ c.if-is_given.true)
    ∙ c.loop-entry.invariant
