use Rattle.std.proofs.Common.{sym, subst, refl, ap, ◌∙◌}
use Rattle.fs_view.specs.Index.{but_number, ChangesAt}
use Rattle.fs_view.proofs.ByField.{absent_at, is_there, lent_at, lent_none}
use Rattle.fs_view.proofs.index.thin.Goals as goal

pub returns-in-Some-clause-changed : goal.returns-in-Some-clause-changed
returns-in-Some-clause-changed c =
    let there = is_there c.args.fields.now.entries c.args.field.now _ (sym c.in-Some.ensures.value) in
    lent_at (but_number c.args.no) c.args.fields.now.entries _ c.args.field.now _ _ (sym c.in-Some.ensures.value) (((c.get_mut.follows.holds _).3 there).0) (rw c.items_mut.ensures.value at c.take_out.ensures)

pub returns-in-Some-clause-empty : goal.returns-in-Some-clause-empty
returns-in-Some-clause-empty c t =
    let there = is_there c.args.fields.now.entries c.args.field.now _ (sym c.in-Some.ensures.value) in
    lent_none _ c.args.field.now _ (((c.get_mut.follows.holds _).3 there).1) (sym c.is_empty.ensures ∙ t)

pub returns-in-None-clause-changed : goal.returns-in-None-clause-changed
returns-in-None-clause-changed c = subst (λ n. ChangesAt (but_number c.args.no) c.args.field.now c.args.fields.now n) (sym c.get_mut.follows.holds-at-none)
    (absent_at (but_number c.args.no) c.args.fields.now.entries c.args.field.now (sym c.in-None.ensures.value) refl)
