use Rattle.std.proofs.Common.{sym, subst, refl, ◌∙◌}
use Rattle.fs_ident.proofs.MapsOf.{map_of_get}
use Rattle.fs_rows.specs.Index.{but_number, ChangesAt}
use Rattle.fs_rows.proofs.ByField.{set_child, set_none, absent_at}
use Rattle.fs_rows.proofs.index.thin_child.Goals as goal

pub returns-in-Some-clause-changed : goal.returns-in-Some-clause-changed
returns-in-Some-clause-changed c = set_child (but_number c.args.no) _ _ c.args.name.now _ _ (sym c.in-Some.ensures.value) ((c.get_mut.follows.holds _).0) (rw c.items_mut.ensures.value at c.take_out.ensures)

pub returns-in-Some-clause-empty : goal.returns-in-Some-clause-empty
returns-in-Some-clause-empty c t = set_none c.args.children.now _ c.args.name.now _ _ (sym c.in-Some.ensures.value) ((c.get_mut.follows.holds _).0) (sym c.is_empty.ensures ∙ t)

pub returns-in-None-clause-changed : goal.returns-in-None-clause-changed
returns-in-None-clause-changed c = subst (λ n. ChangesAt (but_number c.args.no) c.args.name.now c.args.children.now n) (sym c.get_mut.follows.holds-at-none)
    (absent_at (but_number c.args.no) c.args.children.now c.args.name.now (map_of_get c.args.children.now c.args.name.now ∙ sym c.in-None.ensures.value) refl)
