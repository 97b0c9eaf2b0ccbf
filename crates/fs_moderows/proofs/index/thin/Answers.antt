use Rattle.std.proofs.Common.{sym, subst, refl, ◌∙◌}
use Rattle.fs_ident.proofs.MapsOf.{map_of_get}
use Rattle.fs_rows.specs.Index.{but_number, ChangesAt}
use Rattle.fs_rows.proofs.ByField.{set_child, set_none, absent_at}
use Rattle.fs_moderows.proofs.index.thin.Goals as goal

pub returns-in-Some-clause-changed : goal.returns-in-Some-clause-changed
returns-in-Some-clause-changed c = set_child (but_number c.args.no) _ _ c.args.file.now _ _ (sym c.in-Some.ensures.value) ((c.get_mut.follows.holds _).0) (rw c.items_mut.ensures.value at c.take_out.ensures)

pub returns-in-Some-clause-empty : goal.returns-in-Some-clause-empty
returns-in-Some-clause-empty c t = set_none c.args.files.now _ c.args.file.now _ _ (sym c.in-Some.ensures.value) ((c.get_mut.follows.holds _).0) (sym c.is_empty.ensures ∙ t)

pub returns-in-None-clause-changed : goal.returns-in-None-clause-changed
returns-in-None-clause-changed c = subst (λ n. ChangesAt (but_number c.args.no) c.args.file.now c.args.files.now n) (sym c.get_mut.follows.holds-at-none)
    (absent_at (but_number c.args.no) c.args.files.now c.args.file.now (map_of_get c.args.files.now c.args.file.now ∙ sym c.in-None.ensures.value) refl)
