use Rattle.std.proofs.Common.{ap, sym, subst, refl, ◌∙◌}
use Rattle.fs_ident.proofs.MapsOf.{map_of_get}
use Rattle.fs_path.specs.Index.{ChangesAt, are_rising, no_of_named, without_named}
use Rattle.fs_path.proofs.ByFile.{absent_at, found_there, set_at, set_none}
use Rattle.fs_path.proofs.index.thin.Goals as goal

pub take_name-requires : goal.take_name-requires
take_name-requires c = ap (are_rising no_of_named) (c.items_mut.ensures.value ∙ sym (found_there _ c.args.file.now _ (sym c.in-Some.ensures.value))) ∙ c.requires

pub returns-in-Some-clause-changed : goal.returns-in-Some-clause-changed
returns-in-Some-clause-changed c = set_at (without_named c.args.no) _ _ c.args.file.now _ _ (sym c.in-Some.ensures.value) ((c.get_mut.follows.holds _).0) (rw c.items_mut.ensures.value at c.take_name.ensures)

pub returns-in-Some-clause-empty : goal.returns-in-Some-clause-empty
returns-in-Some-clause-empty c t = set_none c.args.by_file.now _ c.args.file.now _ _ (sym c.in-Some.ensures.value) ((c.get_mut.follows.holds _).0) (sym c.is_empty.ensures ∙ t)

pub returns-in-None-clause-changed : goal.returns-in-None-clause-changed
returns-in-None-clause-changed c = subst (λ n. ChangesAt (without_named c.args.no) c.args.file.now c.args.by_file.now n) (sym c.get_mut.follows.holds-at-none)
    (absent_at (without_named c.args.no) c.args.by_file.now c.args.file.now (map_of_get c.args.by_file.now c.args.file.now ∙ sym c.in-None.ensures.value) refl)
