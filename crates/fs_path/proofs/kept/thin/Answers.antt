use Rattle.std.proofs.Common.{ap, sym, subst, refl, ◌∙◌}
use Rattle.fs_ident.proofs.MapsOf.{map_of_get}
use Rattle.fs_path.specs.ByFile.{ChangesAt}
use Rattle.fs_path.specs.Kept.{are_in_order, but_txn, itself}
use Rattle.fs_path.proofs.ByFile.{absent_at, found_there, set_at, set_none}
use Rattle.fs_path.proofs.kept.thin.Goals as goal

pub take_txn-requires : goal.take_txn-requires
take_txn-requires c = ap (are_in_order itself) (c.items_mut.ensures.value ∙ sym (found_there _ c.args.file.now _ (sym c.in-Some.ensures.value))) ∙ c.requires

pub returns-in-Some-clause-changed : goal.returns-in-Some-clause-changed
returns-in-Some-clause-changed c = set_at (but_txn c.args.txn) _ _ c.args.file.now _ _ (sym c.in-Some.ensures.value) ((c.get_mut.follows.holds _).0) (rw c.items_mut.ensures.value at c.take_txn.ensures)

pub returns-in-Some-clause-empty : goal.returns-in-Some-clause-empty
returns-in-Some-clause-empty c t = set_none c.args.by_file.now _ c.args.file.now _ _ (sym c.in-Some.ensures.value) ((c.get_mut.follows.holds _).0) (sym c.is_empty.ensures ∙ t)

pub returns-in-None-clause-changed : goal.returns-in-None-clause-changed
returns-in-None-clause-changed c = subst (λ n. ChangesAt (but_txn c.args.txn) c.args.file.now c.args.by_file.now n) (sym c.get_mut.follows.holds-at-none)
    (absent_at (but_txn c.args.txn) c.args.by_file.now c.args.file.now (map_of_get c.args.by_file.now c.args.file.now ∙ sym c.in-None.ensures.value) refl)
