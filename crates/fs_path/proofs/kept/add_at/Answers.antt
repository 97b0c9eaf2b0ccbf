use Rattle.std.proofs.Common.{ap, refl, sym, ◌∙◌}
use Rattle.std.proofs.lemmas.Result.{on_ok_weaker}
use Rattle.fs_path.specs.Kept.{are_in_order, itself, with_txn}
use Rattle.fs_path.proofs.ByFile.{found_there, new_at, set_at}
use Rattle.fs_path.proofs.kept.add_at.Goals as goal

pub put_txn-requires : goal.put_txn-requires
put_txn-requires c = ap (are_in_order itself) (c.items_mut.ensures.value ∙ sym (found_there _ c.args.file.now _ (sym c.in-Some.ensures.value))) ∙ c.requires

pub returns-in-Some : goal.returns-in-Some
returns-in-Some c = on_ok_weaker c.put_txn.result (λ g. set_at (with_txn c.args.txn) _ _ c.args.file.now _ _ (sym c.in-Some.ensures.value) ((c.get_mut.follows.holds _).0) (g ∙ ap (with_txn c.args.txn) c.items_mut.ensures.value)) c.put_txn.ensures

pub returns-in-None : goal.returns-in-None
returns-in-None c = on_ok_weaker c.put_first.result (λ s. new_at (with_txn c.args.txn) c.args.by_file.now _ _ c.args.file.now _ _ c.get_mut.follows.holds-at-none (sym c.in-None.ensures.value) refl refl s) c.put_first.ensures
