use Rattle.std.proofs.Common.{sym}
use Rattle.std.proofs.lemmas.Result.{on_ok_weaker}
use Rattle.fs_rows.proofs.ByField.{set_child, new_child}
use Rattle.fs_moderows.specs.Index.{with_number}
use Rattle.fs_moderows.proofs.index.add_number.Goals as goal

pub returns-in-Some : goal.returns-in-Some
returns-in-Some c = on_ok_weaker c.put_number.result (λ g. set_child (with_number c.args.no) _ _ c.args.file.now _ _ (sym c.in-Some.ensures.value) ((c.get_mut.follows.holds _).0) (rw c.items_mut.ensures.value at g)) c.put_number.ensures

pub returns-in_ok-copy-in-None : goal.returns-in_ok-copy-in-None
returns-in_ok-copy-in-None c = on_ok_weaker c.put_file.result (λ s. new_child (with_number c.args.no) c.args.files.now _ _ c.args.file.now _ _ c.get_mut.follows.holds-at-none (sym c.in-None.ensures.value) c.in_ok-copy-in-None.ensures c.in_ok-first-in-None.ensures s) c.put_file.ensures
