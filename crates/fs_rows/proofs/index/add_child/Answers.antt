use Rattle.std.proofs.Common.{sym}
use Rattle.std.proofs.lemmas.Result.{on_ok_weaker}
use Rattle.fs_rows.specs.Index.{and_number}
use Rattle.fs_rows.proofs.ByField.{set_child, new_child}
use Rattle.fs_rows.proofs.index.add_child.Goals as goal

pub returns-in-Some : goal.returns-in-Some
returns-in-Some c = on_ok_weaker c.push.result (λ g. set_child (and_number c.args.no) _ _ c.args.name.now _ _ (sym c.in-Some.ensures.value) ((c.get_mut.follows.holds _).0) g) c.push.ensures.ok

pub returns-in_ok-copy-in-None : goal.returns-in_ok-copy-in-None
returns-in_ok-copy-in-None c = on_ok_weaker c.put_child.result (λ s. new_child (and_number c.args.no) c.args.children.now _ _ c.args.name.now _ _ c.get_mut.follows.holds-at-none (sym c.in-None.ensures.value) c.in_ok-copy-in-None.ensures c.in_ok-first-in-None.ensures s) c.put_child.ensures
