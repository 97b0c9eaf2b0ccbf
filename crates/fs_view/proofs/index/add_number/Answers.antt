use Rattle.std.proofs.Common.{sym, ◌∙◌, ap}
use Rattle.std.proofs.lemmas.Result.{on_ok_weaker}
use Rattle.fs_view.specs.Index.{and_number}
use Rattle.fs_view.proofs.ByField.{is_there, lent_at, new_at}
use Rattle.fs_view.proofs.index.add_number.Goals as goal

pub returns-in-Some : goal.returns-in-Some
returns-in-Some c =
    let there = is_there c.args.fields.now.entries c.args.field.now _ (sym c.in-Some.ensures.value) in
    on_ok_weaker c.push.result (λ g. lent_at (and_number c.args.no) c.args.fields.now.entries _ c.args.field.now _ _ (sym c.in-Some.ensures.value) (((c.get_mut.follows.holds _).3 there).0) g) c.push.ensures.ok

pub returns-in_ok-copy-in-None : goal.returns-in_ok-copy-in-None
returns-in_ok-copy-in-None c = on_ok_weaker c.put.result (λ s. new_at (and_number c.args.no) c.args.fields.now.entries _ _ c.args.field.now _ _ (ap (λ m. m.entries) c.get_mut.follows.holds-at-none) (sym c.in-None.ensures.value) c.in_ok-copy-in-None.ensures c.in_ok-first-in-None.ensures s.0) c.put.ensures
