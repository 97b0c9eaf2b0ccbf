use Rattle.std.proofs.Common.{List, sym, ap}
use Rattle.std.proofs.lemmas.Result.{on_err_weaker}
use Rattle.fs_model.specs.declared.node.Handle.{Handle}
use Rattle.fs_ident.proofs.MapsOf.{map_of_keep}
use Rattle.fs_model.proofs.changes.open.Goals as goal

pub returns-in-Some-clause-err : goal.returns-in-Some-clause-err
returns-in-Some-clause-err c =
    let node = c.in-Some.node.now in
    on_err_weaker c.add.result
    (λ same. map_of_keep _ _ c.args.file.now node _ (sym c.in-Some.ensures.value) ((c.get_mut.follows.holds _).0)
    (ap (λ (xs : List Handle). record node { handles = xs }) same))
    c.add.ensures.err
