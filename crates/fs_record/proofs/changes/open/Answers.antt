use Rattle.std.proofs.Common.{◌∙◌, List, sym, ap}
use Rattle.std.proofs.lemmas.Result.{on_err_weaker}
use Rattle.fs_ident.specs.Maps.{map_of}
use Rattle.fs_ident.proofs.MapsOf.{map_of_get, map_of_keep}
use Rattle.fs_model.specs.declared.node.Handle.{Handle}
use Rattle.fs_record.proofs.Kept.{record_at}
use Rattle.fs_record.proofs.changes.open.Goals as goal

pub reopen-requires : goal.reopen-requires
reopen-requires c =
    let own = record_at (map_of c.args.records.now) c.requires c.args.file.now c.in-Some.record.now (map_of_get c.args.records.now c.args.file.now ∙ sym c.in-Some.ensures.value) in
    own.in_order.handles

pub returns-in-Some-clause-err : goal.returns-in-Some-clause-err
returns-in-Some-clause-err c =
    let r = c.in-Some.record.now in
    on_err_weaker c.reopen.result
    (λ same. map_of_keep _ _ c.args.file.now r _ (sym c.in-Some.ensures.value) ((c.get_mut.follows.holds _).0)
    (ap (λ (xs : List Handle). record r { node = record r.node { handles = xs } }) same))
    c.reopen.ensures.err
