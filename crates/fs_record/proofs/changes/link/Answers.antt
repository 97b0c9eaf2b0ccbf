use Rattle.std.proofs.Common.{◌∙◌, sym, ap}
use Rattle.std.proofs.lemmas.Result.{on_err_weaker}
use Rattle.fs_model.specs.Children.{Children}
use Rattle.fs_ident.specs.Maps.{map_of}
use Rattle.fs_ident.proofs.MapsOf.{map_of_get, map_of_keep}
use Rattle.fs_record.proofs.Kept.{record_at}
use Rattle.fs_record.proofs.changes.link.Goals as goal

pub link-requires : goal.link-requires
link-requires c =
    let own = record_at (map_of c.args.records.now) c.requires c.args.dir.now c.in-Some.record.now (map_of_get c.args.records.now c.args.dir.now ∙ sym c.in-Some.ensures.value) in
    own.in_order.children

pub returns-in-Some-clause-err : goal.returns-in-Some-clause-err
returns-in-Some-clause-err c =
    let r = c.in-Some.record.now in
    on_err_weaker c.link.result
    (λ same. map_of_keep _ _ c.args.dir.now r _ (sym c.in-Some.ensures.value) ((c.get_mut.follows.holds _).0)
    (ap (λ (cs : Children). record r { node = record r.node { children = cs } }) same))
    c.link.ensures.err
