use Rattle.std.proofs.Common.{◌∙◌, sym, ap}
use Rattle.std.proofs.lemmas.Result.{on_err_weaker}
use Rattle.fs_model.specs.Children.{Children}
use Rattle.fs_ident.specs.Maps.{map_of}
use Rattle.fs_ident.proofs.MapsOf.{map_of_get, map_of_keep}
use Rattle.fs_model.proofs.Spaces.{in_order_at}
use Rattle.fs_model.proofs.changes.link.Goals as goal

pub link-requires : goal.link-requires
link-requires c =
    let own = in_order_at (map_of c.args.nodes.now) c.requires c.args.dir.now c.in-Some.node.now (map_of_get c.args.nodes.now c.args.dir.now ∙ sym c.in-Some.ensures.value) in
    own.children

pub returns-in-Some-clause-err : goal.returns-in-Some-clause-err
returns-in-Some-clause-err c =
    let node = c.in-Some.node.now in
    on_err_weaker c.link.result
    (λ same. map_of_keep _ _ c.args.dir.now node _ (sym c.in-Some.ensures.value) ((c.get_mut.follows.holds _).0)
    (ap (λ (cs : Children). record node { children = cs }) same))
    c.link.ensures.err
