use Rattle.std.proofs.Common.{◌∙◌, sym}
use Rattle.fs_ident.specs.Maps.{map_of}
use Rattle.fs_ident.proofs.MapsOf.{map_of_get}
use Rattle.fs_model.proofs.Spaces.{in_order_at}
use Rattle.fs_model.proofs.changes.unlink.Goals as goal

pub take-requires : goal.take-requires
take-requires c =
    let own = in_order_at (map_of c.args.nodes.now) c.requires c.args.dir.now c.in-Some.node.now (map_of_get c.args.nodes.now c.args.dir.now ∙ sym c.in-Some.ensures.value) in
    own.children
