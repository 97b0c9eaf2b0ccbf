use Rattle.std.proofs.Common.{◌∙◌, sym}
use Rattle.fs_ident.specs.Maps.{map_of}
use Rattle.fs_ident.proofs.MapsOf.{map_of_get}
use Rattle.fs_record.proofs.Kept.{record_at}
use Rattle.fs_record.proofs.undo.relink.Goals as goal

pub link_again-requires : goal.link_again-requires
link_again-requires c =
    let own = record_at (map_of c.args.records.now) c.requires c.args.dir.now c.in-Some.record.now (map_of_get c.args.records.now c.args.dir.now ∙ sym c.in-Some.ensures.value) in
    own.in_order.children
