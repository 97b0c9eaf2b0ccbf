use Rattle.std.proofs.Common.{◌∙◌, sym}
use Rattle.fs_ident.specs.Maps.{map_of}
use Rattle.fs_ident.proofs.MapsOf.{map_of_get}
use Rattle.fs_record.proofs.Kept.{record_at}
use Rattle.fs_record.proofs.lookups.node.Goals as goal

pub returns-in-Some-clause-in_order : goal.returns-in-Some-clause-in_order
returns-in-Some-clause-in_order c =
    (record_at (map_of c.args.records.now) c.requires c.args.id.now c.in-Some.record.now (map_of_get c.args.records.now c.args.id.now ∙ sym c.in-Some.ensures.value)).in_order
