use Rattle.std.proofs.Common.{◌∙◌, sym}
use Rattle.fs_ident.specs.Maps.{map_of}
use Rattle.fs_ident.proofs.MapsOf.{map_of_get}
use Rattle.fs_model.proofs.Spaces.{copied_in_order}
use Rattle.fs_model.proofs.lookups.node_at.Goals as goal

pub returns-clause-in_order : goal.returns-clause-in_order
returns-clause-in_order c = copied_in_order (map_of c.args.nodes.now) c.requires c.args.id.now c.get.result (c.get.ensures.value ∙ sym (map_of_get c.args.nodes.now c.args.id.now))
