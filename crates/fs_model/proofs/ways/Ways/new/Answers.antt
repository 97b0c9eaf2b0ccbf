use Rattle.fs_ident.specs.Maps.{map_of}
use Rattle.fs_ident.proofs.MapsOf.{map_of_empty}
use Rattle.fs_model.proofs.WaysUp.{placed_none}
use Rattle.fs_model.proofs.ways.Ways.new.Goals as goal

pub invariant_of-result : goal.invariant_of-result
invariant_of-result c = placed_none (map_of c.new.result) c.new-2.result (map_of_empty c.new.result c.new.ensures.empty) c.new-2.ensures
