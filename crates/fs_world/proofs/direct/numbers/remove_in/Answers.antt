use Rattle.fs_ident.proofs.MapsOf.{map_of_remove}
use Rattle.fs_world.proofs.direct.numbers.remove_in.Goals as goal

pub returns : goal.returns
returns c = map_of_remove _ _ _ c.remove.ensures.updates
