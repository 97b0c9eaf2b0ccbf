use Rattle.fs_ident.proofs.MapsOf.{map_of_remove}
use Rattle.fs_path.proofs.by_file.take_file.Goals as goal

pub returns : goal.returns
returns g c = map_of_remove _ _ _ c.remove.ensures.updates
