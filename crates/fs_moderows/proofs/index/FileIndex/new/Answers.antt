use Rattle.fs_ident.proofs.MapsOf.{map_of_empty}
use Rattle.fs_moderows.proofs.Tied.{none_numbered}
use Rattle.fs_moderows.proofs.index.FileIndex.new.Goals as goal

pub returns : goal.returns
returns c w = none_numbered c.new.result (map_of_empty c.new.result c.new.ensures.empty)
