use Rattle.fs_path.proofs.ByFile.{none_named}
use Rattle.fs_path.proofs.Over.{over_none}
use Rattle.fs_path.proofs.index.FileIndex.new.Goals as goal

pub returns : goal.returns
returns c = over_none _ (none_named c.new.result c.new.ensures.empty)
