use Rattle.fs_path.proofs.Frozen.{kept_none}
use Rattle.fs_path.proofs.kept.KeptIndex.new.Goals as goal

pub returns : goal.returns
returns c _ = kept_none c.new.result c.new.ensures.empty
