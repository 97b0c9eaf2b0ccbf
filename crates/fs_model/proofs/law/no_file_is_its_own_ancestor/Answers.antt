use Rattle.fs_model.proofs.SoundRuns.{own_ancestor}
use Rattle.fs_model.proofs.law.no_file_is_its_own_ancestor.Goals as goal

pub returns : goal.returns
returns c = own_ancestor
