use Rattle.fs_model.proofs.SoundRuns.{all_listed}
use Rattle.fs_model.proofs.law.every_ancestor_is_listed.Goals as goal

pub returns : goal.returns
returns c = all_listed
