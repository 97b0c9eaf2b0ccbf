use Rattle.fs_model.proofs.SoundRuns.{first_sound}
use Rattle.fs_model.proofs.law.first_space_is_sound.Goals as goal

pub returns : goal.returns
returns c = first_sound
