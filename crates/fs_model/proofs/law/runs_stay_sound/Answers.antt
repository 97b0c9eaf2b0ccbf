use Rattle.fs_model.proofs.SoundRuns.{runs_sound}
use Rattle.fs_model.proofs.law.runs_stay_sound.Goals as goal

pub returns : goal.returns
returns c = runs_sound
