use Rattle.fs_model.proofs.Keeping.{step_kept}
use Rattle.fs_model.proofs.SoundRuns.{sound_space}
use Rattle.fs_model.proofs.law.steps_keep_order.Goals as goal

pub returns-clause-steps : goal.returns-clause-steps
returns-clause-steps c = step_kept

pub returns-clause-sound : goal.returns-clause-sound
returns-clause-sound c = sound_space
