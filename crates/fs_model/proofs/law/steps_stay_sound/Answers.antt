use Rattle.fs_model.proofs.SoundRuns.{asks_access, step_sound}
use Rattle.fs_model.proofs.law.steps_stay_sound.Goals as goal

pub returns-clause-callers : goal.returns-clause-callers
returns-clause-callers c = asks_access

pub returns-clause-steps : goal.returns-clause-steps
returns-clause-steps c = step_sound
