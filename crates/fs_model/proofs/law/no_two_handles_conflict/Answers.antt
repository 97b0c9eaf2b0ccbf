use Rattle.fs_model.proofs.SoundRuns.{handles_apart, numbers_apart}
use Rattle.fs_model.proofs.law.no_two_handles_conflict.Goals as goal

pub returns-clause-listed : goal.returns-clause-listed
returns-clause-listed c = handles_apart

pub returns-clause-numbered : goal.returns-clause-numbered
returns-clause-numbered c = numbers_apart
