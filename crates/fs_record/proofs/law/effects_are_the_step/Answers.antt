use Rattle.fs_record.proofs.Stepping.{effects_lead}
use Rattle.fs_record.proofs.law.effects_are_the_step.Goals as goal

pub returns : goal.returns
returns c = effects_lead
