use Rattle.fs_record.proofs.LedStepping.{led_effects_lead}
use Rattle.fs_record.proofs.led_law.led_effects_are_the_step.Goals as goal

pub returns : goal.returns
returns c = led_effects_lead
