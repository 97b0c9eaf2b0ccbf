use Rattle.fs_view.proofs.LedNeeds.{same_effects}
use Rattle.fs_view.proofs.led_law.led_effects_stand_on_their_needs.Goals as goal

pub returns : goal.returns
returns c = λ m n by o. same_effects m n by o
