use Rattle.fs_view.proofs.Pins.{pins_fit}
use Rattle.fs_view.proofs.law.uses_can_be_pinned.Goals as goal

pub returns : goal.returns
returns c = pins_fit
