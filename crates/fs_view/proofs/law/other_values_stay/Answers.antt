use Rattle.fs_view.proofs.Unseen.{others_values}
use Rattle.fs_view.proofs.law.other_values_stay.Goals as goal

pub returns : goal.returns
returns c = others_values
