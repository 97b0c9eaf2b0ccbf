use Rattle.fs_view.proofs.Seeing.{own_values}
use Rattle.fs_view.proofs.law.own_values_follow.Goals as goal

pub returns : goal.returns
returns c = own_values
