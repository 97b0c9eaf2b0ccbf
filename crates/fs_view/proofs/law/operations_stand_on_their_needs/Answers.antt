use Rattle.fs_view.proofs.Agreeing.{answered_alike}
use Rattle.fs_view.proofs.law.operations_stand_on_their_needs.Goals as goal

pub returns : goal.returns
returns c = λ m n by o. answered_alike m n by o
