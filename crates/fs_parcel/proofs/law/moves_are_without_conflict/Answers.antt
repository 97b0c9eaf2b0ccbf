use Rattle.fs_parcel.proofs.Formed.{fitting}
use Rattle.fs_parcel.proofs.Quiet.{came_quiet, left_quiet}
use Rattle.fs_parcel.proofs.law.moves_are_without_conflict.Goals as goal

pub returns-clause-came : goal.returns-clause-came
returns-clause-came c = λ records rows map me p t h free. came_quiet records rows map me p (fitting records rows map me p h) t free

pub returns-clause-gone : goal.returns-clause-gone
returns-clause-gone c = λ records rows prefix given t free. left_quiet records rows prefix given free t
