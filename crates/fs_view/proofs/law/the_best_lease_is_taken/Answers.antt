use Rattle.fs_view.proofs.Best.{none_taken, taken_best}
use Rattle.fs_view.proofs.Offering.{used_by_best}
use Rattle.fs_view.proofs.law.the_best_lease_is_taken.Goals as goal

pub returns-clause-best : goal.returns-clause-best
returns-clause-best c = taken_best

pub returns-clause-none : goal.returns-clause-none
returns-clause-none c = none_taken

pub returns-clause-fresh : goal.returns-clause-fresh
returns-clause-fresh c = used_by_best
