use Rattle.fs_view.proofs.Offering.{none_offered, offered_is}
use Rattle.fs_view.proofs.law.identifiers_are_offered_by_leases.Goals as goal

pub returns-clause-some : goal.returns-clause-some
returns-clause-some c = offered_is

pub returns-clause-none : goal.returns-clause-none
returns-clause-none c = none_offered
