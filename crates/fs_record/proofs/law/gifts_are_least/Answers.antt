use Rattle.fs_record.proofs.NumbersRise.{number_least, number_none, given_here, given_elsewhere}
use Rattle.fs_record.proofs.law.gifts_are_least.Goals as goal

pub returns-clause-some : goal.returns-clause-some
returns-clause-some c = number_least

pub returns-clause-none : goal.returns-clause-none
returns-clause-none c = number_none

pub returns-clause-here : goal.returns-clause-here
returns-clause-here c = given_here

pub returns-clause-elsewhere : goal.returns-clause-elsewhere
returns-clause-elsewhere c = given_elsewhere
