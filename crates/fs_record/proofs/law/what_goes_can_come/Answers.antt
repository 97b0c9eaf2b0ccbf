use Rattle.fs_record.proofs.Returning.{given_each, given_distinct, given_absent, come_again}
use Rattle.fs_record.proofs.law.what_goes_can_come.Goals as goal

pub returns-clause-records : goal.returns-clause-records
returns-clause-records c = λ m prefix given s. given_each prefix given m s

pub returns-clause-distinct : goal.returns-clause-distinct
returns-clause-distinct c = λ m prefix given. given_distinct prefix given m

pub returns-clause-absent : goal.returns-clause-absent
returns-clause-absent c = λ m prefix given. given_absent prefix given m

pub returns-clause-again : goal.returns-clause-again
returns-clause-again c = λ m prefix given. come_again prefix given m
