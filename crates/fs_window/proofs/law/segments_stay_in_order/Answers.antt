use Rattle.fs_window.proofs.Carried.{given_new, given_prefix, given_pushed, given_sent, given_told, given_back, given_other_pushed, given_other_sent}
use Rattle.fs_window.proofs.law.segments_stay_in_order.Goals as goal

pub returns-clause-new : goal.returns-clause-new
returns-clause-new c = given_new

pub returns-clause-prefix : goal.returns-clause-prefix
returns-clause-prefix c = given_prefix

pub returns-clause-push : goal.returns-clause-push
returns-clause-push c = given_pushed

pub returns-clause-due : goal.returns-clause-due
returns-clause-due c = given_sent

pub returns-clause-tell : goal.returns-clause-tell
returns-clause-tell c = λ from to pushed gave p q. given_told from to pushed gave p q.body

pub returns-clause-back : goal.returns-clause-back
returns-clause-back c = λ from to pushed gave p q. given_back from to pushed gave p q.ack

pub returns-clause-other_push : goal.returns-clause-other_push
returns-clause-other_push c = given_other_pushed

pub returns-clause-other_due : goal.returns-clause-other_due
returns-clause-other_due c = given_other_sent
