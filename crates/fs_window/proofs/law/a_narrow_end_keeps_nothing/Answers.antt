use Rattle.fs_window.proofs.Narrow.{narrow_new, narrow_pushed, narrow_sent, narrow_accepted, one_given}
use Rattle.fs_window.proofs.law.a_narrow_end_keeps_nothing.Goals as goal

pub returns-clause-new : goal.returns-clause-new
returns-clause-new c = narrow_new

pub returns-clause-push : goal.returns-clause-push
returns-clause-push c = narrow_pushed

pub returns-clause-due : goal.returns-clause-due
returns-clause-due c = narrow_sent

pub returns-clause-accept : goal.returns-clause-accept
returns-clause-accept c = narrow_accepted

pub returns-clause-gives : goal.returns-clause-gives
returns-clause-gives c = λ l p. one_given l p.body
