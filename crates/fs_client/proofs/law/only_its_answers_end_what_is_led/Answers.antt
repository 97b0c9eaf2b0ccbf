use Rattle.fs_client.proofs.Ends.{acts_leave, answers_end, turns_leave}
use Rattle.fs_client.proofs.law.only_its_answers_end_what_is_led.Goals as goal

pub returns-clause-acts : goal.returns-clause-acts
returns-clause-acts c = acts_leave

pub returns-clause-turns : goal.returns-clause-turns
returns-clause-turns c = turns_leave

pub returns-clause-answers : goal.returns-clause-answers
returns-clause-answers c = answers_end
