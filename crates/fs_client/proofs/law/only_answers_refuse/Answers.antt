use Rattle.fs_client.proofs.Refused.{acts_stay, answers_tell, turns_stay}
use Rattle.fs_client.proofs.law.only_answers_refuse.Goals as goal

pub returns-clause-acts : goal.returns-clause-acts
returns-clause-acts c = acts_stay

pub returns-clause-turns : goal.returns-clause-turns
returns-clause-turns c = turns_stay

pub returns-clause-answers : goal.returns-clause-answers
returns-clause-answers c = answers_tell
