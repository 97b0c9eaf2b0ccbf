use Rattle.fs_client.proofs.Refused.{act_over, over_acts}
use Rattle.fs_client.proofs.law.only_the_refused_are_over.Goals as goal

pub returns : goal.returns
returns c = λ k now n o. (act_over k now n o, over_acts k now n o)
