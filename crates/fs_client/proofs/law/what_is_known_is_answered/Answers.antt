use Rattle.fs_client.proofs.Refused.{answered_at_once}
use Rattle.fs_client.proofs.law.what_is_known_is_answered.Goals as goal

pub returns : goal.returns
returns c = answered_at_once
