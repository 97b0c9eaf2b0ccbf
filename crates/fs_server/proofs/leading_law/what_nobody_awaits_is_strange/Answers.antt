use Rattle.fs_server.proofs.LeaderLaws.{done_unawaited, vote_unawaited}
use Rattle.fs_server.proofs.leading_law.what_nobody_awaits_is_strange.Goals as goal

pub returns-clause-votes : goal.returns-clause-votes
returns-clause-votes c = vote_unawaited

pub returns-clause-dones : goal.returns-clause-dones
returns-clause-dones c = done_unawaited
