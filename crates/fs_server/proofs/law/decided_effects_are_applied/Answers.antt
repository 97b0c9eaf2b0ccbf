use Rattle.fs_server.proofs.Following.{aborts_change_none, all_applied}
use Rattle.fs_server.proofs.law.decided_effects_are_applied.Goals as goal

pub returns-clause-applied : goal.returns-clause-applied
returns-clause-applied c = all_applied

pub returns-clause-none : goal.returns-clause-none
returns-clause-none c = aborts_change_none
