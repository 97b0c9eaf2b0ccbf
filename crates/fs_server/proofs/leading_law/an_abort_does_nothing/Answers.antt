use Rattle.fs_server.proofs.LeaderLaws.{abort_here, abort_told}
use Rattle.fs_server.proofs.leading_law.an_abort_does_nothing.Goals as goal

pub returns-clause-here : goal.returns-clause-here
returns-clause-here c = abort_here

pub returns-clause-told : goal.returns-clause-told
returns-clause-told c = abort_told
