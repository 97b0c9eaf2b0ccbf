use Rattle.fs_server.proofs.LeaderLaws.{cycle_here}
use Rattle.fs_server.proofs.Splitting.{cycle_tells_none}
use Rattle.fs_server.proofs.leading_law.a_cycle_changes_no_file.Goals as goal

pub returns-clause-here : goal.returns-clause-here
returns-clause-here c = cycle_here

pub returns-clause-told : goal.returns-clause-told
returns-clause-told c = cycle_tells_none
