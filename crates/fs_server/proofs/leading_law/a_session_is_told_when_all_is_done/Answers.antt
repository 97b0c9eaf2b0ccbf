use Rattle.fs_server.proofs.LeaderLaws.{told_at_once, told_later, told_when_done}
use Rattle.fs_server.proofs.leading_law.a_session_is_told_when_all_is_done.Goals as goal

pub returns-clause-decided : goal.returns-clause-decided
returns-clause-decided c = told_at_once

pub returns-clause-awaited : goal.returns-clause-awaited
returns-clause-awaited c = told_later

pub returns-clause-done : goal.returns-clause-done
returns-clause-done c = told_when_done
