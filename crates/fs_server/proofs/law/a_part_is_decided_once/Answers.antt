use Rattle.fs_server.proofs.Following.{again_is_strange, decided_is_over}
use Rattle.fs_server.proofs.law.a_part_is_decided_once.Goals as goal

pub returns-clause-over : goal.returns-clause-over
returns-clause-over c = decided_is_over

pub returns-clause-again : goal.returns-clause-again
returns-clause-again c = again_is_strange
