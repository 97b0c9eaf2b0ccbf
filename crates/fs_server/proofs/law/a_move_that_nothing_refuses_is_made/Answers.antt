use Rattle.fs_server.proofs.Making.{move_made}
use Rattle.fs_server.proofs.law.a_move_that_nothing_refuses_is_made.Goals as goal

pub returns : goal.returns
returns c = move_made
