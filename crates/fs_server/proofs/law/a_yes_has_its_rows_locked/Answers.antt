use Rattle.fs_server.proofs.Following.{yes_rows, yes_waits}
use Rattle.fs_server.proofs.law.a_yes_has_its_rows_locked.Goals as goal

pub returns-clause-waits : goal.returns-clause-waits
returns-clause-waits c = yes_waits

pub returns-clause-rows : goal.returns-clause-rows
returns-clause-rows c = yes_rows
