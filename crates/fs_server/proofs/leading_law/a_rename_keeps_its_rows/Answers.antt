use Rattle.fs_server.proofs.LeaderLaws.{last_is_done, rename_commits, rename_waits}
use Rattle.fs_server.proofs.leading_law.a_rename_keeps_its_rows.Goals as goal

pub returns-clause-commit : goal.returns-clause-commit
returns-clause-commit c = rename_commits

pub returns-clause-waits : goal.returns-clause-waits
returns-clause-waits c = rename_waits

pub returns-clause-last : goal.returns-clause-last
returns-clause-last c = last_is_done
