use Rattle.fs_server.proofs.Following.{last_unlocks, stay_locked}
use Rattle.fs_server.proofs.law.the_last_part_unlocks_the_rows.Goals as goal

pub returns-clause-waits : goal.returns-clause-waits
returns-clause-waits c = stay_locked

pub returns-clause-last : goal.returns-clause-last
returns-clause-last c = last_unlocks
