use Rattle.fs_txn.proofs.Waiting.{left_so, rows_so}
use Rattle.fs_txn.proofs.law.decisions_leave_parts_and_locks.Goals as goal

pub returns-clause-parts : goal.returns-clause-parts
returns-clause-parts c = left_so

pub returns-clause-rows : goal.returns-clause-rows
returns-clause-rows c = rows_so
