use Rattle.fs_txn.proofs.Locking.{yes_locks}
use Rattle.fs_txn.proofs.law.a_yes_locks_every_lease.Goals as goal

pub returns : goal.returns
returns c = yes_locks
