use Rattle.fs_txn.proofs.Locked.{commit_keeps, decide_keeps, last_keeps, others_keep, yes_keeps}
use Rattle.fs_txn.proofs.locks.steps_keep_locks.Goals as goal

pub returns : goal.returns
returns c = record { agreed = yes_keeps; applied = decide_keeps; committed = commit_keeps; last = last_keeps; others = others_keep }
