use Rattle.std.proofs.Common.{◌≡◌, drop}
use Rattle.fs_txn.specs.Preparing.{rows_locked}
use Rattle.fs_server.proofs.commits.lock_all.Given as goal

abbrev pub invariant-loop-used : goal.invariant-loop-used
invariant-loop-used l = rows_locked l.txn (drop l.used-index l.uses) l.rows ≡ rows_locked l.txn l.uses l.initial.rows
