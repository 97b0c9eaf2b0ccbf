use Rattle.std.proofs.Common.{◌≡◌, drop}
use Rattle.fs_txn.specs.Preparing.{rows_locked, uses_of_modes, uses_off}
use Rattle.fs_txn.proofs.preparing.lock_all.Given as goal

abbrev pub invariant-loop-used : goal.invariant-loop-used
invariant-loop-used l = record { off : rows_locked l.txn (uses_off (drop l.used-index l.uses)) l.rows ≡ rows_locked l.txn (uses_off l.uses) l.initial.rows; on : rows_locked l.txn (uses_of_modes (drop l.used-index l.uses)) l.modes ≡ rows_locked l.txn (uses_of_modes l.uses) l.initial.modes }
