use Rattle.std.proofs.Common.{◌≡◌, ◌++◌, drop}
use Rattle.fs_txn.specs.Leading.{yes_from}
use Rattle.fs_txn.proofs.leading.yes_parts.Given as goal

abbrev pub invariant-loop-i : goal.invariant-loop-i
invariant-loop-i l = l.parts ++ yes_from l.i (drop l.i l.votes) (drop l.i l.at) ≡ yes_from 0 l.votes l.at
