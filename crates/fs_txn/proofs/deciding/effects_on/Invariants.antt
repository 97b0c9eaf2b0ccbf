use Rattle.std.proofs.Common.{◌≡◌, ◌++◌, drop}
use Rattle.fs_txn.specs.Deciding.{effects_on}
use Rattle.fs_txn.proofs.deciding.effects_on.Given as goal

abbrev pub invariant-loop-e : goal.invariant-loop-e
invariant-loop-e l = l.told ++ effects_on (drop l.e-index l.effects) l.file ≡ effects_on l.effects l.file
