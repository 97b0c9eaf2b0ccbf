use Rattle.std.proofs.Common.{◌≡◌, ◌++◌, drop}
use Rattle.fs_txn.specs.Parts.{uses_on}
use Rattle.fs_txn.proofs.parting.uses_on.Given as goal

abbrev pub invariant-loop-used : goal.invariant-loop-used
invariant-loop-used l = l.told ++ uses_on l.at (drop l.used-index l.uses) ≡ uses_on l.at l.uses
