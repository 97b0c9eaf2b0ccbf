use Rattle.fs_txn.proofs.Guarded.{guarded_apart}
use Rattle.fs_txn.proofs.law.guarded_effects_are_apart.Goals as goal

pub returns : goal.returns
returns c = guarded_apart
