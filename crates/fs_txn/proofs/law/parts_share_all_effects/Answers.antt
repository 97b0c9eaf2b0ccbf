use Rattle.fs_txn.proofs.Shared.{parts_share}
use Rattle.fs_txn.proofs.Whole.{parts_make}
use Rattle.fs_txn.proofs.law.parts_share_all_effects.Goals as goal

pub returns : goal.returns
returns c = record { told = parts_share; records = parts_make }
