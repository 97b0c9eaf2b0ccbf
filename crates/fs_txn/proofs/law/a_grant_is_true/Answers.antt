use Rattle.fs_txn.proofs.GrantsTrue.{grant_true}
use Rattle.fs_txn.proofs.law.a_grant_is_true.Goals as goal

pub returns : goal.returns
returns c = grant_true
