use Rattle.fs_txn.proofs.Yeses.{commit_yes}
use Rattle.fs_txn.proofs.law.a_commit_has_every_yes.Goals as goal

pub returns : goal.returns
returns c = commit_yes
