use Rattle.fs_txn.proofs.Past.{split_past}
use Rattle.fs_txn.proofs.law.a_split_commit_is_one_step.Goals as goal

pub returns : goal.returns
returns c = split_past
