use Rattle.fs_server.proofs.Splitting.{commit_splits}
use Rattle.fs_server.proofs.leading_law.a_commit_splits_by_servers.Goals as goal

pub returns : goal.returns
returns c = commit_splits
