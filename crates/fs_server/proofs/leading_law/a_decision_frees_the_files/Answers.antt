use Rattle.fs_server.proofs.LeaderLaws.{decision_frees}
use Rattle.fs_server.proofs.leading_law.a_decision_frees_the_files.Goals as goal

pub returns : goal.returns
returns c = decision_frees
