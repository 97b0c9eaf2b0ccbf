use Rattle.fs_serial.proofs.WholeRuns.ClusterRuns.{first_all}
use Rattle.fs_serial.proofs.law.the_first_cluster_has_all_parts.Goals as goal

pub returns : goal.returns
returns c = first_all
