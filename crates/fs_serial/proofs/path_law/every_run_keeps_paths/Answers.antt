use Rattle.fs_serial.proofs.WholeRuns.ClusterRuns.{all_kept, all_paths, all_rests}
use Rattle.fs_serial.proofs.path_law.every_run_keeps_paths.Goals as goal

pub returns-clause-paths : goal.returns-clause-paths
returns-clause-paths c = all_paths

pub returns-clause-rests : goal.returns-clause-rests
returns-clause-rests c = all_rests

pub returns-clause-files : goal.returns-clause-files
returns-clause-files c = all_kept
