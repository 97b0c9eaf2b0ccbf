use Rattle.fs_serial.proofs.WholeRuns.ClusterRuns.{all_runs}
use Rattle.fs_serial.proofs.law.every_run_is_one_serial_run.Goals as goal

pub returns : goal.returns
returns c = all_runs
