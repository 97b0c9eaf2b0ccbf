use Rattle.fs_serial.proofs.WholeRuns.ClusterRuns.{run_keeps}
use Rattle.fs_serial.proofs.law.every_run_keeps_all_parts.Goals as goal

pub returns : goal.returns
returns c = run_keeps
