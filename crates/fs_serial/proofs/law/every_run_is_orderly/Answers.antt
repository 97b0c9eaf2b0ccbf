use Rattle.fs_serial.proofs.WholeRuns.AnyReadings.{all_orderly}
use Rattle.fs_serial.proofs.law.every_run_is_orderly.Goals as goal

pub returns : goal.returns
returns c = all_orderly
