use Rattle.fs_serial.proofs.WholeRuns.FairRefusals.{fair}
use Rattle.fs_serial.proofs.law.refusals_are_fair.Goals as goal

pub returns : goal.returns
returns c = fair
