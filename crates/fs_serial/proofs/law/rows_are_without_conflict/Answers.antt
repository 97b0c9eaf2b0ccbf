use Rattle.fs_serial.proofs.Grants.Promises.{no_conflict}
use Rattle.fs_serial.proofs.law.rows_are_without_conflict.Goals as goal

pub returns : goal.returns
returns c = no_conflict
