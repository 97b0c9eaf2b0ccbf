use Rattle.fs_serial.proofs.Grants.Promises.{promise_true}
use Rattle.fs_serial.proofs.law.what_was_promised_is_so.Goals as goal

pub returns : goal.returns
returns c s h r i f m promise = promise_true s.records s.rows h.promises r i f m promise
