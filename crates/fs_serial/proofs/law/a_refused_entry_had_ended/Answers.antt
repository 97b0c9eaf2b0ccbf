use Rattle.fs_serial.proofs.Admission.Ended.{ended}
use Rattle.fs_serial.proofs.law.a_refused_entry_had_ended.Goals as goal

pub returns : goal.returns
returns c = ended
