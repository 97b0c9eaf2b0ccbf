use Rattle.fs_serial.proofs.Admission.AdmitAll.{admit_kept}
use Rattle.fs_serial.proofs.law.an_admitted_entry_keeps_the_parts.Goals as goal

pub returns : goal.returns
returns c = admit_kept
