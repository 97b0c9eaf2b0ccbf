use Rattle.fs_serial.proofs.Admission.Admitted.{admitted_at_once}
use Rattle.fs_serial.proofs.WholeRuns.ClusterRuns.{admitted_always}
use Rattle.fs_serial.proofs.law.a_standing_entry_is_admitted.Goals as goal

pub returns-clause-plain : goal.returns-clause-plain
returns-clause-plain c = admitted_at_once

pub returns-clause-always : goal.returns-clause-always
returns-clause-always c = admitted_always
