use Rattle.fs_serial.proofs.Admission.PendingRuns.{pending_from}
use Rattle.fs_serial.proofs.WholeRuns.ClusterRuns.{pending_together}
use Rattle.fs_serial.proofs.law.pending_replies_are_the_namespaces.Goals as goal

pub returns-clause-one : goal.returns-clause-one
returns-clause-one c = pending_from

pub returns-clause-together : goal.returns-clause-together
returns-clause-together c = pending_together
