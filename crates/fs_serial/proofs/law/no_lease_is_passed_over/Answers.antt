use Rattle.fs_serial.proofs.ClientMessages.Has.{has_held, has_granted}
use Rattle.fs_serial.proofs.law.no_lease_is_passed_over.Goals as goal

pub returns-clause-held : goal.returns-clause-held
returns-clause-held c = has_held

pub returns-clause-granted : goal.returns-clause-granted
returns-clause-granted c = has_granted
