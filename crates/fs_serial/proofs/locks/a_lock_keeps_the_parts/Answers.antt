use Rattle.fs_serial.proofs.Grants.Relocked.{lock_keeps_parts, unlock_keeps_parts}
use Rattle.fs_serial.proofs.locks.a_lock_keeps_the_parts.Goals as goal

pub returns-clause-locked : goal.returns-clause-locked
returns-clause-locked c = lock_keeps_parts

pub returns-clause-unlocked : goal.returns-clause-unlocked
returns-clause-unlocked c = unlock_keeps_parts
