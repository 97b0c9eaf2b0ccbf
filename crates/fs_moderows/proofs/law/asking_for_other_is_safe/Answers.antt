use Rattle.fs_moderows.proofs.Safe.{other_stays_free, other_stays_kept}
use Rattle.fs_moderows.proofs.law.asking_for_other_is_safe.Goals as goal

pub returns-clause-free : goal.returns-clause-free
returns-clause-free c = other_stays_free

pub returns-clause-kept : goal.returns-clause-kept
returns-clause-kept c = other_stays_kept
