use Rattle.fs_moderows.proofs.Safe.{self_stays_free, self_stays_kept}
use Rattle.fs_moderows.proofs.law.asking_for_self_is_safe.Goals as goal

pub returns-clause-free : goal.returns-clause-free
returns-clause-free c = self_stays_free

pub returns-clause-kept : goal.returns-clause-kept
returns-clause-kept c = self_stays_kept
