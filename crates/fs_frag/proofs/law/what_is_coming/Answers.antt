use Rattle.fs_frag.proofs.StillComing.{coming_none, coming_more, coming_now}
use Rattle.fs_frag.proofs.law.what_is_coming.Goals as goal

pub returns-clause-none : goal.returns-clause-none
returns-clause-none c = coming_none

pub returns-clause-more : goal.returns-clause-more
returns-clause-more c = coming_more

pub returns-clause-now : goal.returns-clause-now
returns-clause-now c = coming_now
