use Rattle.fs_moderows.proofs.Reaps.{none_blocks, reap_free, reap_kept}
use Rattle.fs_moderows.proofs.law.reaps_are_safe.Goals as goal

pub returns-clause-free : goal.returns-clause-free
returns-clause-free c selves rows s f t h = reap_free selves rows s f (none_blocks selves rows s f h) t.on_modes

pub returns-clause-kept : goal.returns-clause-kept
returns-clause-kept c selves rows s f h = reap_kept selves rows s f (none_blocks selves rows s f h)
