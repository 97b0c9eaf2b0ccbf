use Rattle.std.proofs.Common.{length}
use Rattle.fs_view.proofs.walk.+others.Given as goal

abbrev pub decreases-others : goal.decreases-others
decreases-others l = length l.modes.now
