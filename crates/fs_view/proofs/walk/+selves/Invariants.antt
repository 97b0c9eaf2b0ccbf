use Rattle.std.proofs.Common.{length}
use Rattle.fs_view.proofs.walk.+selves.Given as goal

abbrev pub decreases-selves : goal.decreases-selves
decreases-selves l = length l.modes.now
