use Rattle.std.proofs.Common.{vec_len}
use Rattle.fs_view.proofs.twin.discard_all.Given as goal

abbrev pub decreases-loop-kept : goal.decreases-loop-kept
decreases-loop-kept l = vec_len l.leases
