use Rattle.std.proofs.Common.{btree_map_len}
use Rattle.fs_world.proofs.by_session.discard_all.Given as goal

abbrev pub decreases-loop-value : goal.decreases-loop-value
decreases-loop-value g l = btree_map_len l.values
