use Rattle.std.proofs.Common.{◌≡◌}
use Rattle.std.specs.Ordering.{nat_cmp}
use Rattle.fs_ident.specs.Maps.{numbered_map_of}
use Rattle.fs_ident.proofs.CopiedMaps.{with_all}
use Rattle.fs_world.proofs.by_session.copy_all.Given as goal

abbrev pub invariant-loop-entry : goal.invariant-loop-entry
invariant-loop-entry g l = with_all nat_cmp l.entry-iterator (numbered_map_of l.twin) ≡ numbered_map_of l.values
