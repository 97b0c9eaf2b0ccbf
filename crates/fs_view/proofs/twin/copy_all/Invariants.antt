use Rattle.std.proofs.Common.{◌≡◌, take}
use Rattle.fs_view.proofs.twin.copy_all.Given as goal

abbrev pub invariant-loop-kept : goal.invariant-loop-kept
invariant-loop-kept l = l.twin.items ≡ take l.kept-index l.leases
