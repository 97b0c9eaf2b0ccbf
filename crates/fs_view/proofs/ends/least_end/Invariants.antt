use Rattle.std.proofs.Common.{◌≡◌, true, take}
use Rattle.fs_view.specs.Index.{end_no_sooner}
use Rattle.fs_view.proofs.ends.least_end.Given as goal

abbrev pub invariant-loop-lease : goal.invariant-loop-lease
invariant-loop-lease l = end_no_sooner l.least (take l.lease-index l.kept) ≡ true
