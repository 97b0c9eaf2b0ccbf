use Rattle.std.proofs.Common.{◌≡◌, drop}
use Rattle.std.specs.List.{find}
use Rattle.fs_view.specs.ViewLease.{offers}
use Rattle.fs_view.proofs.known.offered.Given as goal

abbrev pub invariant-loop-kept : goal.invariant-loop-kept
invariant-loop-kept l = find (offers l.now l.dir l.log) l.leases ≡ find (offers l.now l.dir l.log) (drop l.kept-index l.leases)
