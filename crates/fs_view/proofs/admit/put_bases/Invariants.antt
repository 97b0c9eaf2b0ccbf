use Rattle.std.proofs.Common.{◌≡◌, ◌++◌, length, take, drop}
use Rattle.fs_view.specs.Admit.{with_bases}
use Rattle.fs_view.proofs.admit.put_bases.Given as goal

abbrev pub invariant-loop-at : goal.invariant-loop-at
invariant-loop-at l = record {
  each : length l.bases ≡ length l.leases;
  after : take l.at l.leases ++ with_bases l.log (drop l.at l.leases) (drop l.at l.bases) ≡ with_bases l.log l.initial.leases l.initial.bases;
}
