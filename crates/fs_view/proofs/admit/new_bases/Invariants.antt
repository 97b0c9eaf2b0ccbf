use Rattle.std.proofs.Common.{◌≡◌, length, take, map}
use Rattle.fs_view.specs.Admit.{knowing_all, with_bases}
use Rattle.fs_view.proofs.admit.new_bases.Given as goal

abbrev pub invariant-loop-kept : goal.invariant-loop-kept
invariant-loop-kept l = record {
  each : length l.bases ≡ l.kept-index;
  after : with_bases l.log (take l.kept-index l.leases) l.bases ≡ map (knowing_all l.session l.log) (take l.kept-index l.leases);
}
