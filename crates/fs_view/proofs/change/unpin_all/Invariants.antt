use Rattle.std.proofs.Common.{◌≡◌, true, drop}
use Rattle.fs_view.specs.Index.{AreFound}
use Rattle.fs_view.specs.View.{unpinned_all}
use Rattle.fs_view.proofs.change.unpin_all.Given as goal

abbrev pub invariant-loop-u : goal.invariant-loop-u
invariant-loop-u l = record {
  found : AreFound l.leases;
  unpinned : unpinned_all (drop l.u-index l.uses) l.leases.kept.items ≡ unpinned_all l.uses l.initial.leases.kept.items;
}
