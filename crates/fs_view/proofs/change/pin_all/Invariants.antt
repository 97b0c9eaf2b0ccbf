use Rattle.std.proofs.Common.{◌≡◌, true, drop}
use Rattle.fs_view.specs.Index.{AreFound}
use Rattle.fs_view.specs.View.{can_pin_all, pinned_all}
use Rattle.fs_view.proofs.change.pin_all.Given as goal

abbrev pub invariant-loop-u : goal.invariant-loop-u
invariant-loop-u l = record {
  found : AreFound l.leases;
  room : can_pin_all (drop l.u-index l.uses) l.leases.kept.items ≡ true;
  pinned : pinned_all (drop l.u-index l.uses) l.leases.kept.items ≡ pinned_all l.uses l.initial.leases.kept.items;
}
