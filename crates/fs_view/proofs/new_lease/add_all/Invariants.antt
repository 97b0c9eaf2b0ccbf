use Rattle.std.proofs.Common.{◌≡◌, ◌≤◌, ◌+◌, ◌++◌, length, map, vec_len, vec_capacity}
use Rattle.std.specs.Vec.Iter.{into_iter_items, into_iter_len}
use Rattle.indexmap.specs.IndexSet.{spare}
use Rattle.fs_view.specs.Index.{AreFound}
use Rattle.fs_view.specs.View.{kept_new}
use Rattle.fs_view.proofs.Grants.{Adding}
use Rattle.fs_view.proofs.new_lease.add_all.Given as goal

abbrev pub invariant-loop-lease : goal.invariant-loop-lease
invariant-loop-lease l = record {
  len : into_iter_len l.lease-iterator ≡ length (into_iter_items l.lease-iterator);
  room : vec_len l.leases.kept + length (into_iter_items l.lease-iterator) ≤ vec_capacity l.leases.kept;
  spare : length (into_iter_items l.lease-iterator) ≤ spare l.leases.numbers;
  adding : Adding (into_iter_items l.lease-iterator) l.leases.kept.items (l.initial.leases.kept.items ++ map kept_new l.fn.new);
  found : AreFound l.leases;
}
