use Rattle.std.proofs.Common.{◌≡◌, ◌≤◌, ◌-◌, ◌++◌, not, take, drop, length, vec_len, vec_capacity}
use Rattle.std.specs.List.{filter}
use Rattle.indexmap.specs.IndexSet.{spare}
use Rattle.fs_view.specs.Index.{AreFound}
use Rattle.fs_view.specs.ViewLease.{has_ended}
use Rattle.fs_view.proofs.ends.lapse.Given as goal

abbrev pub invariant-loop-at : goal.invariant-loop-at
invariant-loop-at l = record {
  shorter : vec_len l.leases.kept ≤ vec_len l.initial.leases.kept;
  capacity : vec_capacity l.leases.kept ≡ vec_capacity l.initial.leases.kept;
  spare : spare l.initial.leases.numbers ≤ spare l.leases.numbers;
  within : l.at ≤ length l.leases.kept.items;
  kept : take l.at l.leases.kept.items ++ filter (λ k. not (has_ended l.now k.standing)) (drop l.at l.leases.kept.items) ≡ filter (λ k. not (has_ended l.now k.standing)) l.initial.leases.kept.items;
  found : AreFound l.leases;
}

abbrev pub decreases-loop-at : goal.decreases-loop-at
decreases-loop-at l = vec_len l.leases.kept - l.at
