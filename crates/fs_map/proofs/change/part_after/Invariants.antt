use Rattle.std.proofs.Common.{◌≡◌, ◌+◌, length, true}
use Rattle.fs_ident.specs.Ordered.{are_keys_in_order}
use Rattle.fs_map.specs.Map.{after_take}
use Rattle.fs_map.proofs.Merging.{IsListedSoFar}
use Rattle.fs_map.proofs.change.part_after.Given as goal

abbrev pub invariant-loop-place : goal.invariant-loop-place
invariant-loop-place l = record {
  listed : IsListedSoFar (after_take l.owners l.to l.piece.prefix l.piece.given) l.piece.prefix l.listed l.old l.new;
  old : are_keys_in_order l.old ≡ true;
  new : are_keys_in_order l.new ≡ true;
}

abbrev pub decreases-loop-place : goal.decreases-loop-place
decreases-loop-place l = length l.old + length l.new
