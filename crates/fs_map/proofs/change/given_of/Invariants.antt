use Rattle.std.proofs.Common.{◌≡◌, drop, true}
use Rattle.fs_ident.specs.Ordered.{are_keys_in_order}
use Rattle.fs_map.proofs.Changing.{is_mine, nothing}
use Rattle.fs_map.proofs.Merging.{IsListedSoFar}
use Rattle.fs_map.proofs.change.given_of.Given as goal

abbrev pub invariant-loop-place : goal.invariant-loop-place
invariant-loop-place l = record {
  listed : IsListedSoFar (is_mine l.owners l.me) l.prefix l.given (drop l.place-index l.part) nothing;
  order : are_keys_in_order (drop l.place-index l.part) ≡ true;
}
