use Rattle.std.proofs.Common.{◌≡◌, ◌≤◌, drop, take, length, true}
use Rattle.fs_path.specs.Index.{are_rising, no_of_held}
use Rattle.fs_path.specs.Into.{parted_each, parts_at}
use Rattle.fs_path.proofs.into.part_each.Given as goal

abbrev pub invariant-loop-name : goal.invariant-loop-name
invariant-loop-name l = record {
  within : l.left ≤ length l.held.items;
  rising : are_rising no_of_held (take l.left l.held.items) ≡ true;
  all : parted_each l.issued (drop l.name-index l.names) (parts_at l.left l.held.items) ≡ parted_each l.issued l.names (parts_at l.front l.fn.held.items);
}
