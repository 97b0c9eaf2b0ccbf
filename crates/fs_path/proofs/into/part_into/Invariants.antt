use Rattle.std.proofs.Common.{◌≡◌, ◌≤◌, take, length, true, vec_len}
use Rattle.std.specs.FinMap.{entries}
use Rattle.fs_ident.specs.Maps.{map_of}
use Rattle.fs_path.specs.Index.{are_rising, no_of_held}
use Rattle.fs_path.specs.Into.{names_from, names_there, parted_each, parts_at}
use Rattle.fs_path.proofs.into.part_into.Given as goal

abbrev pub invariant-loop-entry : goal.invariant-loop-entry
invariant-loop-entry l = record {
  within : l.front ≤ length l.held.items;
  rising : are_rising no_of_held (take l.front l.held.items) ≡ true;
  all : parted_each l.issued (names_from l.map l.me l.prefix l.entry-iterator) (parts_at l.front l.held.items)
      ≡ parted_each l.issued (names_there l.map l.me l.prefix (entries (map_of l.via.files))) (parts_at (vec_len l.fn.held) l.fn.held.items);
}
