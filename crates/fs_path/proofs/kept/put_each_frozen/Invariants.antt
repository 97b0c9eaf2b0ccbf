use Rattle.std.proofs.Common.{◌≡◌, ◌≤◌, ◌+◌, length, vec_len}
use Rattle.std.specs.Prelude.{vec_capacity}
use Rattle.std.specs.Vec.Iter.{into_iter_items}
use Rattle.fs_path.specs.Kept.{IsKept}
use Rattle.fs_path.specs.Tables.{with_all_frozen}
use Rattle.fs_path.proofs.kept.put_each_frozen.Given as goal

-- the files that are left come behind those that are kept, and there is room for them
abbrev pub invariant-loop-file : goal.invariant-loop-file
invariant-loop-file l = record {
  all : with_all_frozen l.txn (into_iter_items l.file-iterator) l.frozen.items ≡ with_all_frozen l.txn l.fn.files l.initial.frozen.items;
  room : vec_len l.frozen + length (into_iter_items l.file-iterator) ≤ vec_capacity l.frozen;
  kept : IsKept l.kept l.frozen.items;
}
