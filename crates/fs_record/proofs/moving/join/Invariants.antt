use Rattle.std.proofs.Common.{◌≡◌, ◌++◌, true}
use Rattle.std.specs.Map.{keys_of}
use Rattle.std.specs.Vec.Iter.{into_iter_items}
use Rattle.fs_ident.specs.Maps.{map_of}
use Rattle.fs_record.specs.Moving.{are_absent, are_distinct, with_records}
use Rattle.fs_record.specs.Walk.{taken_back}
use Rattle.fs_record.proofs.moving.join.Given as goal

abbrev pub invariant-loop-entry : goal.invariant-loop-entry
invariant-loop-entry l = record {
  same : with_records (into_iter_items l.entry-iterator) (map_of l.records) ≡ with_records (into_iter_items l.initial.entry-iterator) (map_of l.initial.records);
  distinct : are_distinct (into_iter_items l.entry-iterator) ≡ true;
  absent : are_absent (map_of l.records) (into_iter_items l.entry-iterator) ≡ true;
  named : l.came.items ++ keys_of (into_iter_items l.entry-iterator) ≡ keys_of (into_iter_items l.initial.entry-iterator);
  back : taken_back l.came.items (map_of l.records) ≡ map_of l.initial.records;
}
