use Rattle.std.proofs.Common.{◌≡◌, ◌++◌, ◌+◌, ◌≤◌, drop, length, vec_len, vec_capacity}
use Rattle.fs_ident.specs.Maps.{map_of}
use Rattle.fs_record.specs.Moving.{records_without}
use Rattle.fs_record.specs.Walk.{taken_out}
use Rattle.fs_record.proofs.moving.take_out.Given as goal

abbrev pub invariant-loop-file : goal.invariant-loop-file
invariant-loop-file l = record {
  moved : l.moved.items ++ taken_out (drop l.file-index l.files) (map_of l.records) ≡ l.initial.moved.items ++ taken_out l.files (map_of l.initial.records);
  left : records_without (drop l.file-index l.files) (map_of l.records) ≡ records_without l.files (map_of l.initial.records);
  room : vec_len l.moved + length (drop l.file-index l.files) ≤ vec_capacity l.moved;
}
