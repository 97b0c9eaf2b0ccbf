use Rattle.std.proofs.Common.{◌≡◌, length}
use Rattle.fs_ident.specs.Packed.{bits_of}
use Rattle.fs_ident.specs.Bits.{HasRead}
use Rattle.fs_ident.proofs.file_id.FileId.unpack.Given as goal

abbrev pub invariant-loop : goal.invariant-loop
invariant-loop l = record {
  read : HasRead (bits_of l.bytes) l.depth l.numbers.items l.at;
  count : length l.numbers.items ≡ l.counter;
}
