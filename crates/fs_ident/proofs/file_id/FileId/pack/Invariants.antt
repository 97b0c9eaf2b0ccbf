use Rattle.std.proofs.Common.{◌≡◌, ◌+◌, ◌*◌, ◌≤◌, length, take}
use Rattle.fs_ident.specs.Packed.{codes_of}
use Rattle.fs_ident.specs.Bits.{written, count_of, IsReady}
use Rattle.fs_ident.proofs.file_id.FileId.pack.Given as goal

abbrev pub invariant-loop-n : goal.invariant-loop-n
invariant-loop-n l = record {
  bits : written l.bits ≡ codes_of (length l.numbers) (take l.n-index l.numbers);
  count : count_of l.bits ≤ 63 * (l.n-index + 1);
  ready : IsReady l.bits;
}
