use Rattle.std.proofs.Common.{◌≡◌, ◌+◌, ◌*◌, ◌^◌, ◌<◌, take, ◌-◌, ◌/◌, ◌++◌}
use Rattle.std.specs.List.{All}
use Rattle.fs_ident.specs.Packed.{binary, bits_of}
use Rattle.fs_ident.proofs.bit_writer.BitWriter.put.Given as goal

abbrev pub invariant-loop-k : goal.invariant-loop-k
invariant-loop-k l = record {
  bytes : bits_of (take l.self.whole l.self.room) ≡ bits_of (take l.fn.self.whole l.fn.self.room) ++ binary (8 * l.k) (l.word / 2 ^ (l.pending - 8 * l.k));
  each : All (λ b. b < 256) (take l.self.whole l.self.room);
  whole : l.self.whole ≡ l.fn.self.whole + l.k;
}
