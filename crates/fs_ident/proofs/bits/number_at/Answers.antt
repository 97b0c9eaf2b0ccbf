use Rattle.std.proofs.Common.{drop, arith}
use Rattle.fs_ident.specs.Packed.{bits_of}
use Rattle.fs_ident.proofs.CodePlaces.{too_many_zeros}
use Rattle.fs_ident.proofs.bits.number_at.Goals as goal

pub returns-then-zeros-gt31 : goal.returns-then-zeros-gt31
returns-then-zeros-gt31 c = too_many_zeros (drop c.args.at (bits_of c.args.bytes.now)) c.zeros_at-zeros.result 31 4294967295 c.held_at.result c.zeros_at-zeros.ensures (omega arith) (omega arith) (omega arith) (omega arith) c.held_at.ensures
