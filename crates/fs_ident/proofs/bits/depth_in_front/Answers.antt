use Rattle.std.proofs.Common.{arith}
use Rattle.fs_ident.specs.Packed.{bits_of}
use Rattle.fs_ident.proofs.CodePlaces.{too_many_zeros, too_deep}
use Rattle.fs_ident.proofs.bits.depth_in_front.Goals as goal

pub returns-then-zeros-gt5 : goal.returns-then-zeros-gt5
returns-then-zeros-gt5 c = too_many_zeros (bits_of c.args.bytes.now) c.zeros_at-zeros.result 5 33 c.held_at.result c.zeros_at-zeros.ensures (omega arith) (omega arith) (omega arith) (omega arith) c.held_at.ensures

pub returns-then-number-gt33 : goal.returns-then-number-gt33
returns-then-number-gt33 c = too_deep (bits_of c.args.bytes.now) c.zeros_at-zeros.result c.number_behind-number.result c.zeros_at.result (omega arith) c.number_behind-number.ensures (omega arith) c.zeros_at.ensures
