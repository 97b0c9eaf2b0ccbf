use Rattle.std.proofs.Common.{length}
use Rattle.fs_ident.specs.Packed.{bits_of}
use Rattle.fs_ident.proofs.Words.{length-bits_of, padding_has_one, padding_is_zeros}
use Rattle.fs_ident.proofs.bits.padding_at.Goals as goal

pub returns-then-zeros-wanting : goal.returns-then-zeros-wanting
returns-then-zeros-wanting c = padding_has_one (bits_of c.args.bytes.now) c.args.at c.zeros_at-zeros.result (length c.args.bytes.now) (length-bits_of c.args.bytes.now) c.requires.within c.zeros_at-zeros.ensures c.if-zeros-wanting.true

pub returns-else-zeros-wanting : goal.returns-else-zeros-wanting
returns-else-zeros-wanting c = padding_is_zeros (bits_of c.args.bytes.now) c.args.at c.zeros_at-zeros.result (length c.args.bytes.now) (length-bits_of c.args.bytes.now) c.requires.within c.zeros_at-zeros.ensures c.if-zeros-wanting.false
