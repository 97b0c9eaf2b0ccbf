use Rattle.std.proofs.Common.{refl}
use Rattle.fs_ident.specs.Packed.{bits_of}
use Rattle.fs_ident.proofs.Words.{word_is}
use Rattle.fs_ident.proofs.bits.word_at.Goals as goal

pub returns : goal.returns
returns c = word_is (bits_of c.args.bytes.now) c.args.at c.eight_at-eight.result _ c.eight_at-eight.ensures refl
