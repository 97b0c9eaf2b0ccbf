use Rattle.std.proofs.Common.{rules, drop, refl}
use Rattle.fs_ident.specs.Packed.{bits_of}
use Rattle.fs_ident.proofs.Words.{zeros_are}
use Rattle.fs_ident.proofs.bits.zeros_at.Goals as goal

pub returns : goal.returns
returns c = zeros_are (drop c.args.at (bits_of c.args.bytes.now)) c.word_at.result _ (search rules) refl c.word_at.ensures
