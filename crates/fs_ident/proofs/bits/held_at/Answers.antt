use Rattle.std.proofs.Common.{arith, length-drop}
use Rattle.fs_ident.specs.Packed.{bits_of}
use Rattle.fs_ident.proofs.Words.{length-bits_of}
use Rattle.fs_ident.proofs.bits.held_at.Goals as goal

pub returns-then-bytes-at : goal.returns-then-bytes-at
returns-then-bytes-at c = omega (arith, length-drop c.args.at (bits_of c.args.bytes.now), length-bits_of c.args.bytes.now)

pub returns-else-bytes-at : goal.returns-else-bytes-at
returns-else-bytes-at c = omega (arith, length-drop c.args.at (bits_of c.args.bytes.now), length-bits_of c.args.bytes.now)
