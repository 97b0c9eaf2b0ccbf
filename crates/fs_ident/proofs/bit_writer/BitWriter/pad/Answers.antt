use Rattle.std.proofs.Common.{rules, ◌-◌, ◌%◌, refl}
use Rattle.fs_ident.proofs.Writes.{pad_put}
use Rattle.fs_ident.proofs.bit_writer.BitWriter.pad.Goals as goal

pub returns-clause-bits : goal.returns-clause-bits
returns-clause-bits c = pad_put c.args.self.now c.put.new.self ((8 - c.args.self.now.pending) % 8) (search rules) refl c.requires.few c.put.ensures.bits
