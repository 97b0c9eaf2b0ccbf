use Rattle.std.proofs.Common.{rules}
use Rattle.fs_ident.proofs.Writes.{bytes_written}
use Rattle.fs_ident.proofs.bit_writer.BitWriter.bytes.Goals as goal

pub returns : goal.returns
returns c = bytes_written c.args.self.now (search rules) c.requires.whole c.requires.ready.each
