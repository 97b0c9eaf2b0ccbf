use Rattle.fs_ident.specs.Bits.{written}
use Rattle.fs_ident.proofs.Writes.{code_put}
use Rattle.fs_ident.proofs.bit_writer.BitWriter.put_code.Goals as goal

pub returns-clause-bits : goal.returns-clause-bits
returns-clause-bits c = code_put (written c.args.self.now) (written c.put.new.self) (written c.put-2.new.self) c.args.n c.ilog2-zeros.result c.ilog2-zeros.ensures.bound c.ilog2-zeros.ensures.power_le c.ilog2-zeros.ensures.next_power_gt c.put.ensures.bits c.put-2.ensures.bits
