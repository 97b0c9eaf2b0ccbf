use Rattle.std.proofs.Common.{arith}
use Rattle.fs_serial.proofs.Places.Joining.{read_In}
use Rattle.fs_serial.proofs.space.take_all.Goals as goal

pub take-requires : goal.take-requires
take-requires c =
    c.requires c.entry-item.result (read_In c.args.records.now c.loop-entry.entry-index c.entry-item.result (omega arith) c.entry-item.is)
