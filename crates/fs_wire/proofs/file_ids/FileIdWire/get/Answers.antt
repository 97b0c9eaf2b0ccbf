use Rattle.std.proofs.Common.{rules}
use Rattle.fs_wire.proofs.IdWires.{gives-front, bit-within, gives-stop}
use Rattle.fs_wire.proofs.file_ids.FileIdWire.get.Goals as goal

pub overflow_sub-bytes : goal.overflow_sub-bytes
overflow_sub-bytes c = bit-within c.args.bytes.now c.in-Err-BadBits.at (c.in-Err-BadBits.ensures.bad c.in-Err-BadBits.at (search rules)).1

pub returns-in-Ok : goal.returns-in-Ok
returns-in-Ok c = gives-front c.args.bytes.now c.in-Ok.id c.in-Ok.used c.in-Ok.ensures.valid c.in-Ok.ensures.ok

pub returns-in-Err-BadBits : goal.returns-in-Err-BadBits
returns-in-Err-BadBits c =
    let told = c.in-Err-BadBits.ensures.bad c.in-Err-BadBits.at (search rules) in
    rw c.stop.ensures (gives-stop c.args.bytes.now c.in-Err-BadBits.at (search rules) told.0 told.1)
