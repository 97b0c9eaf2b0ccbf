use Rattle.std.proofs.Common.{arith, subst}
use Rattle.fs_wire.specs.declared.fault.ReadError.{ReadError}
use Rattle.fs_wire.specs.Readers.{Fails}
use Rattle.fs_msg.specs.Reading.{message_at}
use Rattle.fs_msg.proofs.Exact.{read-within, left-within}
use Rattle.fs_msg.proofs.reading.prefix_of.Goals as goal

pub overflow_sub-result : goal.overflow_sub-result
overflow_sub-result c = read-within c.args.bytes.now (c.in-Ok.m, c.in-Ok.rest.now) (λ i. omega (arith, c.type_inv.bytes i)) c.in-Ok.ensures

pub error_of-requires : goal.error_of-requires
error_of-requires c = left-within c.args.bytes.now c.in-Err-Fault.fault (λ i. omega (arith, c.type_inv.bytes i)) (subst (λ (z : ReadError). Fails z (message_at c.args.bytes.now)) c.in-Err-Fault.field-0-is c.in-Err-Fault.ensures)
