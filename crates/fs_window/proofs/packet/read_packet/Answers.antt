use Rattle.std.proofs.Common.{◌≡◌, None, Some, sym, arith}
use Rattle.fs_window.proofs.ReadBack.{parts_read}
use Rattle.fs_window.proofs.packet.read_packet.Goals as goal

pub returns-in_default-body-clause-found : goal.returns-in_default-body-clause-found
returns-in_default-body-clause-found c =
    let was = rw c.in_default-body.is at c.in-Some.ensures in
    let p = parts_read c.args.bytes.now c.in-Some.ack None (λ i. omega (arith, c.type_inv.bytes i)) (sym was) in
    (record { ack = p.ack_fits; body = tt }, p.text)

pub returns-in-Some-2-clause-found : goal.returns-in-Some-2-clause-found
returns-in-Some-2-clause-found c =
    let was = rw c.in-Some-body.is at c.in-Some.ensures in
    let segment : c.in-Some-2.segment ≡ c.in-Some-body.bytes.now = rw c.in-Some-2.is at c.in_ok-new.ensures.some in
    let valid = rw c.in-Some-2.is at c.in_ok-new.ensures.valid in
    let p = parts_read c.args.bytes.now c.in-Some.ack (Some (c.in-Some-body.number, c.in-Some-body.bytes.now)) (λ i. omega (arith, c.type_inv.bytes i)) (sym was) in
    (record { ack = p.ack_fits; body = (p.number_fits, rw segment valid) }, rw segment p.text)
