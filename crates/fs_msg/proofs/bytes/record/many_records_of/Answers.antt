use Rattle.std.proofs.lemmas.Result.{err_from_is_err_and}
use Rattle.fs_wire.specs.Readers.{pair_at, many_at}
use Rattle.fs_wire.specs.Reading.{identifier_at}
use Rattle.fs_wire.proofs.Loop.{goes_on, ends, is_done}
use Rattle.fs_msg.specs.Reading.{record_at}
use Rattle.fs_msg.proofs.bytes.record.many_records_of.Goals as goal

pub returns-in_err-filed : goal.returns-in_err-filed
returns-in_err-filed c =
    let p = err_from_is_err_and c.from_residual.result c.from_residual.ensures.1 in
    rw (p.1, p.2) (ends (pair_at identifier_at record_at) c.in_err-filed.field-0.0 c.loop.records c.args.count c.loop.counter c.loop.rest.now (many_at (pair_at identifier_at record_at) c.args.count c.args.bytes.now) c.loop-test.true c.in_err-filed.ensures c.loop.invariant)

pub loop-preserved : goal.loop-preserved
loop-preserved c = rw c.in_ok-push.ensures.ok (goes_on (pair_at identifier_at record_at) c.loop.records c.args.count c.loop.counter c.loop.rest.now c.in_ok-filed.filed c.in_ok-filed.after.now (many_at (pair_at identifier_at record_at) c.args.count c.args.bytes.now) c.loop-test.true c.in_ok-filed.ensures c.loop.invariant)

pub returns : goal.returns
returns c = is_done (pair_at identifier_at record_at) c.loop.records c.args.count c.loop.counter c.loop.rest.now (many_at (pair_at identifier_at record_at) c.args.count c.args.bytes.now) c.loop-test.false c.loop.invariant
