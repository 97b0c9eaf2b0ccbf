use Rattle.std.proofs.Common.{arith}
use Rattle.fs_world.proofs.Marks.{undelivered_past, undelivered_within}
use Rattle.fs_world.proofs.servers.packets.undelivered_from.Goals as goal

pub loop-next-preserved : goal.loop-next-preserved
loop-next-preserved c =
    undelivered_past c.args.delivered.now c.loop-next.next c.loop-next-test.true c.if-delivered-next.true c.loop-next.invariant

pub returns-after-loop-next : goal.returns-after-loop-next
returns-after-loop-next c = omega (arith, undelivered_within c.args.delivered.now)
