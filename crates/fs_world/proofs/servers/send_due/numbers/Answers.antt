use Rattle.std.proofs.Common.{◌∙◌, length}
use Rattle.fs_world.proofs.SentNumbers.{numbers_step}
use Rattle.fs_world.proofs.servers.send_due.numbers.Goals as goal

pub loop-number-preserved : goal.loop-number-preserved
loop-number-preserved c = rw c.in_ok-push.ensures.ok (numbers_step c.loop-number.all (length c.args.before.now) c.loop-number.number
    c.args.packets.now c.loop-number.auto.number c.loop-number-test.true ∙ c.loop-number.invariant)
