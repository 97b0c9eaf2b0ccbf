use Rattle.fs_schedule.specs.Made.{asks}
use Rattle.fs_schedule.proofs.Making.{each_none, each_more}
use Rattle.fs_schedule.proofs.made.add_asks.Goals as goal

pub loop-k-init : goal.loop-k-init
loop-k-init c = each_none c.args.events.now (λ _. asks c.args.session c.args.op.now)

pub loop-k-preserved : goal.loop-k-preserved
loop-k-preserved c = each_more (λ _. asks c.args.session c.args.op.now) c.loop-k.k c.args.events.now c.loop-k.events c.add_ask.new.events c.loop-k.invariant c.in_ok-add_ask.ensures
