use Rattle.fs_schedule.specs.Made.{turns}
use Rattle.fs_schedule.proofs.Making.{each_none, each_more}
use Rattle.fs_schedule.proofs.made.add_turns.Goals as goal

pub loop-k-init : goal.loop-k-init
loop-k-init c = each_none c.args.events.now (turns)

pub loop-k-preserved : goal.loop-k-preserved
loop-k-preserved c = each_more (turns) c.loop-k.k c.args.events.now c.loop-k.events c.add_turn.new.events c.loop-k.invariant c.in_ok-add_turn.ensures
