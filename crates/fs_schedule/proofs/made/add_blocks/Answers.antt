use Rattle.fs_schedule.proofs.Making.{no_block, one_block}
use Rattle.fs_schedule.proofs.made.add_blocks.Goals as goal

pub loop-b-init : goal.loop-b-init
loop-b-init c = no_block c.args.n c.args.events.now

pub loop-b-preserved : goal.loop-b-preserved
loop-b-preserved c =
    one_block c.args.n c.loop-b.b c.args.events.now c.loop-b.events c.add_moves.new.events c.add_block_at.new.events c.loop-b.state c.in_ok-state.state
    c.loop-b.invariant c.in_ok-add_moves.ensures c.in_ok-state.ensures.events c.in_ok-state.ensures.state
