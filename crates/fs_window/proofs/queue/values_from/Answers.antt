use Rattle.fs_window.proofs.Changes.{next_left}
use Rattle.fs_window.proofs.queue.values_from.Goals as goal

pub loop-preserved : goal.loop-preserved
loop-preserved g c = next_left _ c.args.queue.now c.loop.values c.next.new.self c.loop.counter c.next.result c.loop.invariant c.next.ensures.steps
