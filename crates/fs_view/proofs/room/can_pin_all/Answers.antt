use Rattle.fs_view.proofs.Counting.{pins_counted}
use Rattle.fs_view.proofs.room.can_pin_all.Goals as goal

pub loop-at-init : goal.loop-at-init
loop-at-init c = pins_counted c.args.uses.now c.args.leases.now.kept.items
