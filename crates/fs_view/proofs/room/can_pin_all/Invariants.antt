use Rattle.std.proofs.Common.{◌≡◌, take, drop}
use Rattle.fs_view.specs.Pins.{can_pin_after}
use Rattle.fs_view.specs.View.{can_pin_all}
use Rattle.fs_view.proofs.room.can_pin_all.Given as goal

abbrev pub invariant-loop-at : goal.invariant-loop-at
invariant-loop-at l = can_pin_after (take l.at l.uses) (drop l.at l.uses) l.leases.kept.items ≡ can_pin_all l.uses l.leases.kept.items
