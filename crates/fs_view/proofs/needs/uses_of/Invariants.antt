use Rattle.std.proofs.Common.{◌≡◌, ◌++◌, drop}
use Rattle.std.specs.List.{filter_map}
use Rattle.fs_view.specs.View.{item_use}
use Rattle.fs_view.proofs.needs.uses_of.Given as goal

abbrev pub invariant-loop-need : goal.invariant-loop-need
invariant-loop-need l = l.uses ++ filter_map (item_use l.view l.now) (drop l.need-index l.items) ≡ filter_map (item_use l.view l.now) l.items
