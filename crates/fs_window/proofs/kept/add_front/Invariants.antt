use Rattle.std.proofs.Common.{◌≡◌, ◌++◌}
use Rattle.fs_window.specs.LinkEnd.{without_hole}
use Rattle.fs_window.proofs.kept.add_front.Given as goal

-- what was added, and then what is left up to the first hole, are all of them
abbrev pub invariant-loop-slot : goal.invariant-loop-slot
invariant-loop-slot l = l.segments ++ without_hole l.slot-iterator ≡ l.fn.segments ++ without_hole l.kept
