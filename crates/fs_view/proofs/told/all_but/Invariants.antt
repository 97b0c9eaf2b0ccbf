use Rattle.std.proofs.Common.{◌≡◌, ◌≤◌, drop, length}
use Rattle.fs_field.specs.After.{without_handle}
use Rattle.fs_view.specs.Told.{all_modes}
use Rattle.fs_view.proofs.told.all_but.Given as goal

abbrev pub invariant-loop-at : goal.invariant-loop-at
invariant-loop-at l = record {
  within : l.at ≤ length l.own;
  all : l.all ≡ all_modes (without_handle (drop l.at l.own) l.h);
}

abbrev pub decreases-loop-at : goal.decreases-loop-at
decreases-loop-at l = l.at
