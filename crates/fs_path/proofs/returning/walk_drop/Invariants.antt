use Rattle.std.proofs.Common.{◌≡◌, ◌≤◌, ◌-◌, ◌++◌, take, drop, length, vec_len}
use Rattle.fs_path.specs.Returns.{without_no}
use Rattle.fs_path.proofs.returning.walk_drop.Given as goal

abbrev pub invariant-loop-at : goal.invariant-loop-at
invariant-loop-at l = record {
  within : l.at ≤ length l.issued.items;
  kept : take l.at l.issued.items ++ without_no l.no (drop l.at l.issued.items) ≡ without_no l.no l.initial.issued.items;
}

abbrev pub decreases-loop-at : goal.decreases-loop-at
decreases-loop-at l = vec_len l.issued - l.at
