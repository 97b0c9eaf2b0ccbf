use Rattle.std.proofs.Common.{◌≡◌, ◌≤◌, ◌-◌, ◌++◌, map, take, drop, length, vec_len}
use Rattle.fs_path.specs.Asked.{asks}
use Rattle.fs_path.specs.Returns.{asked_back}
use Rattle.fs_path.proofs.giving.leave_all.Given as goal

abbrev pub invariant-loop-at : goal.invariant-loop-at
invariant-loop-at l = record {
  within : l.at ≤ length l.held.items;
  left : take l.at l.held.items ++ map (asked_back (asks l.asked)) (drop l.at l.held.items) ≡ map (asked_back (asks l.asked)) l.initial.held.items;
}

abbrev pub decreases-loop-at : goal.decreases-loop-at
decreases-loop-at l = vec_len l.held - l.at
