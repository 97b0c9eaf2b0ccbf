use Rattle.std.proofs.Common.{◌≡◌, ◌≤◌, ◌-◌, ◌++◌, not, take, drop, length, vec_len}
use Rattle.std.specs.List.{filter}
use Rattle.fs_path.specs.Asked.{asks}
use Rattle.fs_path.specs.Index.{IsHad}
use Rattle.fs_path.specs.Returns.{goes_back}
use Rattle.fs_path.proofs.giving.let_go.Given as goal

abbrev pub invariant-loop-at : goal.invariant-loop-at
invariant-loop-at l = record {
  within : l.at ≤ length l.held.items;
  kept : take l.at l.held.items ++ filter (λ h. not (goes_back (asks l.asked) l.issued h)) (drop l.at l.held.items) ≡ filter (λ h. not (goes_back (asks l.asked) l.issued h)) l.initial.held.items;
  had : IsHad l.had l.held.items;
}

abbrev pub decreases-loop-at : goal.decreases-loop-at
decreases-loop-at l = vec_len l.held - l.at
