use Rattle.std.proofs.Common.{◌≡◌, ℕ, take}
use Rattle.std.specs.List.{flat_map}
use Rattle.fs_txn.specs.Deciding.{told_effects}
use Rattle.fs_txn.proofs.leading.effects_of_all.Given as goal

abbrev pub invariant-loop-part : goal.invariant-loop-part
invariant-loop-part l = l.effects ≡ flat_map (λ (x : ℕ × ℕ). told_effects l.decision x.0) (take l.part-index l.parts)
