use Rattle.std.proofs.Common.{◌≡◌, ◌+◌, drop}
use Rattle.std.specs.List.{position_or_len}
use Rattle.fs_path.specs.Kept.{txn_before, txn_of}
use Rattle.fs_path.proofs.kept.walk_frozen_place.Given as goal

abbrev pub invariant-loop-at : goal.invariant-loop-at
invariant-loop-at l = l.at + position_or_len (λ x. txn_before l.txn (txn_of x)) (drop l.at l.frozen) ≡ position_or_len (λ x. txn_before l.txn (txn_of x)) l.frozen
