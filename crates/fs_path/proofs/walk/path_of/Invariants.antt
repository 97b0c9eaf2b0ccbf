use Rattle.std.proofs.Common.{[], ◌∷◌}
use Rattle.fs_path.proofs.Meeting.{IsOnWay, unmet}
use Rattle.fs_path.proofs.walk.path_of.Given as goal

abbrev pub invariant-loop-at : goal.invariant-loop-at
invariant-loop-at l = IsOnWay (record { issued = []; held = l.held; frozen = l.frozen }) l.records l.file l.at l.below

abbrev pub decreases-loop-at : goal.decreases-loop-at
decreases-loop-at l = unmet l.records (l.at ∷ l.below)
