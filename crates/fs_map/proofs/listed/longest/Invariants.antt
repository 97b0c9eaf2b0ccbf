use Rattle.std.proofs.Common.{◌≡◌, length}
use Rattle.fs_map.specs.Map.{longest}
use Rattle.fs_map.proofs.listed.longest.Given as goal

abbrev pub invariant-loop-place : goal.invariant-loop-place
invariant-loop-place g l = longest l.listed l.prefix ≡ longest l.listed l.fn.id

abbrev pub decreases-loop-place : goal.decreases-loop-place
decreases-loop-place g l = length l.prefix
