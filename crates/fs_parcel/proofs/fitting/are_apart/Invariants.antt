use Rattle.std.proofs.Common.{◌≡◌, length}
use Rattle.fs_record.specs.Moving.{are_distinct}
use Rattle.fs_parcel.proofs.fitting.are_apart.Given as goal

-- what is left answers for all
abbrev pub invariant-loop-first : goal.invariant-loop-first
invariant-loop-first l = are_distinct l.rest ≡ are_distinct l.records

abbrev pub decreases-loop-first : goal.decreases-loop-first
decreases-loop-first l = length l.rest
