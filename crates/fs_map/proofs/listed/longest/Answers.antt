use Rattle.std.proofs.Common.{sym, ◌∙◌}
use Rattle.fs_map.proofs.Found.{longest_split, longest_empty}
use Rattle.fs_map.proofs.listed.longest.Goals as goal

pub returns-in-None : goal.returns-in-None
returns-in-None g c = sym (longest_empty _ _ c.in-None.ensures.cases c.in_default.ensures.absent) ∙ c.loop-place.invariant

pub loop-place-preserved : goal.loop-place-preserved
loop-place-preserved g c = sym (longest_split _ _ _ _ c.in-Some.ensures.cases.0 c.in_default.ensures.absent) ∙ c.loop-place.invariant
