use Rattle.std.proofs.Common.{◌≡◌, ◌++◌, drop}
use Rattle.farsite.specs.Generated.{refused_in}
use Rattle.farsite.proofs.generated.count_refused.Given as goal

abbrev pub invariant-loop-o : goal.invariant-loop-o
invariant-loop-o l = l.numbers.items ++ refused_in (drop l.o-index l.outcomes) ≡ refused_in l.outcomes
