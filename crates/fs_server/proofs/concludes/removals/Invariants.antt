use Rattle.std.proofs.Common.{◌≡◌, ◌++◌, drop}
use Rattle.std.specs.List.{filter}
use Rattle.fs_record.specs.Applied.{takes_away}
use Rattle.fs_server.proofs.concludes.removals.Given as goal

abbrev pub invariant-loop-e : goal.invariant-loop-e
invariant-loop-e l = l.told ++ filter takes_away (drop l.e-index l.effects) ≡ filter takes_away l.effects
