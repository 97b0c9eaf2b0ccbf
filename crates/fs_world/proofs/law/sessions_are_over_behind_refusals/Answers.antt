use Rattle.fs_world.proofs.CausedRuns.{all_caused}
use Rattle.fs_world.proofs.Within.{all_carry}
use Rattle.fs_world.proofs.law.sessions_are_over_behind_refusals.Goals as goal

pub returns : goal.returns
returns c = λ s fits within. all_caused s.head s.events (all_carry s.head s.events fits within)
