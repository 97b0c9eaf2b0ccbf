use Rattle.fs_world.proofs.AnyReadings.{run_orderly}
use Rattle.fs_world.proofs.Within.{all_carry}
use Rattle.fs_world.proofs.law.every_run_is_orderly.Goals as goal

pub returns : goal.returns
returns c = λ s fits may within. run_orderly s fits may (all_carry s.head s.events fits within)
