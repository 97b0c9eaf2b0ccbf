use Rattle.fs_world.proofs.Within.{all_carry}
use Rattle.fs_world.proofs.law.links_carry_along_every_run.Goals as goal

pub returns : goal.returns
returns c = λ s. all_carry s.head s.events
