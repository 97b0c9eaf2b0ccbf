use Rattle.fs_world.proofs.HeldLaws.{serial_laws}
use Rattle.fs_world.proofs.RightRuns.{refusals_fair}
use Rattle.fs_world.proofs.Within.{all_carry}
use Rattle.fs_world.proofs.law.refusals_are_fair.Goals as goal

pub returns : goal.returns
returns c = λ s fits may timely within. refusals_fair serial_laws s fits may timely (all_carry s.head s.events fits within)
