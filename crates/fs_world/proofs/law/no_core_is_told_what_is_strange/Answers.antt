use Rattle.fs_world.proofs.HeldLaws.{serial_laws}
use Rattle.fs_world.proofs.RightRuns.{no_core_strange}
use Rattle.fs_world.proofs.Within.{all_carry}
use Rattle.fs_world.proofs.law.no_core_is_told_what_is_strange.Goals as goal

pub returns : goal.returns
returns c = λ s fits may timely within. no_core_strange serial_laws s fits may timely (all_carry s.head s.events fits within)
