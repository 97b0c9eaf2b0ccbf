use Rattle.fs_world.proofs.HeldLaws.{serial_laws}
use Rattle.fs_world.proofs.Whole.{parts_kept}
use Rattle.fs_world.proofs.Within.{all_carry}
use Rattle.fs_world.proofs.law.every_run_keeps_all_parts.Goals as goal

pub returns : goal.returns
returns c = λ s fits may timely within. parts_kept serial_laws s fits may timely (all_carry s.head s.events fits within)
