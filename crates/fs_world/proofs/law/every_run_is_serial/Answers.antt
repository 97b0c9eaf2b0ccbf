use Rattle.fs_world.proofs.HeldLaws.{serial_laws}
use Rattle.fs_world.proofs.Whole.{run_is_serial, told_is_admitted}
use Rattle.fs_world.proofs.Within.{all_carry}
use Rattle.fs_world.proofs.law.every_run_is_serial.Goals as goal

pub returns : goal.returns
returns c = record {
  serial = λ s fits may timely within. run_is_serial serial_laws s fits may timely
      (all_carry s.head s.events fits within);
  admitted = told_is_admitted serial_laws;
}
