use Rattle.fs_serial.proofs.Returns.Reaping.{reap_keeps}
use Rattle.fs_serial.proofs.law.a_reap_keeps_the_parts.Goals as goal

pub returns : goal.returns
returns c = reap_keeps
