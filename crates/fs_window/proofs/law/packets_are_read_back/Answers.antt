use Rattle.fs_window.proofs.ReadBack.{written}
use Rattle.fs_window.proofs.law.packets_are_read_back.Goals as goal

pub returns : goal.returns
returns c = written
