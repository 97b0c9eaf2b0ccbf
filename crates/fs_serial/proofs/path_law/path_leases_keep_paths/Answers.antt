use Rattle.fs_serial.proofs.Paths.First.{first_paths}
use Rattle.fs_serial.proofs.Paths.Messages.{none_strange}
use Rattle.fs_serial.proofs.Paths.Together.{asking_back_keeps, installs_keep, messages_keep, moves_keep, others_keep}
use Rattle.fs_serial.proofs.path_law.path_leases_keep_paths.Goals as goal

pub returns-clause-first : goal.returns-clause-first
returns-clause-first c = first_paths

pub returns-clause-messages : goal.returns-clause-messages
returns-clause-messages c = messages_keep

pub returns-clause-back : goal.returns-clause-back
returns-clause-back c = asking_back_keeps

pub returns-clause-moves : goal.returns-clause-moves
returns-clause-moves c = moves_keep

pub returns-clause-install : goal.returns-clause-install
returns-clause-install c = installs_keep

pub returns-clause-others : goal.returns-clause-others
returns-clause-others c = others_keep

pub returns-clause-strange : goal.returns-clause-strange
returns-clause-strange c = none_strange
