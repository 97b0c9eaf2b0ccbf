use Rattle.fs_server.proofs.Returning.{message_keeps}
use Rattle.fs_server.proofs.law.paths_change_no_file.Goals as goal

pub returns : goal.returns
returns c = message_keeps
