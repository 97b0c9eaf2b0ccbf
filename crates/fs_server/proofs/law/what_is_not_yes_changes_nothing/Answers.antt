use Rattle.fs_server.proofs.Following.{others_stay}
use Rattle.fs_server.proofs.law.what_is_not_yes_changes_nothing.Goals as goal

pub returns : goal.returns
returns c = others_stay
