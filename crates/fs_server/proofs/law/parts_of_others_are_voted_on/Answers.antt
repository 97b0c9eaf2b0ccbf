use Rattle.fs_server.proofs.Following.{vote_is}
use Rattle.fs_server.proofs.law.parts_of_others_are_voted_on.Goals as goal

pub returns : goal.returns
returns c = vote_is
