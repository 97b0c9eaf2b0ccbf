use Rattle.fs_server.proofs.LeadingHere.{decided_here}
use Rattle.fs_server.proofs.law.parts_here_vote_at_once.Goals as goal

pub returns : goal.returns
returns c = decided_here
