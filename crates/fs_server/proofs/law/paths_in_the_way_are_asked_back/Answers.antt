use Rattle.fs_server.proofs.Freezing.{all_asked_back, out_in_the_way}
use Rattle.fs_server.proofs.law.paths_in_the_way_are_asked_back.Goals as goal

pub returns-clause-out : goal.returns-clause-out
returns-clause-out c = out_in_the_way

pub returns-clause-asked : goal.returns-clause-asked
returns-clause-asked c = all_asked_back
