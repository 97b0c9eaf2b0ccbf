use Rattle.fs_server.proofs.OnPaths.{begun_by_path, came_again, frozen_again, gone_again, left_again, voted_by_path, wanted_again}
use Rattle.fs_server.proofs.leading_law.the_path_is_taken_again.Goals as goal

pub returns-clause-begins : goal.returns-clause-begins
returns-clause-begins c = begun_by_path

pub returns-clause-votes : goal.returns-clause-votes
returns-clause-votes c = voted_by_path

pub returns-clause-wanted : goal.returns-clause-wanted
returns-clause-wanted c = wanted_again

pub returns-clause-frozen : goal.returns-clause-frozen
returns-clause-frozen c = frozen_again

pub returns-clause-gone : goal.returns-clause-gone
returns-clause-gone c = gone_again

pub returns-clause-came : goal.returns-clause-came
returns-clause-came c = came_again

pub returns-clause-left : goal.returns-clause-left
returns-clause-left c = left_again
