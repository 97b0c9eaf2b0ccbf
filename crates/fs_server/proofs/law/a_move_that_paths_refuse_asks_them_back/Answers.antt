use Rattle.fs_server.proofs.Returning.{paths_asked_back, paths_given_back, paths_keep, paths_noted, paths_only}
use Rattle.fs_server.proofs.law.a_move_that_paths_refuse_asks_them_back.Goals as goal

pub returns-clause-note : goal.returns-clause-note
returns-clause-note c = paths_noted

pub returns-clause-asked : goal.returns-clause-asked
returns-clause-asked c = paths_asked_back

pub returns-clause-back : goal.returns-clause-back
returns-clause-back c = paths_given_back

pub returns-clause-only : goal.returns-clause-only
returns-clause-only c = paths_only

pub returns-clause-kept : goal.returns-clause-kept
returns-clause-kept c = paths_keep
