use Rattle.fs_serial.proofs.Moves.Leaving.{leaving_places, leaving_keeps}
use Rattle.fs_serial.proofs.law.a_move_leaves_all_as_it_was.Goals as goal

pub returns-clause-same : goal.returns-clause-same
returns-clause-same c = leaving_keeps

pub returns-clause-places : goal.returns-clause-places
returns-clause-places c = leaving_places
