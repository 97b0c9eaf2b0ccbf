use Rattle.fs_txn.proofs.Once.{at_most_one, counts, stays_for_ever}
use Rattle.fs_txn.proofs.law.a_part_votes_once.Goals as goal

pub returns : goal.returns
returns c = record { once = at_most_one; counted = counts; stays = stays_for_ever }
