use Rattle.fs_txn.proofs.Waiting.{in_their_order}
use Rattle.fs_txn.proofs.law.what_leaders_tell_keeps_its_order.Goals as goal

pub returns : goal.returns
returns c = in_their_order
