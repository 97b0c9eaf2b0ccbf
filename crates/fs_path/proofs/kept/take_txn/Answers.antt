use Rattle.std.proofs.Common.{◌∙◌}
use Rattle.fs_path.specs.Kept.{itself}
use Rattle.fs_path.proofs.InOrder.{gone_range}
use Rattle.fs_path.proofs.kept.take_txn.Goals as goal

pub returns : goal.returns
returns c = c.take_range.ensures ∙ gone_range itself c.args.txn c.args.txns.now.items _ _ (rw c.deref.ensures.value at c.range_of_txn-from.ensures.range)
