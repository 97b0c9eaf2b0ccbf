use Rattle.std.proofs.Common.{map, take}
use Rattle.fs_path.specs.Kept.{file_of}
use Rattle.fs_path.proofs.Frozen.{forgets_more, forgets_ordered}
use Rattle.fs_path.proofs.kept.forget_each.Goals as goal

pub forget_at-requires : goal.forget_at-requires
forget_at-requires c = forgets_ordered c.args.txn (take c.loop-kept.kept-index (map file_of c.args.frozen.now)) c.args.by_file.now c.loop-kept.by_file c.requires c.loop-kept.invariant c.kept-item.result.0

pub loop-kept-preserved : goal.loop-kept-preserved
loop-kept-preserved c = forgets_more c.args.txn c.args.frozen.now c.loop-kept.kept-index c.kept-item.result c.args.by_file.now c.loop-kept.by_file c.forget_at.new.by_file c.loop-kept-test.true c.kept-item.is c.loop-kept.invariant c.forget_at.ensures
