use Rattle.fs_path.specs.Kept.{but_txn}
use Rattle.fs_path.proofs.ByFile.{emptied_at}
use Rattle.fs_path.proofs.kept.forget_at.Goals as goal

pub returns-then-thin : goal.returns-then-thin
returns-then-thin c = emptied_at (but_txn c.args.txn) _ _ _ c.args.file.now c.thin.ensures.changed (c.thin.ensures.empty c.if-thin.true) c.take_file.ensures
