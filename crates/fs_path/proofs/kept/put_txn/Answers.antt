use Rattle.fs_ident.proofs.Put.{put_at}
use Rattle.fs_path.specs.Kept.{txn_before}
use Rattle.fs_path.proofs.kept.put_txn.Goals as goal

pub returns : goal.returns
returns c =
    let there = put_at (λ t. txn_before c.args.txn t) c.args.txn c.args.txns.now.items in
    cc (c.in_ok-insert.ensures.items, c.place_behind_txn-at.ensures.place, c.deref.ensures.value, there)
