use Rattle.std.proofs.Common.{rules, not}
use Rattle.std.proofs.lemmas.List.Sorted.{IsPartitionPoint-from_clause}
use Rattle.fs_ident.specs.declared.actor.TxnNo.{TxnNo}
use Rattle.fs_path.specs.Kept.{itself, txn_before}
use Rattle.fs_path.proofs.InOrder.{partitioned_behind}
use Rattle.fs_path.proofs.Rising.{placed_by}
use Rattle.fs_path.proofs.kept.place_behind_txn.Goals as goal

pub returns-clause-place : goal.returns-clause-place
returns-clause-place c = placed_by (λ (x : TxnNo). txn_before c.args.txn (x)) c.args.txns.now c.partition_point.result c.partition_point.ensures.bound
    (IsPartitionPoint-from_clause (λ (x : TxnNo). not (txn_before c.args.txn (x))) c.args.txns.now c.partition_point.result c.partition_point.ensures.partitioned (partitioned_behind itself c.args.txn c.args.txns.now c.requires) (λ a r q k. search rules))
