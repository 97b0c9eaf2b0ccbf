use Rattle.std.proofs.Common.{rules, not}
use Rattle.std.proofs.lemmas.List.Sorted.{IsPartitionPoint-from_clause}
use Rattle.fs_ident.specs.declared.actor.TxnNo.{TxnNo}
use Rattle.fs_path.specs.Kept.{itself, txn_before}
use Rattle.fs_path.proofs.InOrder.{partitioned, partitioned_behind, range_by, range_rises}
use Rattle.fs_path.proofs.kept.range_of_txn.Goals as goal

pub returns-clause-range : goal.returns-clause-range
returns-clause-range c = range_by itself c.args.txn c.args.txns.now c.partition_point-from.result c.partition_point-behind.result
    (IsPartitionPoint-from_clause (λ (x : TxnNo). txn_before (x) c.args.txn) c.args.txns.now c.partition_point-from.result c.partition_point-from.ensures.partitioned (partitioned itself c.args.txn c.args.txns.now c.requires) (λ a r q k. search rules))
    (IsPartitionPoint-from_clause (λ (x : TxnNo). not (txn_before c.args.txn (x))) c.args.txns.now c.partition_point-behind.result c.partition_point-behind.ensures.partitioned (partitioned_behind itself c.args.txn c.args.txns.now c.requires) (λ a r q k. search rules))

pub returns-clause-rises : goal.returns-clause-rises
returns-clause-rises c = range_rises itself c.args.txn c.args.txns.now c.partition_point-from.result c.partition_point-behind.result c.partition_point-from.ensures.bound (returns-clause-range c)
