use Rattle.std.proofs.Common.{rules, ℕ, List, not}
use Rattle.std.proofs.lemmas.List.Sorted.{IsPartitionPoint-from_clause}
use Rattle.fs_ident.specs.declared.actor.TxnNo.{TxnNo}
use Rattle.fs_path.specs.Kept.{txn_of, txn_before}
use Rattle.fs_path.proofs.InOrder.{partitioned, partitioned_behind, range_by, range_rises}
use Rattle.fs_path.proofs.kept.range_of.Goals as goal

pub returns-clause-range : goal.returns-clause-range
returns-clause-range c = range_by txn_of c.args.txn c.args.frozen.now c.partition_point-from.result c.partition_point-behind.result
    (IsPartitionPoint-from_clause (λ (x : List ℕ × TxnNo). txn_before (txn_of x) c.args.txn) c.args.frozen.now c.partition_point-from.result c.partition_point-from.ensures.partitioned (partitioned txn_of c.args.txn c.args.frozen.now c.requires) (λ a r q k. search rules))
    (IsPartitionPoint-from_clause (λ (x : List ℕ × TxnNo). not (txn_before c.args.txn (txn_of x))) c.args.frozen.now c.partition_point-behind.result c.partition_point-behind.ensures.partitioned (partitioned_behind txn_of c.args.txn c.args.frozen.now c.requires) (λ a r q k. search rules))

pub returns-clause-rises : goal.returns-clause-rises
returns-clause-rises c = range_rises txn_of c.args.txn c.args.frozen.now c.partition_point-from.result c.partition_point-behind.result c.partition_point-from.ensures.bound (returns-clause-range c)
