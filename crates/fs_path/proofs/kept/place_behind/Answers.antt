use Rattle.std.proofs.Common.{rules, ℕ, List, not}
use Rattle.std.proofs.lemmas.List.Sorted.{IsPartitionPoint-from_clause}
use Rattle.fs_ident.specs.declared.actor.TxnNo.{TxnNo}
use Rattle.fs_path.specs.Kept.{txn_of, txn_before}
use Rattle.fs_path.proofs.InOrder.{partitioned_behind}
use Rattle.fs_path.proofs.Rising.{placed_by}
use Rattle.fs_path.proofs.kept.place_behind.Goals as goal

pub returns-clause-place : goal.returns-clause-place
returns-clause-place c = placed_by (λ (x : List ℕ × TxnNo). txn_before c.args.txn (txn_of x)) c.args.frozen.now c.partition_point.result c.partition_point.ensures.bound
    (IsPartitionPoint-from_clause (λ (x : List ℕ × TxnNo). not (txn_before c.args.txn (txn_of x))) c.args.frozen.now c.partition_point.result c.partition_point.ensures.partitioned (partitioned_behind txn_of c.args.txn c.args.frozen.now c.requires) (λ a r q k. search rules))
