use Rattle.std.proofs.Common.{rules, ℕ, not}
use Rattle.std.proofs.lemmas.List.Sorted.{IsPartitionPoint-from_clause}
use Rattle.fs_ident.specs.declared.actor.PathNo.{PathNo}
use Rattle.fs_path.specs.Index.{no_of_named}
use Rattle.fs_path.specs.Leases.{path_before}
use Rattle.fs_path.proofs.Rising.{partitioned_behind, placed}
use Rattle.fs_path.proofs.index.place_behind.Goals as goal

pub returns-clause-place : goal.returns-clause-place
returns-clause-place c = placed no_of_named c.args.no c.args.names.now c.partition_point.result c.partition_point.ensures.bound
    (IsPartitionPoint-from_clause (λ (n : ℕ × PathNo). not (path_before c.args.no n.1)) c.args.names.now c.partition_point.result c.partition_point.ensures.partitioned (partitioned_behind no_of_named c.args.no c.args.names.now c.requires) (λ a r q k. search rules))
