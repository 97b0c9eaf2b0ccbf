use Rattle.std.proofs.Common.{rules, not}
use Rattle.std.proofs.lemmas.List.Sorted.{IsPartitionPoint-from_clause}
use Rattle.fs_path.specs.Index.{no_of_held}
use Rattle.fs_path.specs.Tables.{lease_of}
use Rattle.fs_path.specs.declared.having.Having.{Having}
use Rattle.fs_path.specs.Leases.{path_before}
use Rattle.fs_path.proofs.Rising.{partitioned_behind, placed}
use Rattle.fs_path.proofs.numbered.place_behind_held.Goals as goal

pub returns-clause-place : goal.returns-clause-place
returns-clause-place c = placed no_of_held c.args.no c.args.held.now c.partition_point.result c.partition_point.ensures.bound
    (IsPartitionPoint-from_clause (λ (l : Having). not (path_before c.args.no (lease_of l).no)) c.args.held.now c.partition_point.result c.partition_point.ensures.partitioned (partitioned_behind no_of_held c.args.no c.args.held.now c.requires) (λ a r q k. search rules))
