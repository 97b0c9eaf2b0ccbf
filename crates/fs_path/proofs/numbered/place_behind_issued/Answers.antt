use Rattle.std.proofs.Common.{rules, not}
use Rattle.std.proofs.lemmas.List.Sorted.{IsPartitionPoint-from_clause}
use Rattle.fs_path.specs.Index.{no_of_issued}
use Rattle.fs_path.specs.Leases.{PathLease, path_before}
use Rattle.fs_path.proofs.Rising.{partitioned_behind, placed}
use Rattle.fs_path.proofs.numbered.place_behind_issued.Goals as goal

pub returns-clause-place : goal.returns-clause-place
returns-clause-place c = placed no_of_issued c.args.no c.args.issued.now c.partition_point.result c.partition_point.ensures.bound
    (IsPartitionPoint-from_clause (λ (l : PathLease). not (path_before c.args.no l.no)) c.args.issued.now c.partition_point.result c.partition_point.ensures.partitioned (partitioned_behind no_of_issued c.args.no c.args.issued.now c.requires) (λ a r q k. search rules))
