use Rattle.std.proofs.Common.{rules, not}
use Rattle.std.proofs.lemmas.List.Sorted.{IsPartitionPoint-from_clause}
use Rattle.fs_field.specs.declared.row.Row.{Row}
use Rattle.fs_field.specs.Table.{no_before}
use Rattle.fs_rows.proofs.Seeking.{placed, partitioned_behind}
use Rattle.fs_rows.proofs.seek.place_at.Goals as goal

pub returns-clause-place : goal.returns-clause-place
returns-clause-place c = placed c.args.no c.args.rows.now c.partition_point.result c.partition_point.ensures.bound
    (IsPartitionPoint-from_clause (λ (r : Row). not (no_before c.args.no r.no)) c.args.rows.now c.partition_point.result c.partition_point.ensures.partitioned (partitioned_behind c.args.no c.args.rows.now c.requires) (λ a r q k. search rules))
