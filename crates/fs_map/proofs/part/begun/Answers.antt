use Rattle.std.proofs.Common.{rules}
use Rattle.std.proofs.lemmas.List.Sorted.{IsPartitionPoint-from_clause}
use Rattle.fs_map.proofs.Spans.{is_begun, begun_parted, begun_found}
use Rattle.fs_map.proofs.part.begun.Goals as goal

pub returns-clause-inside : goal.returns-clause-inside
returns-clause-inside c =
    let point = IsPartitionPoint-from_clause (is_begun c.args.prefix.now) _ _ c.partition_point.ensures.partitioned (begun_parted c.args.owners.now c.args.prefix.now c.requires.order c.requires.from) (λ a r q k. search rules) in
    (begun_found c.args.owners.now c.args.prefix.now _ c.requires.from point).0

pub returns-clause-later : goal.returns-clause-later
returns-clause-later c =
    let point = IsPartitionPoint-from_clause (is_begun c.args.prefix.now) _ _ c.partition_point.ensures.partitioned (begun_parted c.args.owners.now c.args.prefix.now c.requires.order c.requires.from) (λ a r q k. search rules) in
    (begun_found c.args.owners.now c.args.prefix.now _ c.requires.from point).1
