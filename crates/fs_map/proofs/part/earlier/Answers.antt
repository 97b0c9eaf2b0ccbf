use Rattle.std.proofs.Common.{rules}
use Rattle.std.proofs.lemmas.List.Sorted.{IsPartitionPoint-from_clause}
use Rattle.fs_map.proofs.Spans.{is_earlier, earlier_parted, earlier_found}
use Rattle.fs_map.proofs.part.earlier.Goals as goal

pub returns-clause-earlier : goal.returns-clause-earlier
returns-clause-earlier c =
    let point = IsPartitionPoint-from_clause (is_earlier c.args.prefix.now) _ _ c.partition_point.ensures.partitioned (earlier_parted c.args.owners.now c.args.prefix.now c.requires) (λ a r q k. search rules) in
    (earlier_found c.args.owners.now c.args.prefix.now _ point).0

pub returns-clause-rest : goal.returns-clause-rest
returns-clause-rest c =
    let point = IsPartitionPoint-from_clause (is_earlier c.args.prefix.now) _ _ c.partition_point.ensures.partitioned (earlier_parted c.args.owners.now c.args.prefix.now c.requires) (λ a r q k. search rules) in
    (earlier_found c.args.owners.now c.args.prefix.now _ point).1
