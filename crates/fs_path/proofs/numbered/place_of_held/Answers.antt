use Rattle.std.proofs.Common.{rules, ap, sym, ◌∙◌}
use Rattle.std.proofs.lemmas.List.Sorted.{IsPartitionPoint-from_clause}
use Rattle.fs_path.specs.Index.{no_of_held}
use Rattle.fs_path.specs.Tables.{lease_of}
use Rattle.fs_path.specs.declared.having.Having.{Having}
use Rattle.fs_path.specs.Leases.{path_before, same_path_no}
use Rattle.fs_path.proofs.Rising.{partitioned, place_found, unplaced, unplaced_at}
use Rattle.fs_path.proofs.numbered.place_of_held.Goals as goal

pub returns-then-eq : goal.returns-then-eq
returns-then-eq c =
    let place = IsPartitionPoint-from_clause (λ (l : Having). path_before (lease_of l).no c.args.no) c.args.held.now c.partition_point-at.result c.partition_point-at.ensures.partitioned (partitioned no_of_held c.args.no c.args.held.now c.requires) (λ a r q k. search rules) in
    sym (place_found no_of_held c.args.no c.args.held.now c.partition_point-at.result c.in-Some.l.now place c.in-Some.ensures.lookup.0 c.in-Some.ensures.lookup.1 (ap (λ n. same_path_no n c.args.no) (sym c.no.ensures) ∙ sym c.eq.ensures ∙ c.if-eq.true))

pub returns-else-eq : goal.returns-else-eq
returns-else-eq c =
    let place = IsPartitionPoint-from_clause (λ (l : Having). path_before (lease_of l).no c.args.no) c.args.held.now c.partition_point-at.result c.partition_point-at.ensures.partitioned (partitioned no_of_held c.args.no c.args.held.now c.requires) (λ a r q k. search rules) in
    sym (unplaced_at no_of_held c.args.no c.args.held.now c.partition_point-at.result c.in-Some.l.now c.requires place c.in-Some.ensures.lookup.0 c.in-Some.ensures.lookup.1 (ap (λ n. same_path_no n c.args.no) (sym c.no.ensures) ∙ sym c.eq.ensures ∙ c.if-eq.false))

pub returns-in-None : goal.returns-in-None
returns-in-None c =
    let place = IsPartitionPoint-from_clause (λ (l : Having). path_before (lease_of l).no c.args.no) c.args.held.now c.partition_point-at.result c.partition_point-at.ensures.partitioned (partitioned no_of_held c.args.no c.args.held.now c.requires) (λ a r q k. search rules) in
    sym (unplaced no_of_held c.args.no c.args.held.now c.partition_point-at.result place c.in-None.ensures.lookup.0)
