use Rattle.std.proofs.Common.{rules, ℕ, sym, ◌∙◌}
use Rattle.std.proofs.lemmas.List.Sorted.{IsPartitionPoint-from_clause}
use Rattle.fs_ident.specs.declared.actor.PathNo.{PathNo}
use Rattle.fs_path.specs.Index.{no_of_named}
use Rattle.fs_path.specs.Leases.{path_before}
use Rattle.fs_path.proofs.Rising.{partitioned, place_found, unplaced, unplaced_at}
use Rattle.fs_path.proofs.index.place_of_name.Goals as goal

pub returns-then-eq : goal.returns-then-eq
returns-then-eq c =
    let place = IsPartitionPoint-from_clause (λ (n : ℕ × PathNo). path_before n.1 c.args.no) c.args.names.now c.partition_point-at.result c.partition_point-at.ensures.partitioned (partitioned no_of_named c.args.no c.args.names.now c.requires) (λ a r q k. search rules) in
    sym (place_found no_of_named c.args.no c.args.names.now c.partition_point-at.result c.in-Some.name.now place c.in-Some.ensures.lookup.0 c.in-Some.ensures.lookup.1 (sym c.eq.ensures ∙ c.if-eq.true))

pub returns-else-eq : goal.returns-else-eq
returns-else-eq c =
    let place = IsPartitionPoint-from_clause (λ (n : ℕ × PathNo). path_before n.1 c.args.no) c.args.names.now c.partition_point-at.result c.partition_point-at.ensures.partitioned (partitioned no_of_named c.args.no c.args.names.now c.requires) (λ a r q k. search rules) in
    sym (unplaced_at no_of_named c.args.no c.args.names.now c.partition_point-at.result c.in-Some.name.now c.requires place c.in-Some.ensures.lookup.0 c.in-Some.ensures.lookup.1 (sym c.eq.ensures ∙ c.if-eq.false))

pub returns-in-None : goal.returns-in-None
returns-in-None c =
    let place = IsPartitionPoint-from_clause (λ (n : ℕ × PathNo). path_before n.1 c.args.no) c.args.names.now c.partition_point-at.result c.partition_point-at.ensures.partitioned (partitioned no_of_named c.args.no c.args.names.now c.requires) (λ a r q k. search rules) in
    sym (unplaced no_of_named c.args.no c.args.names.now c.partition_point-at.result place c.in-None.ensures.lookup.0)
