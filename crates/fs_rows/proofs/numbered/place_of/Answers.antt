use Rattle.std.proofs.Common.{rules, ap, cond, sym, ◌∙◌}
use Rattle.std.specs.Prelude.{Some, None}
use Rattle.std.proofs.lemmas.List.Sorted.{IsPartitionPoint-from_clause}
use Rattle.fs_field.specs.declared.row.Row.{Row}
use Rattle.fs_field.specs.Table.{has_no, no_before}
use Rattle.fs_rows.proofs.Seeking.{found_at, none_at, partitioned}
use Rattle.fs_rows.proofs.ByNumber.{place_found, no_place}
use Rattle.fs_rows.proofs.numbered.place_of.Goals as goal

pub returns-then-eq : goal.returns-then-eq
returns-then-eq c =
    let place = IsPartitionPoint-from_clause (λ (r : Row). no_before r.no c.args.no) c.args.rows.now c.partition_point-at.result c.partition_point-at.ensures.partitioned (partitioned c.args.no c.args.rows.now c.requires) (λ a r q k. search rules) in
    sym (place_found c.args.no c.args.rows.now c.partition_point-at.result c.in-Some.row.now place c.in-Some.ensures.lookup.0 c.in-Some.ensures.lookup.1 (sym c.eq.ensures ∙ c.if-eq.true))

pub returns-else-eq : goal.returns-else-eq
returns-else-eq c =
    let place = IsPartitionPoint-from_clause (λ (r : Row). no_before r.no c.args.no) c.args.rows.now c.partition_point-at.result c.partition_point-at.ensures.partitioned (partitioned c.args.no c.args.rows.now c.requires) (λ a r q k. search rules) in
    sym (no_place (has_no c.args.no) c.args.rows.now (found_at c.args.no c.args.rows.now c.partition_point-at.result c.in-Some.row.now c.requires place c.in-Some.ensures.lookup.0 c.in-Some.ensures.lookup.1
    ∙ ap (λ b. cond b (Some c.in-Some.row.now) None) (sym c.eq.ensures ∙ c.if-eq.false)))

pub returns-in-None : goal.returns-in-None
returns-in-None c =
    let place = IsPartitionPoint-from_clause (λ (r : Row). no_before r.no c.args.no) c.args.rows.now c.partition_point-at.result c.partition_point-at.ensures.partitioned (partitioned c.args.no c.args.rows.now c.requires) (λ a r q k. search rules) in
    sym (no_place (has_no c.args.no) c.args.rows.now (none_at c.args.no c.args.rows.now c.partition_point-at.result place c.in-None.ensures.lookup.0))
