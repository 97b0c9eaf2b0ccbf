use Rattle.std.proofs.Common.{ℕ, List, ◌∙◌, ap, subst, sym}
use Rattle.std.specs.Prelude.{slice_range}
use Rattle.fs_ident.specs.Ordered.{are_keys_in_order}
use Rattle.fs_map.specs.Part.{IsPartOf}
use Rattle.fs_map.specs.Map.{IsMap}
use Rattle.fs_map.proofs.Owned.{taken_map}
use Rattle.fs_map.proofs.Spans.{span_part, readied}
use Rattle.fs_map.proofs.taking.begin.Goals as goal

pub new_part-requires-clause-part : goal.new_part-requires-clause-part
new_part-requires-clause-part c =
    subst (λ (p : List ℕ). IsPartOf p (slice_range c.as_slice-all.result.now c.span-start.result.0 c.span-start.result.1) c.as_slice-all.result.now) c.numbers.ensures.same
    (span_part c.as_slice-all.result.now c.numbers.result.now c.span-start.result.0 c.span-start.result.1 (ap are_keys_in_order c.as_slice-all.ensures ∙ c.requires.map.ordered) c.span-start.ensures)

pub returns-clause-after : goal.returns-clause-after
returns-clause-after c =
    readied c.args.owners.now c.args.to c.args.piece.now.prefix c.args.piece.now.given c.requires.map c.requires.piece c.as_slice-all.result.now c.as_slice-all.ensures c.numbers.result.now c.numbers.ensures.same
    c.span-start.result.0 c.span-start.result.1 c.span-start.ensures c.put_behind.new.owners.items c.items_mut.result.now.items c.into_vec.result.items c.in_ok-put_behind.ensures.ok c.items_mut.ensures.value (c.into_vec.ensures ∙ c.in_ok-part.ensures)

pub returns-clause-valid : goal.returns-clause-valid
returns-clause-valid c = subst IsMap (sym (returns-clause-after c)) (taken_map c.args.owners.now c.args.to c.args.piece.now.prefix c.args.piece.now.given c.requires.piece).0
