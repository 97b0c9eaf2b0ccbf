use Rattle.std.proofs.Common.{rules, List, ℕ, Bool, ◌≡◌, ◌&&◌, ◌∷◌, ◌++◌, [], ap, sym, ◌∙◌}
use Rattle.std.proofs.lemmas.List.{append_assoc}
use Rattle.std.specs.List.{find}
use Rattle.fs_ident.specs.declared.actor.LeaseNo.{LeaseNo}
use Rattle.fs_field.specs.declared.row.Row.{Row}
use Rattle.fs_field.specs.Table.{is_live}
use Rattle.fs_rows.specs.Index.{has_number}
use Rattle.fs_rows.specs.Sought.{passes}
use Rattle.fs_rows.proofs.Children.{none_named, named_step}
use Rattle.fs_rows.proofs.seek.least_named.Goals as goal

pub loop-entry-init : goal.loop-entry-init
loop-entry-init c =
    let all : c.into_iter-entry-iterator.result ≡ c.args.named.now.entries = search rules in
    ([], (all, none_named (λ r. is_live c.args.now c.args.skew r && passes c.args.sought.now r) c.args.rows.now))

pub loop-entry-preserved : goal.loop-entry-preserved
loop-entry-preserved c =
    let test : Row → Bool = λ r. is_live c.args.now c.args.skew r && passes c.args.sought.now r in
    let entry : List ℕ × List LeaseNo = (c.in-Some.entry.0.now, c.in-Some.entry.1.now) in
    let next : c.loop-entry.entry-iterator ≡ entry ∷ c.next.new.self = search rules in
    let so_far = c.loop-entry.invariant in (
      so_far.0 ++ entry ∷ [],
      (
        append_assoc so_far.0 (entry ∷ []) c.next.new.self ∙ ap (λ es. so_far.0 ++ es) (sym next) ∙ so_far.1.0,
        c.lesser-least.ensures ∙ named_step test c.args.rows.now so_far.0 entry _ _ c.requires so_far.1.1 (c.least_among.ensures ∙ ap (λ ns. find (λ r. has_number r.no ns && test r) c.args.rows.now) c.as_slice.ensures),
      ),
    )
