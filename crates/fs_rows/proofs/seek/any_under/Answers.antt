use Rattle.std.proofs.Common.{rules, ◌≡◌, ◌∙◌, List, ap, sym}
use Rattle.std.specs.List.{filter}
use Rattle.fs_ident.specs.Ordered.{Keyed}
use Rattle.fs_ident.specs.declared.actor.LeaseNo.{LeaseNo}
use Rattle.fs_ident.proofs.MapsOf.{map_of_entries}
use Rattle.fs_field.specs.Table.{is_live}
use Rattle.fs_rows.specs.Borne.{any_named}
use Rattle.fs_rows.proofs.seek.any_under.Goals as goal

pub loop-entry-init : goal.loop-entry-init
loop-entry-init c =
    let all : c.into_iter-entry-iterator.result ≡ c.args.named.now.entries = search rules in
    ap (λ (es : Keyed (List LeaseNo)). any_named es (filter (is_live c.args.now c.args.skew) c.args.rows.now)) (all ∙ sym (map_of_entries c.args.named.now c.iter-entry-items.ensures.ordered))
