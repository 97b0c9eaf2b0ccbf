use Rattle.std.proofs.Common.{rules, ◌≡◌, ◌∙◌, ap}
use Rattle.std.specs.Ordering.{nat_cmp}
use Rattle.fs_ident.specs.Maps.{numbered_map_of}
use Rattle.fs_ident.proofs.CopiedMaps.{with_all}
use Rattle.fs_ident.proofs.NumberedMaps.{numbered_all, numbered_empty}
use Rattle.fs_world.proofs.by_session.copy_all.Goals as goal

pub loop-entry-init : goal.loop-entry-init
loop-entry-init g c =
    let all : c.into_iter-entry-iterator.result ≡ c.args.values.now.entries = search rules in
    ap (λ es. with_all nat_cmp es (numbered_map_of c.new-twin.result)) all
    ∙ ap (with_all nat_cmp c.args.values.now.entries) (numbered_empty c.new-twin.result c.new-twin.ensures.empty)
    ∙ numbered_all c.args.values.now c.iter-entry-items.ensures.ordered
