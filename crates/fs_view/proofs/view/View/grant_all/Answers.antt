use Rattle.std.proofs.Common.{◌≡◌, List, ◌++◌, not, map, sym, ap, ◌∙◌}
use Rattle.std.specs.List.{filter}
use Rattle.fs_view.specs.declared.view_lease.ViewLease.{ViewLease}
use Rattle.fs_view.specs.View.{View, kept_new, lapsed_at, with_grants}
use Rattle.fs_view.specs.ViewLease.{has_ended}
use Rattle.fs_view.proofs.Order.{grants_are}
use Rattle.fs_view.proofs.view.View.grant_all.Goals as goal

pub returns-clause-ok : goal.returns-clause-ok
returns-clause-ok c =
    let live : c.lapse.new.leases.kept.items ≡ filter (λ k. not (has_ended c.args.now k.standing)) c.self.inside.leases.kept.items = c.lapse.ensures.live ∙ ap (filter (λ k. not (has_ended c.args.now k.standing))) c.reserve.ensures.same in
    let put = λ (xs : List ViewLease). let v : View = record { session = c.self.inside.session; leases = xs; pending = c.self.inside.pending } in v in
    ap put (c.add_all.ensures.added ∙ ap (λ xs. xs ++ map kept_new c.args.leases) live)
    ∙ (sym (grants_are c.args.leases (put (filter (λ k. not (has_ended c.args.now k.standing)) c.self.inside.leases.kept.items))) ∙ ap (λ v. with_grants c.args.leases (lapsed_at c.args.now v)) c.self.view_is)
