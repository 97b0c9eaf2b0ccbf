use Rattle.std.proofs.Common.{◌≡◌, ◌++◌, List, ◌∷◌, [], append-nil, length, map, refl, ap, arith, sym, ◌∙◌}
use Rattle.std.specs.Vec.Iter.{into_iter_items}
use Rattle.fs_view.specs.declared.new_lease.NewLease.{NewLease}
use Rattle.fs_view.specs.View.{can_grant_all, kept_new}
use Rattle.fs_view.proofs.Grants.{one_added, one_new}
use Rattle.fs_view.proofs.new_lease.add_all.Goals as goal

nothing_left : (xs : List NewLease) → length xs ≡ 0 → xs ≡ []
nothing_left [] h = refl
nothing_left (x ∷ xs) h = absurd (omega arith)

pub loop-lease-init : goal.loop-lease-init
loop-lease-init c =
    let e : into_iter_items c.into_iter-lease-iterator.result ≡ c.args.new = c.into_iter-lease-iterator.ensures.into_iter_gives.0 ∙ c.into_vec-lease-items.ensures in
    record {
      len = omega (arith, c.into_iter-lease-iterator.ensures.into_iter_gives.1, ap length c.into_iter-lease-iterator.ensures.into_iter_gives.0);
      room = omega (arith, ap length e, c.requires.room);
      spare = omega (arith, ap length e, c.requires.spare);
      adding = record {
        fits = ap (λ xs. can_grant_all xs c.args.leases.now.kept.items) e ∙ c.requires.fits;
        distinct = c.requires.found.distinct;
        added = ap (λ xs. c.args.leases.now.kept.items ++ map kept_new xs) e;
      };
      found = c.requires.found;
    }

pub loop-lease-preserved : goal.loop-lease-preserved
loop-lease-preserved c =
    let steps = c.in-Some.ensures.steps in
    record {
      len = omega (arith, steps.1, ap length steps.0, c.loop-lease.invariant.len);
      room = omega (arith, ap length steps.0, c.loop-lease.invariant.room, c.add_one.ensures.len, c.add_one.ensures.capacity);
      spare = omega (arith, ap length steps.0, c.loop-lease.invariant.spare, c.add_one.ensures.spare);
      adding = one_added c.in-Some.lease _ _ (kept_new c.in-Some.lease) _ _ _ steps.0 refl c.add_one.ensures.added c.loop-lease.invariant.adding;
      found = c.add_one.ensures.found;
    }

pub add_one-requires : goal.add_one-requires
add_one-requires c =
    let steps = c.in-Some.ensures.steps in
    record {
      room = omega (arith, ap length steps.0, c.loop-lease.invariant.room);
      spare = omega (arith, ap length steps.0, c.loop-lease.invariant.spare);
      new = one_new c.in-Some.lease _ _ _ steps.0 c.loop-lease.invariant.adding.fits;
      found = c.loop-lease.invariant.found;
    }

pub returns-clause-added : goal.returns-clause-added
returns-clause-added c =
    let none : into_iter_items c.loop-lease.lease-iterator ≡ [] = nothing_left _ (omega (arith, c.in-None.ensures.steps.0, c.loop-lease.invariant.len)) in
    sym (append-nil c.loop-lease.leases.kept.items) ∙ (ap (λ xs. c.loop-lease.leases.kept.items ++ map kept_new xs) (sym none) ∙ c.loop-lease.invariant.adding.added)
