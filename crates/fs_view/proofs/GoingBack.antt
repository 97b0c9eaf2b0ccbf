-- A lease that no entry uses goes back, and is given up then.
use Rattle.std.proofs.Common.{◌≡◌, Bool, true, false, not, List, [], ◌∷◌, refl, ap, cond, sym, ◌∙◌}
use Rattle.std.specs.Prelude.{Option, Some, None, option_map}
use Rattle.std.specs.Option.{option_map_or}
use Rattle.std.specs.List.{filter, find}
use Rattle.fs_ident.specs.declared.actor.LeaseNo.{LeaseNo}
use Rattle.fs_field.specs.Table.{same_no}
use Rattle.fs_view.specs.declared.view_lease.ViewLease.{ViewLease}
use Rattle.fs_view.specs.declared.view_lease.Standing.{Standing}
use Rattle.fs_view.specs.declared.view_lease.Standing.TheVariants.{Held, Pinned, Leaving}
use Rattle.fs_view.specs.ViewLease.{has_number, is_held, is_leaving, leaving}
use Rattle.fs_view.specs.View.{View, at_number, given_up, stands, with_leaving, without_lease}
use Rattle.fs_view.proofs.Changed.{leaving_number}

abbrev left : ViewLease → ViewLease
left k = record k { standing = leaving k.standing }

numbered : (n : LeaseNo) (k : ViewLease) → has_number n (left k) ≡ has_number n k
numbered n k = ap (λ m. same_no m n) (leaving_number k.standing)

found_left : (n : LeaseNo) (ks : List ViewLease) → find (has_number n) (at_number n left ks) ≡ option_map left (find (has_number n) ks)
found_left n [] = refl
found_left n (k ∷ ks) =
    elim (has_number n k) as (λ b. has_number n k ≡ b → find (has_number n) (cond b (left k) k ∷ at_number n left ks) ≡ option_map left (cond b (Some k) (find (has_number n) ks))) [
      | true ↦ λ e. ap (λ b. cond b (Some (left k)) (find (has_number n) (at_number n left ks))) (numbered n k ∙ e)
      | false ↦ λ e. ap (λ b. cond b (Some k) (find (has_number n) (at_number n left ks))) e ∙ found_left n ks
    ] refl

held_goes : (s : Standing) → is_held s ≡ true → is_leaving (leaving s) ≡ true
held_goes (Held l) h = refl
held_goes (Pinned u) h = absurd (cc h)
held_goes (Leaving l) h = refl

one_goes : (o : Option ViewLease) → option_map_or (λ (k : ViewLease). is_held k.standing) o false ≡ true → option_map_or (λ (k : ViewLease). is_leaving k.standing) (option_map left o) false ≡ true
one_goes None h = absurd (cc h)
one_goes (Some k) h = held_goes k.standing h

-- a held lease goes back once it is to
then_leaving : (n : LeaseNo) (ks : List ViewLease) → stands is_held n ks ≡ true → stands is_leaving n (at_number n left ks) ≡ true
then_leaving n ks h = ap (λ (o : Option ViewLease). option_map_or (λ (k : ViewLease). is_leaving k.standing) o false) (found_left n ks) ∙ one_goes (find (has_number n) ks) h

-- without it the leases are those that they were without it before
then_gone : (n : LeaseNo) (ks : List ViewLease) → filter (λ k. not (has_number n k)) (at_number n left ks) ≡ filter (λ k. not (has_number n k)) ks
then_gone n [] = refl
then_gone n (k ∷ ks) =
    let others : List ViewLease → List ViewLease = filter (λ j. not (has_number n j)) in
    elim (has_number n k) as (λ b. has_number n k ≡ b → others (cond b (left k) k ∷ at_number n left ks) ≡ cond (not b) (k ∷ others ks) (others ks)) [
      | true ↦ λ e. ap (λ b. cond (not b) (left k ∷ others (at_number n left ks)) (others (at_number n left ks))) (numbered n k ∙ e) ∙ then_gone n ks
      | false ↦ λ e. ap (λ b. cond (not b) (k ∷ others (at_number n left ks)) (others (at_number n left ks))) e ∙ ap (λ rest. k ∷ rest) (then_gone n ks)
    ] refl

-- ## Of a view

pub view_leaving : (n : LeaseNo) (v : View) → stands is_held n v.leases ≡ true → stands is_leaving n (with_leaving n v).leases ≡ true
view_leaving n v h = then_leaving n v.leases h

pub view_gone : (n : LeaseNo) (v : View) → stands is_held n v.leases ≡ true → without_lease n (with_leaving n v) ≡ given_up n v
view_gone n v h = ap (λ ks. let w : View = record v { leases = ks } in w) (then_gone n v.leases) ∙ sym (ap (λ b. cond b (without_lease n v) v) h)
