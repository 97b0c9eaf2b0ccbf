-- Steps of a view that can change places.
use Rattle.std.proofs.Common.{◌≡◌, ℕ, ◌-◌, ◌==◌, Bool, true, false, List, [], ◌∷◌, ◌++◌, zero, suc, refl, ap, cond, map, sym, ◌∙◌, append_assoc}
use Rattle.std.specs.Prelude.{None}
use Rattle.std.specs.List.{filter}
use Rattle.std.proofs.lemmas.List.{append-nil}
use Rattle.fs_ident.specs.declared.actor.LeaseNo.{LeaseNo}
use Rattle.fs_ident.specs.declared.actor.Session.{Session}
use Rattle.fs_field.specs.declared.effect.Effect.{Effect}
use Rattle.fs_field.specs.declared.used.Use.{Use}
use Rattle.fs_field.specs.declared.value.Value.{Value}
use Rattle.fs_lease.specs.Lease.{InUse}
use Rattle.fs_view.specs.declared.view_lease.ViewLease.{ViewLease}
use Rattle.fs_view.specs.declared.view_lease.Standing.{Standing}
use Rattle.fs_view.specs.declared.view_lease.Standing.TheVariants.{Held, Pinned, Leaving}
use Rattle.fs_view.specs.declared.new_lease.NewLease.{NewLease}
use Rattle.fs_view.specs.ViewLease.{has_number, unpinned, is_live}
use Rattle.fs_view.specs.View.{View, admitted_front, base_after, first_admitted, is_made_in, knowing, kept_new, lapsed_at, unpinned_all, unpinned_at, with_first_admitted, with_grants, without_pins}
use Rattle.fs_view.proofs.Bases.{kept, viewed}

-- ## Leases lapse before or after entries are admitted

live_known : (now : ℕ) (s : Session) (es : List Effect) (ks : List ViewLease) → filter (is_live now) (map (knowing s es) ks) ≡ map (knowing s es) (filter (is_live now) ks)
live_known now s es [] = refl
live_known now s es (k ∷ ks) = elim (is_live now k) as (λ b. cond b (knowing s es k ∷ filter (is_live now) (map (knowing s es) ks)) (filter (is_live now) (map (knowing s es) ks)) ≡ map (knowing s es) (cond b (k ∷ filter (is_live now) ks) (filter (is_live now) ks))) [
  | true ↦ ap (λ rest. knowing s es k ∷ rest) (live_known now s es ks)
  | false ↦ live_known now s es ks
]

lapse_first : (now : ℕ) (s : Session) (ks : List ViewLease) (log : List (List Effect)) → lapsed_at now (first_admitted log (viewed s ks log)) ≡ first_admitted log (viewed s (filter (is_live now) ks) log)
lapse_first now s ks [] = refl
lapse_first now s ks (es ∷ log) = ap (λ xs. viewed s xs log) (live_known now s es ks)

pub lapse_before_front : (now n : ℕ) (v : View) → lapsed_at now (admitted_front n v) ≡ admitted_front n (lapsed_at now v)
lapse_before_front now zero v = refl
lapse_before_front now (suc n) v = lapse_before_front now n (with_first_admitted v) ∙ ap (admitted_front n) (lapse_first now v.session v.leases v.pending)

-- ## Leases are unpinned before or after entries are admitted

free_base : (s : Session) (es : List Effect) (base : Value) (b : Bool) (u : InUse) → base_after s es (cond b (Held u.lease) (Pinned (record u { entries = u.entries - 1 }))) base ≡ base_after s es (Pinned u) base
free_base s es base true u = refl
free_base s es base false u = refl

same_base : (s : Session) (es : List Effect) (base : Value) (st : Standing) → base_after s es (unpinned st) base ≡ base_after s es st base
same_base s es base (Held l) = refl
same_base s es base (Pinned u) = free_base s es base (u.entries == 1) u
same_base s es base (Leaving l) = refl

free_made : (es : List Effect) (b : Bool) (u : InUse) → is_made_in es (cond b (Held u.lease) (Pinned (record u { entries = u.entries - 1 }))) ≡ is_made_in es (Pinned u)
free_made es true u = refl
free_made es false u = refl

same_made : (es : List Effect) (st : Standing) → is_made_in es (unpinned st) ≡ is_made_in es st
same_made es (Held l) = refl
same_made es (Pinned u) = free_made es (u.entries == 1) u
same_made es (Leaving l) = refl

known_free : (s : Session) (es : List Effect) (b : Bool) (k : ViewLease) → knowing s es (cond b (record k { standing = unpinned k.standing }) k) ≡ cond b (record (knowing s es k) { standing = unpinned k.standing }) (knowing s es k)
known_free s es true k =
    ap (λ (v : Value). kept (unpinned k.standing) v k.recalled (cond (is_made_in es (unpinned k.standing)) None k.below)) (same_base s es k.base k.standing)
    ∙ ap (λ (b : Bool). kept (unpinned k.standing) (base_after s es k.standing k.base) k.recalled (cond b None k.below)) (same_made es k.standing)
known_free s es false k = refl

known_at : (s : Session) (es : List Effect) (number : LeaseNo) (ks : List ViewLease) → map (knowing s es) (unpinned_at number ks) ≡ unpinned_at number (map (knowing s es) ks)
known_at s es number [] = refl
known_at s es number (k ∷ ks) = ap (λ (x : ViewLease). x ∷ map (knowing s es) (unpinned_at number ks)) (known_free s es (has_number number k) k) ∙ ap (λ rest. cond (has_number number k) (record (knowing s es k) { standing = unpinned k.standing }) (knowing s es k) ∷ rest) (known_at s es number ks)

known_all : (s : Session) (es : List Effect) (uses : List Use) (ks : List ViewLease) → map (knowing s es) (unpinned_all uses ks) ≡ unpinned_all uses (map (knowing s es) ks)
known_all s es [] ks = refl
known_all s es (u ∷ us) ks = known_all s es us (unpinned_at u.no ks) ∙ ap (unpinned_all us) (known_at s es u.no ks)

free_first : (uses : List Use) (s : Session) (ks : List ViewLease) (log : List (List Effect)) → first_admitted log (viewed s (unpinned_all uses ks) log) ≡ without_pins uses (first_admitted log (viewed s ks log))
free_first uses s ks [] = refl
free_first uses s ks (es ∷ log) = ap (λ xs. viewed s xs log) (known_all s es uses ks)

pub unpin_after_front : (n : ℕ) (uses : List Use) (v : View) → admitted_front n (without_pins uses v) ≡ without_pins uses (admitted_front n v)
unpin_after_front zero uses v = refl
unpin_after_front (suc n) uses v = ap (admitted_front n) (free_first uses v.session v.leases v.pending) ∙ unpin_after_front n uses (with_first_admitted v)

-- ## Leases that are granted stand behind the others

pub grants_are : (ls : List NewLease) (v : View) → with_grants ls v ≡ record v { leases = v.leases ++ map kept_new ls }
grants_are [] v = ap (λ xs. viewed v.session xs v.pending) (sym (append-nil v.leases))
grants_are (l ∷ ls) v = grants_are ls (viewed v.session (v.leases ++ kept_new l ∷ []) v.pending) ∙ ap (λ xs. viewed v.session xs v.pending) (append_assoc v.leases (kept_new l ∷ []) (map kept_new ls))
