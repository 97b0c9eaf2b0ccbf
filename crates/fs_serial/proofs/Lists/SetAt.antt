-- Lists in which one item is replaced, and lists without the first of a kind.
use Rattle.std.proofs.Common.{◌≡◌, ◌⊎◌, ℕ, zero, suc, Bool, true, false, List, [], ◌∷◌, refl, ap, ◌∙◌, inl, inr, cond}
use Rattle.std.specs.Prelude.{Some, slice_get, slice_set}
use Rattle.std.specs.List.{find}
use Rattle.fs_ident.specs.In.{In}
use Rattle.fs_serial.specs.Cluster.{without_first}

-- ## By place

pub set_twice : {X : Type 0} (xs : List X) (k : ℕ) (x y : X) → slice_set (slice_set xs k x) k y ≡ slice_set xs k y
set_twice [] k x y = refl
set_twice (z ∷ zs) zero x y = refl
set_twice (z ∷ zs) (suc k) x y = ap (λ ws. z ∷ ws) (set_twice zs k x y)

pub set_same : {X : Type 0} (xs : List X) (k : ℕ) (x : X) → slice_get xs k ≡ Some x → slice_set xs k x ≡ xs
set_same [] k x h = refl
set_same (z ∷ zs) zero x h = let e : x ≡ z = cc in ap (λ w. w ∷ zs) e
set_same (z ∷ zs) (suc k) x h = ap (λ ws. z ∷ ws) (set_same zs k x h)

pub get_here : {X : Type 0} (xs : List X) (k : ℕ) (x y : X) → slice_get xs k ≡ Some x → slice_get (slice_set xs k y) k ≡ Some y
get_here [] k x y h = absurd (cc)
get_here (z ∷ zs) zero x y h = refl
get_here (z ∷ zs) (suc k) x y h = get_here zs k x y h

pub get_other : {X : Type 0} (xs : List X) (k j : ℕ) (y : X) → (k ≡ j → ⊥) → slice_get (slice_set xs k y) j ≡ slice_get xs j
get_other [] k j y n = refl
get_other (z ∷ zs) zero zero y n = absurd (n refl)
get_other (z ∷ zs) zero (suc j) y n = refl
get_other (z ∷ zs) (suc k) zero y n = refl
get_other (z ∷ zs) (suc k) (suc j) y n = get_other zs k j y (λ e. n (ap suc e))

-- what stands at a place then is the new one at its place, or stood there
pub get_set : {X : Type 0} (xs : List X) (k j : ℕ) (y x : X) → slice_get (slice_set xs k y) j ≡ Some x → ((k ≡ j) × (x ≡ y)) ⊎ (slice_get xs j ≡ Some x)
get_set [] k j y x h = inr h
get_set (z ∷ zs) zero zero y x h = let e : x ≡ y = cc in inl (refl, e)
get_set (z ∷ zs) zero (suc j) y x h = inr h
get_set (z ∷ zs) (suc k) zero y x h = inr h
get_set (z ∷ zs) (suc k) (suc j) y x h = elim (get_set zs k j y x h) as (λ _. ((suc k ≡ suc j) × (x ≡ y)) ⊎ (slice_get zs j ≡ Some x)) [
  | inl q ↦ inl (ap suc q.0, q.1)
  | inr i ↦ inr i
]

-- ## By what is in it

pub In_set : {X : Type 0} (xs : List X) (k : ℕ) (y z : X) → In z (slice_set xs k y) → (z ≡ y) ⊎ In z xs
In_set [] k y z i = absurd i
In_set (x ∷ xs) zero y z (inl e) = inl e
In_set (x ∷ xs) zero y z (inr i) = inr (inr i)
In_set (x ∷ xs) (suc k) y z (inl e) = inr (inl e)
In_set (x ∷ xs) (suc k) y z (inr i) = elim (In_set xs k y z i) as (λ _. (z ≡ y) ⊎ In z (x ∷ xs)) [ inl e ↦ inl e | inr j ↦ inr (inr j) ]

-- what was in it still is, but the one that was replaced
pub In_kept : {X : Type 0} (xs : List X) (k : ℕ) (x y z : X) → slice_get xs k ≡ Some x → In z xs → (z ≡ x) ⊎ In z (slice_set xs k y)
In_kept [] k x y z h i = absurd i
In_kept (w ∷ ws) zero x y z h (inl e) = let same : z ≡ x = cc in inl same
In_kept (w ∷ ws) zero x y z h (inr i) = inr (inr i)
In_kept (w ∷ ws) (suc k) x y z h (inl e) = inr (inl e)
In_kept (w ∷ ws) (suc k) x y z h (inr i) = elim (In_kept ws k x y z h i) as (λ _. (z ≡ x) ⊎ In z (w ∷ slice_set ws k y)) [ inl e ↦ inl e | inr j ↦ inr (inr j) ]

pub In_new : {X : Type 0} (xs : List X) (k : ℕ) (x y : X) → slice_get xs k ≡ Some x → In y (slice_set xs k y)
In_new [] k x y h = absurd (cc)
In_new (w ∷ ws) zero x y h = inl refl
In_new (w ∷ ws) (suc k) x y h = inr (In_new ws k x y h)

-- ## Without the first of a kind

pub In_without : {X : Type 0} (is : X → Bool) (xs : List X) (z : X) → In z (without_first is xs) → In z xs
In_without is [] z i = absurd i
In_without is (x ∷ xs) z i = elim (is x) as (λ b. In z (cond b xs (x ∷ without_first is xs)) → In z (x ∷ xs)) [
  | true ↦ λ j. inr j
  | false ↦ λ j. elim j as (λ _. In z (x ∷ xs)) [ inl e ↦ inl e | inr l ↦ inr (In_without is xs z l) ]
] i

pub In_either : {X : Type 0} (is : X → Bool) (xs : List X) (x z : X) → find is xs ≡ Some x → In z xs → (z ≡ x) ⊎ In z (without_first is xs)
In_either is [] x z h i = absurd i
In_either is (w ∷ ws) x z h i = elim (is w) as (λ b. cond b (Some w) (find is ws) ≡ Some x → (z ≡ x) ⊎ In z (cond b ws (w ∷ without_first is ws))) [
  | true ↦ λ g. let same : w ≡ x = cc in elim i as (λ _. (z ≡ x) ⊎ In z ws) [ inl e ↦ inl (e ∙ same) | inr j ↦ inr j ]
  | false ↦ λ g. elim i as (λ _. (z ≡ x) ⊎ In z (w ∷ without_first is ws)) [
    | inl e ↦ inr (inl e)
    | inr j ↦ elim (In_either is ws x z g j) as (λ _. (z ≡ x) ⊎ In z (w ∷ without_first is ws)) [ inl e ↦ inl e | inr l ↦ inr (inr l) ]
  ]
] h
