-- Lists by the places of their items.
use Rattle.std.proofs.Common.{◌≡◌, ◌⊎◌, ℕ, zero, suc, Bool, false, List, [], ◌∷◌, ◌++◌, length, map, refl, sym, ap, ◌∙◌, inl, inr, cond}
use Rattle.std.specs.Prelude.{Some, None, slice_get}
use Rattle.std.specs.List.{find}
use Rattle.fs_ident.specs.In.{In}

-- ## One more behind

pub last_at : {X : Type 0} (xs : List X) (x : X) (n : ℕ) → n ≡ length xs → slice_get (xs ++ x ∷ []) n ≡ Some x
last_at {X = X} xs x n e = ap (slice_get (xs ++ x ∷ [])) e ∙ here xs
  where
    here : (ys : List X) → slice_get (ys ++ x ∷ []) (length ys) ≡ Some x
    here [] = refl
    here (y ∷ ys) = here ys

pub other_at : {X : Type 0} (xs : List X) (x : X) (n : ℕ) → (n ≡ length xs → ⊥) → slice_get (xs ++ x ∷ []) n ≡ slice_get xs n
other_at [] x zero h = absurd (h refl)
other_at [] x (suc n) h = refl
other_at (y ∷ ys) x zero h = refl
other_at (y ∷ ys) x (suc n) h = other_at ys x n (λ e. h (ap suc e))

pub either_at : {X : Type 0} (xs : List X) (x y : X) (n : ℕ) → slice_get (xs ++ x ∷ []) n ≡ Some y
    → (slice_get xs n ≡ Some y) ⊎ ((n ≡ length xs) × (y ≡ x))
either_at [] x y zero h = let same : x ≡ y = cc in inr (refl, sym same)
either_at [] x y (suc n) h = absurd (cc h)
either_at (z ∷ zs) x y zero h = inl h
either_at (z ∷ zs) x y (suc n) h = elim (either_at zs x y n h) as (λ _. (slice_get zs n ≡ Some y) ⊎ ((suc n ≡ length (z ∷ zs)) × (y ≡ x))) [
  | inl e ↦ inl e
  | inr q ↦ inr (ap suc q.0, q.1)
]

pub front_at : {X : Type 0} (xs ys : List X) (n : ℕ) (x : X) → slice_get xs n ≡ Some x → slice_get (xs ++ ys) n ≡ Some x
front_at [] ys n x h = absurd (cc h)
front_at (z ∷ zs) ys zero x h = h
front_at (z ∷ zs) ys (suc n) x h = front_at zs ys n x h

-- ## Of the images

pub map_at : {X Y : Type 0} (f : X → Y) (xs : List X) (n : ℕ) (x : X) → slice_get xs n ≡ Some x → slice_get (map f xs) n ≡ Some (f x)
map_at f [] n x h = absurd (cc h)
map_at f (z ∷ zs) zero x h = let same : z ≡ x = cc in ap (λ w. Some (f w)) same
map_at f (z ∷ zs) (suc n) x h = map_at f zs n x h

pub of_map : {X Y : Type 0} (f : X → Y) (xs : List X) (n : ℕ) (y : Y) → slice_get (map f xs) n ≡ Some y
    → (x : X) × ((slice_get xs n ≡ Some x) × (y ≡ f x))
of_map f [] n y h = absurd (cc h)
of_map f (z ∷ zs) zero y h = let same : f z ≡ y = cc in (z, (refl, sym same))
of_map f (z ∷ zs) (suc n) y h = of_map f zs n y h

-- ## What is not there

pub not_found : {X : Type 0} (test : X → Bool) (xs : List X) → ((x : X) → In x xs → test x ≡ false) → find test xs ≡ None
not_found test [] h = refl
not_found test (x ∷ xs) h = ap (λ b. cond b (Some x) (find test xs)) (h x (inl refl)) ∙ not_found test xs (λ y i. h y (inr i))
