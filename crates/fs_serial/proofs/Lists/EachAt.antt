-- What each item of a list gives, one after another, where one item is replaced.
use Rattle.std.proofs.Common.{◌≡◌, ◌+◌, ◌≤◌, ℕ, zero, suc, List, [], ◌∷◌, ◌++◌, length, refl, sym, ap, ◌∙◌, append-nil}
use Rattle.std.proofs.Common.{length-append, inl, inr, arith}
use Rattle.std.specs.Prelude.{Some, slice_get, slice_set}
use Rattle.std.specs.List.{flat_map}
use Rattle.fs_ident.specs.In.{In}

pub none_long : {X : Type 0} (xs : List X) → length xs ≤ 0 → xs ≡ []
none_long [] h = refl
none_long (x ∷ xs) h = absurd (omega (arith, h))

pub nothing_of : {X : Type 0} (xs ys : List X) → xs ++ ys ≡ [] → (xs ≡ []) × (ys ≡ [])
nothing_of [] ys e = (refl, e)
nothing_of (x ∷ xs) ys e = absurd (cc)

-- the new one gives what the old one gave
pub each_same : {X Y : Type 0} (f : X → List Y) (xs : List X) (k : ℕ) (x y : X) → slice_get xs k ≡ Some x → f y ≡ f x
    → flat_map f (slice_set xs k y) ≡ flat_map f xs
each_same f [] k x y h e = absurd (cc h)
each_same f (z ∷ zs) zero x y h e = let same : z ≡ x = cc in ap (λ ys. ys ++ flat_map f zs) (e ∙ ap f (sym same))
each_same f (z ∷ zs) (suc k) x y h e = ap (λ ys. f z ++ ys) (each_same f zs k x y h e)

-- no shorter than what one gives
pub one_of_all : {X Y : Type 0} (f : X → List Y) (xs : List X) (k : ℕ) (x : X) → slice_get xs k ≡ Some x
    → length (f x) ≤ length (flat_map f xs)
one_of_all f [] k x h = absurd (cc h)
one_of_all f (z ∷ zs) zero x h =
    let same : z ≡ x = cc in
    let equal : length (f z) ≡ length (f x) = ap (λ w. length (f w)) same in
    let all : length (f z ++ flat_map f zs) ≡ length (f z) + length (flat_map f zs) = length-append (f z) (flat_map f zs) in
    omega (arith, equal, all)
one_of_all f (z ∷ zs) (suc k) x h =
    let rest : length (f x) ≤ length (flat_map f zs) = one_of_all f zs k x h in
    let all : length (f z ++ flat_map f zs) ≡ length (f z) + length (flat_map f zs) = length-append (f z) (flat_map f zs) in
    omega (arith, rest, all)

-- the others give nothing
pub each_alone : {X Y : Type 0} (f : X → List Y) (xs : List X) (k : ℕ) (x y : X) → slice_get xs k ≡ Some x
    → length (flat_map f xs) ≤ length (f x) → flat_map f (slice_set xs k y) ≡ f y
each_alone f [] k x y h few = absurd (cc h)
each_alone f (z ∷ zs) zero x y h few =
    let same : z ≡ x = cc in
    let equal : length (f z) ≡ length (f x) = ap (λ w. length (f w)) same in
    let all : length (f z ++ flat_map f zs) ≡ length (f z) + length (flat_map f zs) = length-append (f z) (flat_map f zs) in
    let none : flat_map f zs ≡ [] = none_long (flat_map f zs) (omega (arith, equal, all, few)) in
    ap (λ ys. f y ++ ys) none ∙ append-nil (f y)
each_alone f (z ∷ zs) (suc k) x y h few =
    let one : length (f x) ≤ length (flat_map f zs) = one_of_all f zs k x h in
    let all : length (f z ++ flat_map f zs) ≡ length (f z) + length (flat_map f zs) = length-append (f z) (flat_map f zs) in
    let none : f z ≡ [] = none_long (f z) (omega (arith, one, all, few)) in
    ap (λ ys. ys ++ flat_map f (slice_set zs k y)) none ∙ each_alone f zs k x y h (omega (arith, one, all, few))

-- where none is given, one gives none
pub each_none : {X Y : Type 0} (f : X → List Y) (xs : List X) (k : ℕ) (x : X) → slice_get xs k ≡ Some x → flat_map f xs ≡ [] → f x ≡ []
each_none f xs k x h none =
    let few : length (f x) ≤ length (flat_map f xs) = one_of_all f xs k x h in
    let zero_long : length (flat_map f xs) ≡ 0 = ap length none in
    none_long (f x) (omega (arith, few, zero_long))

-- where each gives none
pub none_each : {X Y : Type 0} (f : X → List Y) (xs : List X) → ((x : X) → In x xs → f x ≡ []) → flat_map f xs ≡ []
none_each f [] h = refl
none_each f (x ∷ xs) h = ap (λ ys. ys ++ flat_map f xs) (h x (inl refl)) ∙ none_each f xs (λ y i. h y (inr i))
