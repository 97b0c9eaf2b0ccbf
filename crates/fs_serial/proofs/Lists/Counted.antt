-- Sums over lists, and how many items pass a test.
use Rattle.std.proofs.Common.{◌≡◌, ◌+◌, ◌≤◌, ℕ, zero, suc, Bool, true, false, List, [], ◌∷◌, ◌++◌, refl, ap, sym, ◌∙◌, inl, inr, cond, length, arith}
use Rattle.std.specs.Prelude.{Some, slice_get, slice_set, ◌||◌}
use Rattle.std.specs.List.{filter, find, list_any}
use Rattle.fs_ident.specs.In.{In}
use Rattle.fs_ident.specs.Ordered.{put_before}
use Rattle.fs_serial.specs.Cluster.{without_first}

abbrev pub total : {X : Type 0} → (X → ℕ) → List X → ℕ
total f [] = 0
total f (x ∷ xs) = f x + total f xs

pub total_append : {X : Type 0} (f : X → ℕ) (xs ys : List X) → total f (xs ++ ys) ≡ total f xs + total f ys
total_append f [] ys = omega arith
total_append f (x ∷ xs) ys = let e = total_append f xs ys in omega arith

-- with one item replaced
pub total_set : {X : Type 0} (f : X → ℕ) (xs : List X) (k : ℕ) (x y : X) → slice_get xs k ≡ Some x → total f (slice_set xs k y) + f x ≡ total f xs + f y
total_set f [] k x y h = absurd (cc)
total_set f (z ∷ zs) zero x y h = let same : z ≡ x = cc in let e : f z ≡ f x = ap f same in omega arith
total_set f (z ∷ zs) (suc k) x y h = let e = total_set f zs k x y h in omega arith

-- with one put in
pub total_put : {X : Type 0} (f : X → ℕ) (test : X → Bool) (x : X) (xs : List X) → total f (put_before test x xs) ≡ f x + total f xs
total_put f test x [] = refl
total_put f test x (y ∷ ys) = elim (test y) as (λ b. total f (cond b (x ∷ y ∷ ys) (y ∷ put_before test x ys)) ≡ f x + (f y + total f ys)) [
  | true ↦ refl
  | false ↦ let e = total_put f test x ys in omega arith
]

-- and with one taken out
pub total_without : {X : Type 0} (f : X → ℕ) (is : X → Bool) (xs : List X) (x : X) → find is xs ≡ Some x → total f xs ≡ f x + total f (without_first is xs)
total_without f is [] x h = absurd (cc)
total_without f is (y ∷ ys) x h = elim (is y) as (λ b. cond b (Some y) (find is ys) ≡ Some x → f y + total f ys ≡ f x + total f (cond b ys (y ∷ without_first is ys))) [
  | true ↦ λ g. let same : y ≡ x = cc in let e : f y ≡ f x = ap f same in omega arith
  | false ↦ λ g. let e = total_without f is ys x g in omega arith
] h

pub at_least : {X : Type 0} (f : X → ℕ) (xs : List X) (x : X) → In x xs → f x ≤ total f xs
at_least f [] x i = absurd i
at_least f (y ∷ ys) x (inl e) = let same : f x ≡ f y = ap f e in omega arith
at_least f (y ∷ ys) x (inr i) = let e = at_least f ys x i in omega arith

-- ## How many pass

abbrev pub one_if : Bool → ℕ
one_if true = 1
one_if false = 0

pub how_many : {X : Type 0} (p : X → Bool) (xs : List X) → length (filter p xs) ≡ total (λ x. one_if (p x)) xs
how_many p [] = refl
how_many p (x ∷ xs) = elim (p x) as (λ b. length (cond b (x ∷ filter p xs) (filter p xs)) ≡ one_if b + total (λ y. one_if (p y)) xs) [
  | true ↦ let e = how_many p xs in omega arith
  | false ↦ let e = how_many p xs in omega arith
]

pub one_of : {X : Type 0} (p : X → Bool) (xs : List X) (x : X) → In x xs → p x ≡ true → 1 ≤ total (λ x. one_if (p x)) xs
one_of p xs x i h = let e : one_if (p x) ≡ 1 = ap one_if h in let g = at_least (λ x. one_if (p x)) xs x i in omega arith

-- where at most one passes, two that do are one
pub only_one : {X : Type 0} (p : X → Bool) (xs : List X) (x y : X) → total (λ x. one_if (p x)) xs ≤ 1 → In x xs → In y xs → p x ≡ true → p y ≡ true → x ≡ y
only_one p [] x y h i j a b = absurd i
only_one p (z ∷ zs) x y h (inl d) (inl e) a b = d ∙ sym e
only_one p (z ∷ zs) x y h (inl d) (inr j) a b =
    let here : one_if (p z) ≡ 1 = ap (λ w. one_if (p w)) (sym d) ∙ ap one_if a in
    let g : 1 ≤ total (λ x. one_if (p x)) zs = one_of p zs y j b in
    absurd (omega arith)
only_one p (z ∷ zs) x y h (inr i) (inl e) a b =
    let here : one_if (p z) ≡ 1 = ap (λ w. one_if (p w)) (sym e) ∙ ap one_if b in
    let g : 1 ≤ total (λ x. one_if (p x)) zs = one_of p zs x i a in
    absurd (omega arith)
only_one p (z ∷ zs) x y h (inr i) (inr j) a b = only_one p zs x y (omega arith) i j a b

-- where the sum is nothing none passes
pub none_of : {X : Type 0} (p : X → Bool) (xs : List X) → total (λ x. one_if (p x)) xs ≡ 0 → list_any p xs ≡ false
none_of p [] h = refl
none_of p (x ∷ xs) h = elim (p x) as (λ b. one_if b + total (λ y. one_if (p y)) xs ≡ 0 → (b || list_any p xs) ≡ false) [
  | true ↦ λ g. absurd (omega arith)
  | false ↦ λ g. none_of p xs (omega arith)
] h

pub none_passes : {X : Type 0} (p : X → Bool) (xs : List X) → ((x : X) → In x xs → p x ≡ false) → total (λ x. one_if (p x)) xs ≡ 0
none_passes p [] h = refl
none_passes p (x ∷ xs) h =
    let here : one_if (p x) ≡ 0 = ap one_if (h x (inl refl)) in
    let rest : total (λ y. one_if (p y)) xs ≡ 0 = none_passes p xs (λ y i. h y (inr i)) in
    omega arith
