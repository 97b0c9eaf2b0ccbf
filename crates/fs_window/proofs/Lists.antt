-- Lists: the element at a place, and what is made of the elements one after another.
use Rattle.std.proofs.Common.{◌≡◌, ℕ, zero, suc, ◌+◌, ◌<◌, List, [], ◌∷◌, ◌++◌, length, map, get_or, take, drop, Option, Some, None, refl, sym, ap, ◌∙◌, append_assoc, inl, inr, arith}
use Rattle.std.specs.Prelude.{slice_get}
use Rattle.fs_ident.specs.In.{In}
use Rattle.std.proofs.lemmas.List.{drop-drop, drop_more}

abbrev pub some_of : {A : Type 0} → A → Option A
some_of x = Some x

abbrev pub none_of : {A : Type 0} → Option A
none_of = None

pub some_is : {A : Type 0} (x y : A) → some_of x ≡ some_of y → x ≡ y
some_is x y e = cc

pub get_more : (xs ys : List (List ℕ)) (k : ℕ) (x : List ℕ) → slice_get xs k ≡ Some x → slice_get (xs ++ ys) k ≡ Some x
get_more [] ys k x e = absurd cc
get_more (z ∷ xs) ys zero x e = e
get_more (z ∷ xs) ys (suc k) x e = get_more xs ys k x e

pub get_drop : (xs : List (List ℕ)) (n : ℕ) (w : List ℕ) (ws : List (List ℕ)) → drop n xs ≡ w ∷ ws → slice_get xs n ≡ Some w
get_drop [] zero w ws e = absurd cc
get_drop [] (suc n) w ws e = absurd cc
get_drop (x ∷ xs) zero w ws e = cc
get_drop (x ∷ xs) (suc n) w ws e = get_drop xs n w ws e

pub get_past : {A : Type 0} (xs : List A) (j k : ℕ) → slice_get (drop j xs) k ≡ slice_get xs (j + k)
get_past xs zero k = ap (λ (n : ℕ). slice_get xs n) (omega arith)
get_past [] (suc j) k = refl
get_past {A} (x ∷ xs) (suc j) k =
    let one : suc (j + k) ≡ suc j + k = omega arith in
    get_past xs j k ∙ ap (λ (n : ℕ). slice_get (x ∷ xs) n) one

pub get_behind : (xs ys : List (List ℕ)) (k : ℕ) → slice_get (xs ++ ys) (length xs + k) ≡ slice_get ys k
get_behind [] ys k = ap (λ (n : ℕ). slice_get ys n) (omega arith)
get_behind (z ∷ xs) ys k =
    let one : suc (length xs) + k ≡ suc (length xs + k) = omega arith in
    ap (λ (n : ℕ). slice_get (z ∷ (xs ++ ys)) n) one ∙ get_behind xs ys k

pub drop_next : (xs : List (List ℕ)) (n : ℕ) (w : List ℕ) (ws : List (List ℕ)) → drop n xs ≡ w ∷ ws → drop (n + 1) xs ≡ ws
drop_next xs n w ws e = sym (drop-drop 1 n xs) ∙ ap (λ (x : List (List ℕ)). drop 1 x) e

pub in_dropped : (n : ℕ) (xs : List (List ℕ)) (s : List ℕ) → In s (drop n xs) → In s xs
in_dropped zero xs s i = i
in_dropped (suc n) [] s i = absurd i
in_dropped (suc n) (x ∷ xs) s i = inr (in_dropped n xs s i)

pub in_taken : (n : ℕ) (xs : List (List ℕ)) (s : List ℕ) → In s (take n xs) → In s xs
in_taken zero xs s i = absurd i
in_taken (suc n) [] s i = absurd i
in_taken (suc n) (x ∷ xs) s i = elim i [
  | inl e ↦ inl e
  | inr j ↦ inr (in_taken n xs s j)
]

-- what was made of the first elements, with what is made of one more
pub mapped_next : {X Y : Type 0} (f : X → Y) (xs : List X) (i : ℕ) (x : X) (y : Y) (done total : List Y) → i < length xs → x ≡ get_or xs i x → y ≡ f x
    → done ++ map f (drop i xs) ≡ total → (done ++ y ∷ []) ++ map f (drop (i + 1) xs) ≡ total
mapped_next {X} {Y} f xs i x y done total lt here is so_far =
    let left : drop i xs ≡ x ∷ drop (i + 1) xs = drop_more xs i x lt ∙ ap (λ (z : X). z ∷ drop (i + 1) xs) (sym here) in
    append_assoc done (y ∷ []) (map f (drop (i + 1) xs)) ∙ ap (λ (z : Y). done ++ z ∷ map f (drop (i + 1) xs)) is
    ∙ ap (λ (zs : List X). done ++ map f zs) (sym left) ∙ so_far
