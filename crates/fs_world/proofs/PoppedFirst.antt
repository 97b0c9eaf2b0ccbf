-- The first of a list that passes a test, taken off at its place.
use Rattle.std.proofs.Common.{◌≡◌, ℕ, suc, ◌+◌, List, [], ◌∷◌, Bool, true, false, refl, ap, sym, ◌∙◌, arith}
use Rattle.std.specs.Prelude.{Some, None}
use Rattle.std.specs.List.{position, position_from, remove}
use Rattle.std.proofs.lemmas.Iterator.Adapters.{position_from-zero}
use Rattle.fs_serial.specs.Cluster.{without_first}

from_place : {X : Type 0} (is : X → Bool) (n : ℕ) (xs : List X) (i : ℕ) → position_from is n xs ≡ Some i
    → (j : ℕ) × (i ≡ n + j) × (remove xs j ≡ without_first is xs)
from_place {X = X} is n [] i e = absurd (cc)
from_place {X = X} is n (x ∷ xs) i e = go (is x) refl (from_place is (n + 1) xs i)
  where
    go : (b : Bool) → is x ≡ b → (position_from is (n + 1) xs ≡ Some i → (j : ℕ) × (i ≡ n + 1 + j) × (remove xs j ≡ without_first is xs))
        → (j : ℕ) × (i ≡ n + j) × (remove (x ∷ xs) j ≡ without_first is (x ∷ xs))
    go true t h =
        let here : Some n ≡ Some i = rw t at e in
        let same : n ≡ i = cc in
        (0, omega arith, rw t refl)
    go false t h =
        let rest : position_from is (n + 1) xs ≡ Some i = rw t at e in
        let p = h rest in
        (suc p.0, (let q : i ≡ n + 1 + p.0 = p.1 in omega arith), rw t (ap (λ (ys : List X). x ∷ ys) p.2))

nowhere : {X : Type 0} (is : X → Bool) (n : ℕ) (xs : List X) → position_from is n xs ≡ None → xs ≡ without_first is xs
nowhere {X = X} is n [] e = refl
nowhere {X = X} is n (x ∷ xs) e = go (is x) refl (nowhere is (n + 1) xs)
  where
    go : (b : Bool) → is x ≡ b → (position_from is (n + 1) xs ≡ None → xs ≡ without_first is xs) → x ∷ xs ≡ without_first is (x ∷ xs)
    go true t h =
        let here : Some n ≡ None = rw t at e in
        absurd (cc)
    go false t h = rw t (ap (λ (ys : List X). x ∷ ys) (h (rw t at e)))

pub taken_off : {X : Type 0} (is : X → Bool) (xs : List X) (i : ℕ) → position is xs ≡ Some i → remove xs i ≡ without_first is xs
taken_off is xs i e =
    let p = from_place is 0 xs i (sym (position_from-zero is xs) ∙ e) in
    let at : i ≡ p.0 = (let q : i ≡ 0 + p.0 = p.1 in omega arith) in
    ap (remove xs) at ∙ p.2

pub none_taken : {X : Type 0} (is : X → Bool) (xs : List X) → position is xs ≡ None → xs ≡ without_first is xs
none_taken is xs e = nowhere is 0 xs (sym (position_from-zero is xs) ∙ e)
