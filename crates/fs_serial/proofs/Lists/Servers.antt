-- Servers by their places.
use Rattle.std.proofs.Common.{◌≡◌, ℕ, zero, suc, Bool, true, false, List, [], ◌∷◌, length, cond, refl, sym, ap, ◌∙◌, inl, inr}
use Rattle.std.specs.Prelude.{Some, slice_get, slice_set}
use Rattle.std.specs.List.{filter}
use Rattle.fs_ident.specs.In.{In}

-- the item stands at the place
pub record IsAt {X : Type 0} (xs : List X) (x : X) : Type 0 where
  pub place : ℕ
  pub is : slice_get xs place ≡ Some x

pub In_at : {X : Type 0} (xs : List X) (x : X) → In x xs → IsAt xs x
In_at [] x i = absurd i
In_at (y ∷ ys) x (inl e) = record { place = zero; is = ap Some (sym e) }
In_at (y ∷ ys) x (inr i) = let q = In_at ys x i in record { place = suc q.place; is = q.is }

-- where one is replaced by one that passes as it did
pub as_many : {X : Type 0} (test : X → Bool) (xs : List X) (k : ℕ) (x y : X) → slice_get xs k ≡ Some x → test y ≡ test x → length (filter test (slice_set xs k y)) ≡ length (filter test xs)
as_many test [] k x y e t = refl
as_many test (z ∷ zs) zero x y e t =
    let q : x ≡ z = cc in
    let same : test y ≡ test z = t ∙ ap test q in
    rw same (elim (test z) as (λ b. length (cond b (y ∷ filter test zs) (filter test zs)) ≡ length (cond b (z ∷ filter test zs) (filter test zs))) [ true ↦ refl | false ↦ refl ])
as_many test (z ∷ zs) (suc k) x y e t =
    let rest = as_many test zs k x y e t in
    elim (test z) as (λ b. length (cond b (z ∷ filter test (slice_set zs k y)) (filter test (slice_set zs k y))) ≡ length (cond b (z ∷ filter test zs) (filter test zs))) [ true ↦ ap suc rest | false ↦ rest ]
