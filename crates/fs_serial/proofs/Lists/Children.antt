-- Identifiers right below a directory.
use Rattle.std.proofs.Common.{◌≡◌, ℕ, ◌+◌, ◌==◌, true, List, [], ◌∷◌, ◌++◌, length, take, drop, refl, sym, ap, ◌∙◌, ◌⊎◌, inl, inr, arith}
use Rattle.std.specs.Prelude.{Some}
use Rattle.std.proofs.lemmas.Bool.Decides.{nat_tests}
use Rattle.std.proofs.lemmas.List.{length-drop, take-append-drop}
use Rattle.fs_ident.specs.Ident.{child, parent, same}
use Rattle.fs_ident.proofs.Booleans.{both}
use Rattle.fs_ident.proofs.Same.{same_is}
use Rattle.fs_field.proofs.Below.{front_is}
use Rattle.fs_model.specs.Step.{is_child}
use Rattle.fs_serial.specs.Fresh.{IsAtOrBelow}

pub parent_child : (dir : List ℕ) (k : ℕ) → parent (child dir k) ≡ Some dir
parent_child [] k = refl
parent_child (n ∷ ns) k = ap Some (front_is n ns k)

-- two identifiers right below directories are one only where those are
pub child_is : (a b : List ℕ) (k l : ℕ) → child a k ≡ child b l → (a ≡ b) × (k ≡ l)
child_is [] [] k l e = (refl, cc)
child_is [] (y ∷ []) k l e = absurd (cc)
child_is [] (y ∷ z ∷ b) k l e = absurd (cc)
child_is (x ∷ []) [] k l e = absurd (cc)
child_is (x ∷ z ∷ a) [] k l e = absurd (cc)
child_is (x ∷ a) (y ∷ b) k l e =
    let head : x ≡ y = cc in
    let rest : child a k ≡ child b l = cc in
    let q = child_is a b k l rest in
    (ap (λ n. n ∷ a) head ∙ ap (λ ns. y ∷ ns) q.0, q.1)

-- an identifier right below a directory is that directory's with one number behind it
one_long : (ns : List ℕ) → length ns ≡ 1 → (k : ℕ) × (ns ≡ k ∷ [])
one_long [] h = absurd (cc)
one_long (n ∷ []) h = (n, refl)
one_long (n ∷ m ∷ ns) h = absurd (omega arith)

pub the_child : (dir id : List ℕ) → is_child dir id ≡ true → (k : ℕ) × (id ≡ child dir k)
the_child dir id h =
    let q = both (length dir + 1 == length id) (same (take (length dir) id) dir) h in
    let n = q.0 in
    let long : length dir + 1 ≡ length id = grind (arith, nat_tests) in
    let last = one_long (drop (length dir) id) (length-drop (length dir) id ∙ omega arith) in
    (last.0, sym (take-append-drop (length dir) id) ∙ ap (λ front. front ++ drop (length dir) id) (same_is (take (length dir) id) dir q.1) ∙ ap (λ rest. dir ++ rest) last.1)

-- what an identifier right below a directory begins with is that identifier, or the directory begins with it
pub above_child : (top dir : List ℕ) (k : ℕ) → IsAtOrBelow top (child dir k) → (top ≡ child dir k) ⊎ IsAtOrBelow top dir
above_child [] dir k p = inr (dir, refl)
above_child (t ∷ []) [] k p = let e : k ∷ [] ≡ t ∷ p.0 = p.1 in let q : k ≡ t = cc in inl (ap (λ n. n ∷ []) (sym q))
above_child (t ∷ u ∷ top) [] k p = let e : k ∷ [] ≡ t ∷ u ∷ (top ++ p.0) = p.1 in absurd (cc)
above_child (t ∷ top) (d ∷ dir) k p =
    let e : d ∷ child dir k ≡ t ∷ (top ++ p.0) = p.1 in
    let head : d ≡ t = cc in
    let rest : child dir k ≡ top ++ p.0 = cc in
    elim (above_child top dir k (p.0, rest)) as (λ _. (t ∷ top ≡ d ∷ child dir k) ⊎ IsAtOrBelow (t ∷ top) (d ∷ dir)) [
      | inl q ↦ inl (ap (λ n. n ∷ top) (sym head) ∙ ap (λ ns. d ∷ ns) q)
      | inr q ↦ inr (q.0, ap (λ n. n ∷ dir) head ∙ ap (λ ns. t ∷ ns) q.1)
    ]
