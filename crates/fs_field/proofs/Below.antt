-- The files right below a directory.
use Rattle.std.proofs.Common.{◌≡◌, ℕ, Bool, true, false, List, [], ◌∷◌, ◌++◌, refl, ap, cond, sym, ◌∙◌, length, take}
use Rattle.std.specs.Prelude.{Option, Some, None}
use Rattle.std.specs.Cmp.Lexicographic.{same_text, nat_list_eq_equiv}
use Rattle.fs_ident.specs.Ident.{child, same}
use Rattle.fs_field.specs.Table.{child_number, last_number}

pub front_is : (n : ℕ) (ns : List ℕ) (k : ℕ) → take (length (ns ++ k ∷ [])) (n ∷ (ns ++ k ∷ [])) ≡ n ∷ ns
front_is n [] k = refl
front_is n (m ∷ ns) k = ap (λ zs. n ∷ zs) (front_is m ns k)

last_is : (n : ℕ) (ns : List ℕ) (k : ℕ) → last_number (n ∷ (ns ++ k ∷ [])) ≡ Some k
last_is n [] k = refl
last_is n (m ∷ ns) k = last_is m ns k

pub last_of : (dir front : List ℕ) (k : ℕ) → child_number dir (front ++ k ∷ []) ≡ cond (same front dir) (Some k) None
last_of dir [] k = refl
last_of dir (n ∷ ns) k =
    ap (λ zs. cond (same zs dir) (last_number (n ∷ (ns ++ k ∷ []))) None) (front_is n ns k)
    ∙ ap (λ o. cond (same (n ∷ ns) dir) o None) (last_is n ns k)

pub told : (dir : List ℕ) (k : ℕ) → child_number dir (child dir k) ≡ Some k
told dir k = last_of dir dir k ∙ ap (λ b. cond b (Some k) None) (nat_list_eq_equiv.refl dir)

whole : (n : ℕ) (ns : List ℕ) (k : ℕ) → last_number (n ∷ ns) ≡ Some k → take (length ns) (n ∷ ns) ++ k ∷ [] ≡ n ∷ ns
whole n [] k h = let e : n ≡ k = cc in ap (λ m. m ∷ []) (sym e)
whole n (m ∷ ns) k h = ap (λ zs. n ∷ zs) (whole m ns k h)

of_both : (b : Bool) (o : Option ℕ) (k : ℕ) → cond b o None ≡ Some k → (b ≡ true) × (o ≡ Some k)
of_both true o k h = (refl, h)
of_both false o k h = absurd (cc)

pub only : (dir file : List ℕ) (k : ℕ) → child_number dir file ≡ Some k → file ≡ child dir k
only dir [] k h = absurd (cc)
only dir (n ∷ ns) k h =
    let both = of_both (same (take (length ns) (n ∷ ns)) dir) (last_number (n ∷ ns)) k h in
    sym (whole n ns k both.1) ∙ ap (λ zs. zs ++ k ∷ []) (same_text (take (length ns) (n ∷ ns)) dir (sym both.0))
