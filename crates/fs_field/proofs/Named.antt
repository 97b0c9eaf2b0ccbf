-- Which names are among the names after one is given to a file or to none.
use Rattle.std.proofs.Common.{◌≡◌, ℕ, ◌||◌, not, Bool, true, false, List, [], ◌∷◌, refl, ap, cond, sym, ◌∙◌}
use Rattle.std.specs.Prelude.{Option, Some, None, is_some}
use Rattle.std.specs.List.{list_any}
use Rattle.std.specs.Cmp.Lexicographic.{same_text, nat_list_eq_equiv}
use Rattle.std.proofs.lemmas.Map.Views.{any-filter_same}
use Rattle.fs_ident.specs.Ident.{same}
use Rattle.fs_ident.specs.Ordered.{put_before}
use Rattle.fs_ident.proofs.Same.{same_self}
use Rattle.fs_field.specs.After.{with_name, without_name, names_after, is_before}
use Rattle.fs_field.specs.declared.effect.Effect.TheVariants.{SetChild}

-- no name is the same as two that differ
not_both : (n name other : List ℕ) → same other name ≡ false → same n other ≡ true → same n name ≡ false
not_both n name other h e = ap (λ m. same m name) (same_text n other (sym e)) ∙ h

turned : (name other : List ℕ) → same other name ≡ false → same name other ≡ false
turned name other h = nat_list_eq_equiv.symm name other ∙ h

pub swapped : (a b c : Bool) → (a || (b || c)) ≡ (b || (a || c))
swapped true true c = refl
swapped true false c = refl
swapped false true c = refl
swapped false false c = refl

pub any_put : {X : Type 0} (test first : X → Bool) (x : X) (xs : List X) → list_any test (put_before first x xs) ≡ (test x || list_any test xs)
any_put test first x [] = refl
any_put test first x (y ∷ ys) =
    elim (first y) as (λ b. list_any test (cond b (x ∷ y ∷ ys) (y ∷ put_before first x ys)) ≡ (test x || (test y || list_any test ys))) [
      | true ↦ refl
      | false ↦ ap (λ b. test y || b) (any_put test first x ys) ∙ swapped (test y) (test x) (list_any test ys)
    ]

named_with : (name : List ℕ) (names : List (List ℕ)) → list_any (λ n. same n name) (with_name names name) ≡ true
named_with name names =
    elim (list_any (λ n. same n name) names) as (λ b. list_any (λ n. same n name) names ≡ b → list_any (λ n. same n name) (cond b names (put_before (is_before name) name names)) ≡ true) [
      | true ↦ λ e. e
      | false ↦ λ e. any_put (λ n. same n name) (is_before name) name names ∙ ap (λ b. b || list_any (λ n. same n name) names) (same_self name)
    ] refl

others_with : (name other : List ℕ) (names : List (List ℕ)) → same other name ≡ false → list_any (λ n. same n other) (with_name names name) ≡ list_any (λ n. same n other) names
others_with name other names h =
    elim (list_any (λ n. same n name) names) as (λ b. list_any (λ n. same n other) (cond b names (put_before (is_before name) name names)) ≡ list_any (λ n. same n other) names) [
      | true ↦ refl
      | false ↦ any_put (λ n. same n other) (is_before name) name names ∙ ap (λ b. b || list_any (λ n. same n other) names) (turned name other h)
    ]

named_without : (name : List ℕ) (names : List (List ℕ)) → list_any (λ n. same n name) (without_name names name) ≡ false
named_without name names = any-filter_same (λ n. same n name) (λ n. not (same n name)) false (λ n e. ap not e) names

others_without : (name other : List ℕ) (names : List (List ℕ)) → same other name ≡ false → list_any (λ n. same n other) (without_name names name) ≡ list_any (λ n. same n other) names
others_without name other names h = any-filter_same (λ n. same n other) (λ n. not (same n name)) true (λ n e. ap not (not_both n name other h e)) names

pub named : (d name : List ℕ) (names : List (List ℕ)) (to : Option (List ℕ)) → list_any (λ n. same n name) (names_after d names (SetChild d name to)) ≡ is_some to
named d name names (Some f) = ap (λ b. list_any (λ n. same n name) (cond b (with_name names name) names)) (same_self d) ∙ named_with name names
named d name names None = ap (λ b. list_any (λ n. same n name) (cond b (without_name names name) names)) (same_self d) ∙ named_without name names

pub others : (d name other : List ℕ) (names : List (List ℕ)) (to : Option (List ℕ)) → same other name ≡ false → list_any (λ n. same n other) (names_after d names (SetChild d name to)) ≡ list_any (λ n. same n other) names
others d name other names (Some f) h = ap (λ b. list_any (λ n. same n other) (cond b (with_name names name) names)) (same_self d) ∙ others_with name other names h
others d name other names None h = ap (λ b. list_any (λ n. same n other) (cond b (without_name names name) names)) (same_self d) ∙ others_without name other names h
