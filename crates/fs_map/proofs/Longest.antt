-- Of the listed prefixes of an identifier the last one is the longest.
use Rattle.std.proofs.Common.{◌≡◌, ◌∙◌, ℕ, Bool, true, false, List, [], ◌∷◌, refl, ap, sym, length, inl, inr, arith, cond, subst, suc, ◌<◌}
use Rattle.std.specs.Prelude.{Option, Some, None}
use Rattle.std.specs.Ordering.{nat_cmp, ordering_then}
use Rattle.std.specs.Cmp.Lexicographic.{slice_cmp}
use Rattle.std.specs.Cmp.{nat_cmp_total}
use Rattle.std.proofs.lemmas.Cmp.{tied_itself}
use Rattle.fs_ident.specs.In.{In}
use Rattle.fs_ident.specs.Ordered.{Keyed, are_keys_in_order}
use Rattle.fs_ident.proofs.Booleans.{first, second}
use Rattle.fs_map.specs.Map.{IsLongest, IsReduced, begins, longest, or_before}
use Rattle.fs_map.proofs.Prefixes.{number_is}
use Rattle.fs_map.proofs.Found.{Before, before_In}

one_more : (m n : ℕ) → m < n → suc m < suc n
one_more m n h = omega arith

-- of two prefixes of one identifier the first in order is the shorter
shorter : (p q id : List ℕ) → begins p id ≡ true → begins q id ≡ true → Before p q → length p < length q
shorter [] [] id h k l = absurd (cc)
shorter [] (y ∷ q) id h k l = omega arith
shorter (x ∷ p) [] id h k l = absurd (cc)
shorter (x ∷ p) (y ∷ q) [] h k l = let wrong : false ≡ true = h in absurd (cc)
shorter (x ∷ p) (y ∷ q) (i ∷ is) h k l =
    let same : x ≡ y = number_is x i (first _ _ h) ∙ sym (number_is y i (first _ _ k)) in
    let rest : Before p q = ap (λ o. ordering_then o (slice_cmp nat_cmp p q)) (sym (tied_itself nat_cmp_total y) ∙ ap (λ n. nat_cmp n y) (sym same)) ∙ l in
    one_more (length p) (length q) (shorter p q is (second _ _ h) (second _ _ k) rest)

own_first : {V : Type 0} (x : List ℕ × V) (id : List ℕ) → cond (begins x.0 id) (Some x) None ≡ None → begins x.0 id ≡ true → ⊥
own_first x id h t = let wrong : Some x ≡ None = ap (λ b. cond b (Some x) None) (sym t) ∙ h in absurd (cc wrong)

last_none : {X : Type 0} (o p : Option X) → or_before o p ≡ None → (o ≡ None) × (p ≡ None)
last_none (Some x) p h = absurd (cc h)
last_none None p h = (refl, h)

-- where none is found none is there
none_there : {V : Type 0} (listed : Keyed V) (id : List ℕ) → longest listed id ≡ None → (e : List ℕ × V) → In e listed → begins e.0 id ≡ true → ⊥
none_there [] id h e i t = absurd i
none_there (x ∷ xs) id h e i t =
    let both = last_none (longest xs id) (cond (begins x.0 id) (Some x) None) h in
    elim i [
      | inl same ↦ own_first x id both.1 (subst (λ (y : List ℕ × _). begins y.0 id ≡ true) same t)
      | inr j ↦ none_there xs id both.0 e j t
    ]

-- the first one, where none behind it is the identifier's
first_longest : {V : Type 0} (x : List ℕ × V) (xs : Keyed V) (id : List ℕ) (e : List ℕ × V) → longest xs id ≡ None → begins x.0 id ≡ true → x ≡ e → IsLongest (x ∷ xs) id e
first_longest x xs id e q own same = record {
  stands = inl (sym same);
  begun = subst (λ (y : List ℕ × _). begins y.0 id ≡ true) same own;
  longer = λ other i t. elim i [ inl o ↦ inl (o ∙ same) | inr j ↦ absurd (none_there xs id q other j t) ];
}

-- the longest of those behind it
later_longest : {V : Type 0} (x : List ℕ × V) (xs : Keyed V) (id : List ℕ) (e : List ℕ × V) → are_keys_in_order (x ∷ xs) ≡ true → IsLongest xs id e → IsLongest (x ∷ xs) id e
later_longest x xs id e h rest = record {
  stands = inr rest.stands;
  begun = rest.begun;
  longer = λ other i t. elim i [
    | inl o ↦ inr (shorter other.0 e.0 id t rest.begun (subst (λ (y : List ℕ × _). Before y.0 e.0) (sym o) (before_In x.0 e xs (first _ _ h) rest.stands)))
    | inr j ↦ rest.longer other j t
  ];
}

by_own : {V : Type 0} (x : List ℕ × V) (xs : Keyed V) (id : List ℕ) (e : List ℕ × V) → longest xs id ≡ None → (b : Bool) → begins x.0 id ≡ b → cond b (Some x) None ≡ Some e → IsLongest (x ∷ xs) id e
by_own x xs id e q true own g = let same : x ≡ e = cc g in first_longest x xs id e q own same
by_own x xs id e q false own g = absurd (cc g)

by_rest : {V : Type 0} (x : List ℕ × V) (xs : Keyed V) (id : List ℕ) (e : List ℕ × V) → are_keys_in_order (x ∷ xs) ≡ true → ((d : List ℕ × V) → longest xs id ≡ Some d → IsLongest xs id d)
    → (o : Option (List ℕ × V)) → longest xs id ≡ o → or_before o (cond (begins x.0 id) (Some x) None) ≡ Some e → IsLongest (x ∷ xs) id e
by_rest x xs id e h more (Some l) q g = let same : l ≡ e = cc g in later_longest x xs id e h (more e (q ∙ ap Some same))
by_rest x xs id e h more None q g = by_own x xs id e q (begins x.0 id) refl g

pub longest_is : {V : Type 0} (listed : Keyed V) (id : List ℕ) (e : List ℕ × V) → are_keys_in_order listed ≡ true → longest listed id ≡ Some e → IsLongest listed id e
longest_is [] id e h f = absurd (cc)
longest_is (x ∷ xs) id e h f = by_rest x xs id e h (λ d q. longest_is xs id d (second _ _ h) q) (longest xs id) refl f

-- below the top one there is one
pub longest_below : {V : Type 0} (top : List ℕ) (listed : Keyed V) (id : List ℕ) → IsReduced top listed → begins top id ≡ true → (e : List ℕ × V) × (longest listed id ≡ Some e) × IsLongest listed id e
longest_below top listed id r t = found_one (longest listed id) refl
  where
    top_there : In (top, r.first.0) listed
    top_there = subst (λ (es : Keyed _). In (top, r.first.0) es) (sym r.first.2) (inl refl)

    found_one : (o : Option (List ℕ × _)) → longest listed id ≡ o → (e : List ℕ × _) × (longest listed id ≡ Some e) × IsLongest listed id e
    found_one (Some e) q = (e, q, longest_is listed id e r.ordered q)
    found_one None q = absurd (none_there listed id q (top, r.first.0) top_there t)
