-- What the tests of a piece say.
use Rattle.std.proofs.Common.{◌≡◌, ◌≢◌, ◌∙◌, ℕ, Bool, true, false, not, List, [], ◌∷◌, refl, ap, sym, length, inl, inr, ◌<◌, ◌+◌, get_or, drop}
use Rattle.std.specs.Prelude.{Option, Some, None, ◌&&◌, ◌||◌}
use Rattle.std.specs.Cmp.{booleans_Decides, unsigned_Decides}
use Rattle.std.specs.Ordering.{nat_cmp, is_lt}
use Rattle.std.specs.Cmp.Lexicographic.{slice_cmp}
use Rattle.std.proofs.lemmas.Slice.Eq.{slice_eq-Decides}
use Rattle.fs_ident.specs.Ident.{parent, same}
use Rattle.fs_ident.specs.Ordered.{Keyed, are_keys_in_order}
use Rattle.fs_ident.proofs.Booleans.{first, second, joined, and_never, denied}
use Rattle.fs_ident.proofs.Passing.{all-In, In-all}
use Rattle.fs_ident.proofs.Same.{same_is}
use Rattle.fs_map.specs.Map.{begins, told_of, IsPiece}
use Rattle.fs_map.specs.Change.{before_all, front}
use Rattle.fs_map.specs.Lists.{is_value, tells_alike, tells_anew, begins_at, is_piece}
use Rattle.fs_map.proofs.Prefixes.{itself_or_above, begins_above, above_differs, both_ways}
use Rattle.fs_map.proofs.Found.{Before}
use Rattle.fs_map.proofs.Merging.{before_through}
use Rattle.fs_map.proofs.Changing.{next_item}

-- ## In order

-- the next one is behind the last, so what is left is behind the last if it is behind the next
rises_next : (last : List ℕ) (e : List ℕ × Bool) (es : Keyed Bool) → Before last e.0 → (before_all last (e ∷ es) && are_keys_in_order (e ∷ es)) ≡ (before_all e.0 es && are_keys_in_order es)
rises_next last e es l =
    elim (before_all e.0 es) as (λ b. before_all e.0 es ≡ b → ((is_lt (slice_cmp nat_cmp last e.0) && before_all last es) && (b && are_keys_in_order es)) ≡ (b && are_keys_in_order es)) [
      | true ↦ λ h. ap (λ c. c && are_keys_in_order es) (joined _ _ (ap is_lt l) (before_through last e.0 es l h))
      | false ↦ λ h. and_never (is_lt (slice_cmp nat_cmp last e.0) && before_all last es) (are_keys_in_order es)
    ] refl

pub rises_on : (last : List ℕ) (rest : Keyed Bool) (i : ℕ) (e : List ℕ × Bool) → i < length rest → e ≡ get_or rest i e → Before last e.0
    → (before_all last (drop i rest) && are_keys_in_order (drop i rest)) ≡ (before_all e.0 (drop (i + 1) rest) && are_keys_in_order (drop (i + 1) rest))
rises_on last rest i e within is l = ap (λ es. before_all last es && are_keys_in_order es) (next_item rest i e within is) ∙ rises_next last e (drop (i + 1) rest) l

-- ## The shortest list

same_itself : (a b : List ℕ) → a ≡ b → same a b ≡ true
same_itself a b e = (slice_eq-Decides unsigned_Decides a b (same a b) refl).1 e

not_false : (b : Bool) → (b ≡ true → ⊥) → not b ≡ true
not_false true h = absurd (h refl)
not_false false h = refl

value_there : (o : Option Bool) (v : Bool) → is_value o v ≡ true → o ≡ Some v
value_there None v h = absurd (cc)
value_there (Some w) v h = ap Some ((booleans_Decides w v).0 h)

value_is : (o : Option Bool) (v : Bool) → o ≡ Some v → is_value o v ≡ true
value_is o v e = ap (λ p. is_value p v) e ∙ (booleans_Decides v v).1 refl

module _ (top : List ℕ) (listed : Keyed Bool) where
  -- what tells anew tells what is not told above
  anew_telling : (e : List ℕ × Bool) → tells_anew top listed e ≡ true → (above : List ℕ) → parent e.0 ≡ Some above → begins top above ≡ true → told_of listed above ≢ Some e.1
  anew_telling e h above p b q =
      elim (same e.0 top) as (λ s. same e.0 top ≡ s → (s || not (tells_alike listed (parent e.0) e.1)) ≡ true → ⊥) [
        | true ↦ λ s _. above_top e.0 above p b (same_is e.0 top s)
        | false ↦ λ s n. denied _ n (ap (λ o. tells_alike listed o e.1) p ∙ value_is (told_of listed above) e.1 q)
      ] refl (second (begins top e.0) _ h)
    where
      above_top : (id up : List ℕ) → parent id ≡ Some up → begins top up ≡ true → id ≡ top → ⊥
      above_top [] up p b s = absurd (cc)
      above_top (n ∷ ns) up p b s =
          let q : front n ns ≡ up = cc in
          let c : begins (n ∷ ns) (front n ns) ≡ true = ap (λ t. begins t (front n ns)) s ∙ ap (begins top) q ∙ b in
          above_differs n ns (both_ways (front n ns) (n ∷ ns) (begins_above n ns) c)

  telling_anew : (e : List ℕ × Bool) → begins top e.0 ≡ true → ((above : List ℕ) → parent e.0 ≡ Some above → begins top above ≡ true → told_of listed above ≢ Some e.1) → tells_anew top listed e ≡ true
  telling_anew e b t = joined (begins top e.0) _ b (either e.0 e.1 b t)
    where
      new : (s : Bool) (r : Bool) → (s ≡ false → r ≡ true) → (s || r) ≡ true
      new true r h = refl
      new false r h = h refl

      either : (id : List ℕ) (v : Bool) → begins top id ≡ true → ((above : List ℕ) → parent id ≡ Some above → begins top above ≡ true → told_of listed above ≢ Some v) → (same id top || not (tells_alike listed (parent id) v)) ≡ true
      either [] v c u = new (same [] top) true (λ _. refl)
      either (n ∷ ns) v c u = new (same (n ∷ ns) top) _ (λ s. elim (itself_or_above top n ns c) [
        | inl q ↦ let wrong : true ≡ false = sym (same_itself (n ∷ ns) top (sym q)) ∙ s in absurd (cc)
        | inr d ↦ not_false _ (λ h. u (front n ns) refl d (value_there (told_of listed (front n ns)) v h))
      ])

  first_is : (es : Keyed Bool) → begins_at top es ≡ true → (value : Bool) × (rest : Keyed Bool) × (es ≡ (top, value) ∷ rest)
  first_is [] h = absurd (cc)
  first_is (e ∷ es) h = (e.1, es, ap (λ x. (x, e.1) ∷ es) (same_is e.0 top h))

  pub test_piece : is_piece top listed ≡ true → IsPiece top listed
  test_piece h =
      let rest = second (begins_at top listed) _ h in
      let all = second (are_keys_in_order listed) _ rest in
      record {
        ordered = first (are_keys_in_order listed) _ rest;
        first = first_is listed (first (begins_at top listed) _ h);
        below = λ e i. first (begins top e.0) _ (all-In (tells_anew top listed) listed all e i);
        telling = λ e i. anew_telling e (all-In (tells_anew top listed) listed all e i);
      }

  pub piece_test : IsPiece top listed → is_piece top listed ≡ true
  piece_test p =
      joined (begins_at top listed) _ (ap (begins_at top) p.first.2 ∙ same_itself top top refl)
      (joined (are_keys_in_order listed) _ p.ordered (In-all (tells_anew top listed) listed (λ e i. telling_anew e (p.below e i) (p.telling e i))))
