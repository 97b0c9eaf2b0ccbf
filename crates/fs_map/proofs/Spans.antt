-- The part of a map's list that begins with a prefix, and what the list is with another in its place.
use Rattle.std.proofs.Common.{◌≡◌, ◌∙◌, ◌⊎◌, ℕ, zero, suc, Bool, true, false, List, [], ◌∷◌, ◌++◌, refl, ap, sym, length, inl, inr, cond, subst, arith, ◌≤◌, ◌<◌, ◌+◌, ◌-◌, ◌==◌, take, drop, get_or}
use Rattle.std.specs.Prelude.{Some, None, ◌&&◌, ◌||◌, nat_eq, slice_range, unwrap_or}
use Rattle.std.specs.Cmp.{unsigned_Decides}
use Rattle.std.specs.List.{splice, list_any}
use Rattle.std.specs.List.Sorted.{IsPartitionedBy, IsPartitionPoint}
use Rattle.std.specs.Ordering.{nat_cmp, is_lt, ordering_reverse}
use Rattle.std.specs.Cmp.Lexicographic.{slice_cmp, nat_list_cmp_total}
use Rattle.std.specs.declared.cmp.Ordering.TheVariants.{Less, Equal, Greater}
use Rattle.std.proofs.lemmas.List.{take-append-drop, take_at, drop_at, length-drop, drop-drop, map-append}
use Rattle.std.proofs.lemmas.List.Folds.{drop_split, list_any-append}
use Rattle.std.proofs.Math.Bool.{or-false}
use Rattle.fs_ident.specs.In.{In}
use Rattle.fs_ident.specs.Ordered.{Keyed, are_keys_in_order}
use Rattle.fs_ident.proofs.Booleans.{first, second, less}
use Rattle.fs_ident.proofs.MapsOf.{anti}
use Rattle.fs_map.specs.Map.{begins, gives, IsMap, IsPiece, Owners, server_of, after_take, told_of}
use Rattle.fs_map.specs.Change.{at, before_all, front}
use Rattle.fs_map.specs.Lists.{map_after_take, owns_given, places_of, turns}
use Rattle.fs_map.specs.Part.{IsSpan, IsPartOf, with_part_replaced, part_after, is_as_above, new_part}
use Rattle.fs_map.proofs.Found.{Before, tied, tied_is, apart, one_way, found_after}
use Rattle.fs_map.proofs.Prefixes.{begins_itself}
use Rattle.fs_map.proofs.Listing.{Lists, told, listing, one_list}
use Rattle.fs_map.proofs.Turns.{turns_order}
use Rattle.fs_map.proofs.Owned.{taken_lists, part_lists}
use Rattle.fs_map.proofs.Spliced.{Stands, spliced, within, order_front, order_back, behind, not_begun}

in_three : {X : Type 0} (xs : List X) (start end : ℕ) → start ≤ end → xs ≡ take start xs ++ (slice_range xs start end ++ drop end xs)
in_three xs start end h = sym (take-append-drop start xs) ∙ ap (λ ys. take start xs ++ ys) (drop_split xs start end h)

-- what begins with the prefix is in the part
pub span_part : (owners : Owners) (prefix : List ℕ) (start end : ℕ) → are_keys_in_order owners ≡ true → IsSpan owners prefix start end → IsPartOf prefix (slice_range owners start end) owners
span_part owners prefix start end h s =
    let parts = in_three owners start end s.ordered in
    let before = take start owners in
    let part = slice_range owners start end in
    let later = drop end owners in
    record {
      order = order_front part later (order_back before (part ++ later) (ap are_keys_in_order (sym parts) ∙ h));
      same = λ id b. sym (ap (at id) parts ∙ within prefix before part later s.split id b);
    }

-- ## The prefix itself

module _ (owners : Owners) (me : ℕ) (prefix : List ℕ) (given : Keyed Bool) (p : IsPiece prefix given) where
  abbrev changed_to : List ℕ → ℕ
  changed_to id = after_take owners me prefix given id

  abbrev all : Owners
  all = part_after owners me prefix given

  abbrev rest : Owners
  rest = turns nat_eq (after_take owners me prefix given) prefix (places_of owners ++ places_of given)

  lists : Lists changed_to prefix all
  lists = part_lists owners me prefix given p

  none_there : at prefix rest ≡ None
  none_there = elim (at prefix rest) as (λ o. at prefix rest ≡ o → o ≡ None) [
    | None ↦ λ h. refl
    | Some v ↦ λ h. absurd (apart prefix prefix (found_after prefix prefix v rest (first _ _ lists.sound.ordered) h) refl)
  ] refl

  top_there : at prefix all ≡ Some (changed_to prefix)
  top_there = lists.sound.topmost

  kept_all : is_as_above owners me prefix given prefix ≡ false → Stands changed_to prefix all all
  kept_all a = record {
    order = lists.sound.ordered;
    same = λ id n. refl;
    value = λ v h. lists.sound.told prefix v h;
    root = λ e. top_there;
    differs = λ n ns v e h q. let b : is_as_above owners me prefix given (n ∷ ns) ≡ false = ap (is_as_above owners me prefix given) e ∙ a in
        let wrong : true ≡ false = sym ((unsigned_Decides (changed_to (front n ns)) (changed_to (n ∷ ns))).1 q) ∙ b in absurd (cc);
    alike = λ n ns e h. let wrong : Some (changed_to prefix) ≡ None = sym top_there ∙ h in absurd (cc);
  }

  kept_rest : is_as_above owners me prefix given prefix ≡ true → Stands changed_to prefix all rest
  kept_rest a = record {
    order = turns_order nat_eq changed_to prefix (places_of owners ++ places_of given);
    same = λ id n. elim (tied id prefix) as (λ t. tied id prefix ≡ t → at id rest ≡ cond t (Some (changed_to prefix)) (at id rest)) [ true ↦ λ t. absurd (n (tied_is id prefix t)) | false ↦ λ t. refl ] refl;
    value = λ v h. let wrong : None ≡ Some v = sym none_there ∙ h in absurd (cc);
    root = λ e. let wrong : false ≡ true = ap (is_as_above owners me prefix given) (sym e) ∙ a in absurd (cc);
    differs = λ n ns v e h q. let wrong : None ≡ Some v = sym none_there ∙ h in absurd (cc);
    alike = λ n ns e h. let b : is_as_above owners me prefix given (n ∷ ns) ≡ true = ap (is_as_above owners me prefix given) e ∙ a in
        sym ((unsigned_Decides (changed_to (front n ns)) (changed_to (n ∷ ns))).0 b);
  }

  stands : Stands changed_to prefix all (new_part owners me prefix given)
  stands = elim (is_as_above owners me prefix given prefix) as (λ b. is_as_above owners me prefix given prefix ≡ b → Stands changed_to prefix all (cond b rest all)) [ true ↦ kept_rest | false ↦ kept_all ] refl

  beyond : (id : List ℕ) → begins prefix id ≡ false → changed_to id ≡ server_of owners id
  beyond id b = ap (λ g. cond (g && (unwrap_or (told_of given id) false)) me (server_of owners id)) b

  module _ (m : IsMap owners) (start end : ℕ) (s : IsSpan owners prefix start end) where
    known : Lists (server_of owners) [] owners
    known = listing (server_of owners) [] owners m (λ id h. told [] owners m 0 id h)

    -- with the new part in the place of the old one it is the list of the changed map
    pub splice_is : splice owners start end (new_part owners me prefix given) ≡ map_after_take owners me prefix given
    splice_is =
        one_list changed_to [] (splice owners start end (new_part owners me prefix given)) (map_after_take owners me prefix given)
        (spliced changed_to (server_of owners) prefix (take start owners) (slice_range owners start end) (drop end owners) all (new_part owners me prefix given) s.split
        (subst (Lists (server_of owners) []) (in_three owners start end s.ordered) known) lists stands beyond)
        (taken_lists owners me prefix given p)

-- ## A search for the part

before_at : (x : List ℕ) (xs : Owners) (j : ℕ) (d : List ℕ × ℕ) → before_all x xs ≡ true → j < length xs → Before x (get_or xs j d).0
before_at x [] j d h l = absurd (omega arith)
before_at x (e ∷ xs) zero d h l = less _ (first _ _ h)
before_at x (e ∷ xs) (suc j) d h l = before_at x xs j d (second _ _ h) (omega arith)

-- of two items in order the earlier one is the same or comes before
rises : (xs : Owners) (i j : ℕ) (d : List ℕ × ℕ) → are_keys_in_order xs ≡ true → i ≤ j → j < length xs → (get_or xs i d ≡ get_or xs j d) ⊎ Before (get_or xs i d).0 (get_or xs j d).0
rises [] i j d h l m = absurd (omega arith)
rises (x ∷ xs) zero zero d h l m = inl refl
rises (x ∷ xs) zero (suc j) d h l m = inr (before_at x.0 xs j d (first _ _ h) (omega arith))
rises (x ∷ xs) (suc i) zero d h l m = absurd (omega arith)
rises (x ∷ xs) (suc i) (suc j) d h l m = rises xs i j d (second _ _ h) (omega arith) (omega arith)

In_get : {X : Type 0} (xs : List X) (i : ℕ) (d : X) → i < length xs → In (get_or xs i d) xs
In_get [] i d h = absurd (omega arith)
In_get (x ∷ xs) zero d h = inl refl
In_get (x ∷ xs) (suc i) d h = inr (In_get xs i d (omega arith))

each_In : {X : Type 0} (P : X → Type 0) (xs : List X) → ((k : ℕ) (d : X) → k < length xs → P (get_or xs k d)) → (e : X) → In e xs → P e
each_In P [] h e i = absurd i
each_In P (x ∷ xs) h e i = elim i [ inl q ↦ subst P (sym q) (h zero x (omega arith)) | inr j ↦ each_In P xs (λ k d l. h (suc k) d (omega arith)) e j ]

front_In : {X : Type 0} (P : X → Type 0) (xs : List X) (n : ℕ) → ((k : ℕ) (d : X) → k < n → P (get_or xs k d)) → (e : X) → In e (take n xs) → P e
front_In P xs zero h e i = absurd i
front_In P [] (suc n) h e i = absurd i
front_In P (x ∷ xs) (suc n) h e i = elim i [ inl q ↦ subst P (sym q) (h zero x (omega arith)) | inr j ↦ front_In P xs n (λ k d l. h (suc k) d (omega arith)) e j ]

back_In : {X : Type 0} (P : X → Type 0) (xs : List X) (n : ℕ) → ((k : ℕ) (d : X) → n ≤ k → k < length xs → P (get_or xs k d)) → (e : X) → In e (drop n xs) → P e
back_In P xs zero h e i = each_In P xs (λ k d l. h k d (omega arith) l) e i
back_In P [] (suc n) h e i = absurd i
back_In P (x ∷ xs) (suc n) h e i = back_In P xs n (λ k d l m. h (suc k) d (omega arith) (omega arith)) e i

In_back : {X : Type 0} (xs : List X) (n : ℕ) (e : X) → In e (drop n xs) → In e xs
In_back xs n e i = back_In (λ x. In x xs) xs n (λ k d l m. In_get xs k d m) e i

abbrev pub is_earlier : List ℕ → List ℕ × ℕ → Bool
is_earlier prefix e = is_lt (slice_cmp nat_cmp e.0 prefix)

abbrev pub is_begun : List ℕ → List ℕ × ℕ → Bool
is_begun prefix e = begins prefix e.0

pub earlier_parted : (owners : Owners) (prefix : List ℕ) → are_keys_in_order owners ≡ true → IsPartitionedBy (is_earlier prefix) owners
earlier_parted owners prefix h i j d l m e = elim (rises owners i j d h l m) [
  | inl q ↦ ap (is_earlier prefix) q ∙ e
  | inr b ↦ ap is_lt (nat_list_cmp_total.trans (get_or owners i d).0 (get_or owners j d).0 prefix b (less _ e))
]

-- what does not begin with the prefix, nor comes before it, comes after it
beyond_prefix : (prefix id : List ℕ) → begins prefix id ≡ false → (Before id prefix → ⊥) → Before prefix id
beyond_prefix prefix id b n =
    elim (slice_cmp nat_cmp prefix id) as (λ o. slice_cmp nat_cmp prefix id ≡ o → o ≡ Less) [
      | Less ↦ λ e. refl
      | Equal ↦ λ e. let wrong : true ≡ false = sym (begins_itself prefix) ∙ ap (begins prefix) (anti prefix id e) ∙ b in absurd (cc)
      | Greater ↦ λ e. absurd (n (nat_list_cmp_total.antisymm id prefix ∙ ap ordering_reverse e))
    ] refl

pub begun_parted : (owners : Owners) (prefix : List ℕ) → are_keys_in_order owners ≡ true → ((e : List ℕ × ℕ) → In e owners → Before e.0 prefix → ⊥) → IsPartitionedBy (is_begun prefix) owners
begun_parted owners prefix h from i j d l m e = elim (rises owners i j d h l m) [
  | inl q ↦ ap (is_begun prefix) q ∙ e
  | inr b ↦ elim (is_begun prefix (get_or owners i d)) as (λ t. is_begun prefix (get_or owners i d) ≡ t → t ≡ true) [
    | true ↦ λ t. refl
    | false ↦ λ t.
        let after : Before prefix (get_or owners i d).0 = beyond_prefix prefix (get_or owners i d).0 t (from (get_or owners i d) (In_get owners i d (omega arith))) in
        absurd (one_way (get_or owners i d).0 (get_or owners j d).0 b (behind prefix (get_or owners j d).0 (get_or owners i d).0 e after t))
  ] refl
]

module _ (owners : Owners) (prefix : List ℕ) (n : ℕ) where
  pub earlier_found : IsPartitionPoint (λ e. is_earlier prefix e ≡ true) (λ e. is_earlier prefix e ≡ false) owners n
      → ((e : List ℕ × ℕ) → In e (take n owners) → Before e.0 prefix) × ((e : List ℕ × ℕ) → In e (drop n owners) → Before e.0 prefix → ⊥)
  earlier_found p = (
    λ e i. less _ (front_In (λ x. is_earlier prefix x ≡ true) owners n (λ k d l. p.0 k d (omega arith) l) e i),
    λ e i b. let wrong : true ≡ false = sym (ap is_lt b) ∙ back_In (λ x. is_earlier prefix x ≡ false) owners n p.1 e i in absurd (cc),
  )

  pub begun_found : ((e : List ℕ × ℕ) → In e owners → Before e.0 prefix → ⊥) → IsPartitionPoint (λ e. is_begun prefix e ≡ true) (λ e. is_begun prefix e ≡ false) owners n
      → ((e : List ℕ × ℕ) → In e (take n owners) → begins prefix e.0 ≡ true) × ((e : List ℕ × ℕ) → In e (drop n owners) → Before prefix e.0 × (begins prefix e.0 ≡ false))
  begun_found from p = (
    front_In (λ x. is_begun prefix x ≡ true) owners n (λ k d l. p.0 k d (omega arith) l),
    λ e i. let b : begins prefix e.0 ≡ false = back_In (λ x. is_begun prefix x ≡ false) owners n p.1 e i in (beyond_prefix prefix e.0 b (from e (In_back owners n e i)), b),
  )

pub rest_order : (owners : Owners) (n : ℕ) → are_keys_in_order owners ≡ true → are_keys_in_order (drop n owners) ≡ true
rest_order owners n h = order_back (take n owners) (drop n owners) (ap are_keys_in_order (take-append-drop n owners) ∙ h)

pub front_order : (owners : Owners) (n : ℕ) → are_keys_in_order owners ≡ true → are_keys_in_order (take n owners) ≡ true
front_order owners n h = order_front (take n owners) (drop n owners) (ap are_keys_in_order (take-append-drop n owners) ∙ h)

-- the bounds of the part, where it starts and how long it is
pub span_is : (owners : Owners) (prefix : List ℕ) (start count : ℕ) → start ≤ length owners → count ≤ length (drop start owners)
    → ((e : List ℕ × ℕ) → In e (take start owners) → Before e.0 prefix) → ((e : List ℕ × ℕ) → In e (take count (drop start owners)) → begins prefix e.0 ≡ true)
    → ((e : List ℕ × ℕ) → In e (drop count (drop start owners)) → Before prefix e.0 × (begins prefix e.0 ≡ false)) → IsSpan owners prefix start (start + count)
span_is owners prefix start count within_all within_rest earlier inside later = record {
  ordered = omega arith;
  within = (let l = length-drop start owners in omega arith);
  split = record {
    earlier = earlier;
    inside = λ e i. inside e (subst (λ n. In e (take n (drop start owners))) len i);
    later = λ e i. later e (subst (In e) (sym (drop-drop count start owners)) i);
  };
}
  where
    len : (start + count) - start ≡ count
    len = omega arith

-- the new part, behind the list, in the place of the old one
pub readied : (owners : Owners) (me : ℕ) (prefix : List ℕ) (given : Keyed Bool) → IsMap owners → IsPiece prefix given → (listed : Owners) → listed ≡ owners → (numbers : List ℕ) → numbers ≡ prefix → (start end : ℕ) → IsSpan listed numbers start end
    → (new old part : Owners) → new ≡ old ++ part → old ≡ owners → part ≡ new_part listed me prefix given → with_part_replaced new start end (length listed) ≡ map_after_take owners me prefix given
readied owners me prefix given m p listed same numbers is start end s new old part put before made =
    let span : IsSpan owners prefix start end = subst (λ n. IsSpan owners n start end) is (subst (λ o. IsSpan o numbers start end) same s) in
    let whole : new ≡ owners ++ part = put ∙ ap (λ o. o ++ part) before in
    let size : length owners ≡ length listed = sym (ap length same) in
    ap (λ l. with_part_replaced l start end (length listed)) whole
    ∙ ap (λ o. splice o start end (drop (length listed) (owners ++ part))) (take_at owners part (length listed) size)
    ∙ ap (splice owners start end) (drop_at owners part (length listed) size ∙ made ∙ ap (λ o. new_part o me prefix given) same)
    ∙ splice_is owners me prefix given p m start end span

-- ## What is given

module _ (owners : Owners) (me : ℕ) (prefix : List ℕ) (given : Keyed Bool) where
  abbrev shows : List ℕ → Bool
  shows id = gives prefix given id && (server_of owners id == me)

  abbrev pub shown : {V : Type 0} → Keyed V → Bool
  shown listed = list_any shows (places_of listed)

  -- what does not begin with the prefix is not given
  none_shown : (xs : Owners) → ((e : List ℕ × ℕ) → In e xs → begins prefix e.0 ≡ false) → shown xs ≡ false
  none_shown [] h = refl
  none_shown (e ∷ xs) h =
      ap (λ b. ((b && (unwrap_or (told_of given e.0) false)) && (server_of owners e.0 == me)) || shown xs) (h e (inl refl))
      ∙ none_shown xs (λ d i. h d (inr i))

  shown_both : (xs ys : Owners) → shown (xs ++ ys) ≡ (shown xs || shown ys)
  shown_both xs ys = ap (list_any shows) (map-append (λ e. e.0) xs ys) ∙ list_any-append shows (places_of xs) (places_of ys)

  -- so of the map's places those of the part tell all
  pub shown_within : (start end : ℕ) → IsSpan owners prefix start end → (here : Bool) → here ≡ shown (slice_range owners start end) → (here || shown given) ≡ owns_given owners me prefix given
  shown_within start end s here is =
      let before = take start owners in
      let part = slice_range owners start end in
      let later = drop end owners in
      let none_before : shown before ≡ false = none_shown before (λ e i. not_before e.0 (s.split.earlier e i)) in
      let none_later : shown later ≡ false = none_shown later (λ e i. (s.split.later e i).1) in
      let all : shown owners ≡ shown part =
      ap (λ xs. shown xs) (in_three owners start end s.ordered) ∙ shown_both before (part ++ later) ∙ ap (λ b. b || shown (part ++ later)) none_before
      ∙ shown_both part later ∙ ap (λ b. shown part || b) none_later ∙ or-false (shown part) in
      ap (λ b. b || shown given) (is ∙ sym all) ∙ sym (list_any-append shows (places_of owners) (places_of given))
    where
      not_before : (id : List ℕ) → Before id prefix → begins prefix id ≡ false
      not_before id l = elim (begins prefix id) as (λ b. begins prefix id ≡ b → b ≡ false) [ true ↦ λ b. absurd (not_begun prefix id l b) | false ↦ λ b. refl ] refl
