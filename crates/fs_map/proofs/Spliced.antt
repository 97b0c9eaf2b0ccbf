-- The list of a function of which the part from a prefix on has changed.
use Rattle.std.proofs.Common.{◌≡◌, ◌≢◌, ◌∙◌, ℕ, true, false, List, [], ◌∷◌, ◌++◌, refl, ap, sym, inl, inr, cond, subst}
use Rattle.std.specs.Prelude.{Option, Some, None, ◌&&◌, nat_eq}
use Rattle.std.specs.Ordering.{nat_cmp, is_lt, ordering_then}
use Rattle.std.specs.FinMap.{nat_cmp-IsAntisymmetric}
use Rattle.std.specs.Cmp.Lexicographic.{slice_cmp, nat_list_cmp_total}
use Rattle.std.specs.declared.cmp.Ordering.TheVariants.{Less, Equal, Greater}
use Rattle.fs_ident.specs.In.{In}
use Rattle.fs_ident.specs.Ordered.{Keyed, are_keys_in_order}
use Rattle.fs_ident.proofs.Booleans.{first, second, joined}
use Rattle.fs_ident.proofs.Standing.{In-append}
use Rattle.fs_map.specs.Map.{begins, or_before}
use Rattle.fs_map.specs.Change.{at, before_all, front}
use Rattle.fs_map.specs.Part.{IsSplit}
use Rattle.fs_map.proofs.Prefixes.{begins_itself, itself_or_above, begins_below, begins_nothing, prefix_first, above_differs, both_ways, begins_above, number_is, number_itself}
use Rattle.fs_map.proofs.Found.{Before, tied, tied_is, tied_self, apart, one_way, found_In, In_found}
use Rattle.fs_map.proofs.Listing.{Lists}

-- ## Lists one behind the other

first_alone : {X : Type 0} (o p : Option X) → p ≡ None → or_before o p ≡ o
first_alone (Some x) p e = refl
first_alone None p e = e

at_append : {V : Type 0} (id : List ℕ) (xs ys : Keyed V) → at id (xs ++ ys) ≡ or_before (at id xs) (at id ys)
at_append id [] ys = refl
at_append id (x ∷ xs) ys = elim (tied id x.0) as (λ b. cond b (Some x.1) (at id (xs ++ ys)) ≡ or_before (cond b (Some x.1) (at id xs)) (at id ys)) [ true ↦ refl | false ↦ at_append id xs ys ]

pub absent : {V : Type 0} (id : List ℕ) (xs : Keyed V) → ((e : List ℕ × V) → In e xs → id ≡ e.0 → ⊥) → at id xs ≡ None
absent id xs h = elim (at id xs) as (λ o. at id xs ≡ o → o ≡ None) [
  | None ↦ λ e. refl
  | Some v ↦ λ e. absurd (h (id, v) (found_In id v xs e) refl)
] refl

before_both : {V : Type 0} (x : List ℕ) (xs ys : Keyed V) → before_all x xs ≡ true → ((e : List ℕ × V) → In e ys → Before x e.0) → before_all x (xs ++ ys) ≡ true
before_both x [] [] h k = refl
before_both x [] (y ∷ ys) h k = joined _ _ (ap is_lt (k y (inl refl))) (before_both x [] ys refl (λ e i. k e (inr i)))
before_both x (e ∷ xs) ys h k = joined _ _ (first _ _ h) (before_both x xs ys (second _ _ h) k)

pub order_both : {V : Type 0} (xs ys : Keyed V) → are_keys_in_order xs ≡ true → are_keys_in_order ys ≡ true → ((d e : List ℕ × V) → In d xs → In e ys → Before d.0 e.0) → are_keys_in_order (xs ++ ys) ≡ true
order_both [] ys h k a = k
order_both (x ∷ xs) ys h k a = joined _ _ (before_both x.0 xs ys (first _ _ h) (λ e i. a x e (inl refl) i)) (order_both xs ys (second _ _ h) k (λ d e i j. a d e (inr i) j))

before_front : {V : Type 0} (x : List ℕ) (xs ys : Keyed V) → before_all x (xs ++ ys) ≡ true → before_all x xs ≡ true
before_front x [] ys h = refl
before_front x (e ∷ xs) ys h = joined _ _ (first _ _ h) (before_front x xs ys (second _ _ h))

pub order_front : {V : Type 0} (xs ys : Keyed V) → are_keys_in_order (xs ++ ys) ≡ true → are_keys_in_order xs ≡ true
order_front [] ys h = refl
order_front (x ∷ xs) ys h = joined _ _ (before_front x.0 xs ys (first _ _ h)) (order_front xs ys (second _ _ h))

pub order_back : {V : Type 0} (xs ys : Keyed V) → are_keys_in_order (xs ++ ys) ≡ true → are_keys_in_order ys ≡ true
order_back [] ys h = h
order_back (x ∷ xs) ys h = order_back xs ys (second _ _ h)

-- ## Behind a prefix

-- what is behind a prefix and does not begin with it is behind all that do
pub behind : (p q r : List ℕ) → begins p q ≡ true → Before p r → begins p r ≡ false → Before q r
behind [] q r b l n = absurd (cc)
behind (x ∷ p) [] r b l n = absurd (cc)
behind (x ∷ p) (y ∷ q) [] b l n = absurd (cc)
behind (x ∷ p) (y ∷ q) (z ∷ r) b l n =
    let same : x ≡ y = number_is x y (first _ _ b) in
    elim (nat_cmp x z) as (λ o. nat_cmp x z ≡ o → ordering_then o (slice_cmp nat_cmp p r) ≡ Less → Before (y ∷ q) (z ∷ r)) [
      | Less ↦ λ e _. ap (λ o. ordering_then o (slice_cmp nat_cmp q r)) (ap (λ m. nat_cmp m z) (sym same) ∙ e)
      | Equal ↦ λ e m.
          let tied_too : nat_eq x z ≡ true = ap (nat_eq x) (sym (nat_cmp-IsAntisymmetric x z e)) ∙ number_itself x in
          let rest : begins p r ≡ false = ap (λ t. t && begins p r) (sym tied_too) ∙ n in
          ap (λ o. ordering_then o (slice_cmp nat_cmp q r)) (ap (λ m. nat_cmp m z) (sym same) ∙ e) ∙ behind p q r (second _ _ b) m rest
      | Greater ↦ λ e m. absurd (cc)
    ] refl l

-- a prefix is none of what comes before it
pub not_begun : (p q : List ℕ) → Before q p → begins p q ≡ true → ⊥
not_begun p q l b = elim (prefix_first p q b) [ inl e ↦ apart q p l (sym e) | inr m ↦ one_way q p l m ]

module _ {V : Type 0} (prefix : List ℕ) (before part later : Keyed V) (s : IsSplit prefix before part later) where
  none_before : (id : List ℕ) → begins prefix id ≡ true → at id before ≡ None
  none_before id b = absent id before (λ e i q. not_begun prefix e.0 (s.earlier e i) (subst (λ x. begins prefix x ≡ true) q b))

  none_later : (id : List ℕ) → begins prefix id ≡ true → at id later ≡ None
  none_later id b = absent id later (λ e i q. let wrong : true ≡ false = sym b ∙ ap (begins prefix) q ∙ (s.later e i).1 in absurd (cc))

  none_inside : (id : List ℕ) → begins prefix id ≡ false → at id part ≡ None
  none_inside id b = absent id part (λ e i q. let wrong : false ≡ true = sym b ∙ ap (begins prefix) q ∙ s.inside e i in absurd (cc))

  -- what begins with the prefix is in the part, and all else is not
  pub within : (id : List ℕ) → begins prefix id ≡ true → at id (before ++ (part ++ later)) ≡ at id part
  within id b =
      at_append id before (part ++ later) ∙ ap (λ o. or_before o (at id (part ++ later))) (none_before id b)
      ∙ at_append id part later ∙ first_alone (at id part) (at id later) (none_later id b)

  pub beside : (id : List ℕ) → begins prefix id ≡ false → at id (before ++ (part ++ later)) ≡ at id (before ++ later)
  beside id b =
      at_append id before (part ++ later) ∙ ap (or_before (at id before)) (at_append id part later ∙ ap (λ o. or_before o (at id later)) (none_inside id b))
      ∙ sym (at_append id before later)

-- ## What stands in the place of the part

-- the list of the function from the prefix on, where the prefix itself is left out if the place above it tells the same
pub record Stands {V : Type 0} (f : List ℕ → V) (prefix : List ℕ) (new part : Keyed V) : Type 0 where
  pub order : are_keys_in_order part ≡ true
  pub same : (id : List ℕ) → (id ≡ prefix → ⊥) → at id part ≡ at id new
  pub value : (v : V) → at prefix part ≡ Some v → v ≡ f prefix
  pub root : prefix ≡ [] → at prefix part ≡ Some (f prefix)
  pub differs : (n : ℕ) (ns : List ℕ) (v : V) → n ∷ ns ≡ prefix → at prefix part ≡ Some v → f (front n ns) ≢ f (n ∷ ns)
  pub alike : (n : ℕ) (ns : List ℕ) → n ∷ ns ≡ prefix → at prefix part ≡ None → f (n ∷ ns) ≡ f (front n ns)

module _ {V : Type 0} (f g : List ℕ → V) (prefix : List ℕ) (before old later new part : Keyed V)
    (s : IsSplit prefix before old later) (l : Lists g [] (before ++ (old ++ later))) (p : Lists f prefix new) (k : Stands f prefix new part)
    (other : (id : List ℕ) → begins prefix id ≡ false → f id ≡ g id) where
  below_part : (id : List ℕ) (v : V) → at id part ≡ Some v → begins prefix id ≡ true
  below_part id v h =
      elim (tied id prefix) as (λ t. tied id prefix ≡ t → begins prefix id ≡ true) [
        | true ↦ λ t. subst (λ x. begins prefix x ≡ true) (sym (tied_is id prefix t)) (begins_itself prefix)
        | false ↦ λ t. p.sound.below id v (sym (k.same id (λ e. let wrong : true ≡ false = sym (tied_self id) ∙ ap (tied id) e ∙ t in absurd (cc))) ∙ h)
      ] refl

  In_part : (e : List ℕ × V) → In e part → begins prefix e.0 ≡ true
  In_part e i = below_part e.0 e.1 (In_found e part k.order i)

  abbrev whole : Keyed V
  whole = before ++ (part ++ later)

  split : IsSplit prefix before part later
  split = record { earlier = s.earlier; inside = In_part; later = s.later }

  -- from the prefix on it is the part, and elsewhere what it was
  here : (id : List ℕ) → begins prefix id ≡ true → at id whole ≡ at id part
  here id b = within prefix before part later split id b

  elsewhere : (id : List ℕ) → begins prefix id ≡ false → at id whole ≡ at id (before ++ (old ++ later))
  elsewhere id b = beside prefix before part later split id b ∙ sym (beside prefix before old later s id b)

  whole_order : are_keys_in_order whole ≡ true
  whole_order =
      order_both before (part ++ later) (order_front before (old ++ later) l.sound.ordered)
      (order_both part later k.order (order_back old later (order_back before (old ++ later) l.sound.ordered)) (λ d e i j. behind prefix d.0 e.0 (In_part d i) (s.later e j).0 (s.later e j).1))
      (λ d e i j. elim (In-append e part later j) [
        | inl m ↦ elim (prefix_first prefix e.0 (In_part e m)) [ inl q ↦ subst (Before d.0) q (s.earlier d i) | inr q ↦ nat_list_cmp_total.trans d.0 prefix e.0 (s.earlier d i) q ]
        | inr m ↦ nat_list_cmp_total.trans d.0 prefix e.0 (s.earlier d i) (s.later e m).0
      ])

  is_top : (n : ℕ) (ns : List ℕ) → begins prefix (front n ns) ≡ true → n ∷ ns ≡ prefix → ⊥
  is_top n ns b e = above_differs n ns (both_ways (front n ns) (n ∷ ns) (begins_above n ns) (subst (λ x. begins x (front n ns) ≡ true) (sym e) b))

  not_above : (n : ℕ) (ns : List ℕ) → begins prefix (n ∷ ns) ≡ false → begins prefix (front n ns) ≡ false
  not_above n ns h = elim (begins prefix (front n ns)) as (λ b. begins prefix (front n ns) ≡ b → b ≡ false) [
    | true ↦ λ b. let wrong : true ≡ false = sym (begins_below prefix n ns b) ∙ h in absurd (cc)
    | false ↦ λ b. refl
  ] refl

  cases : {Q : Type 0} (id : List ℕ) → (begins prefix id ≡ true → Q) → (begins prefix id ≡ false → Q) → Q
  cases {Q} id has lacks = elim (begins prefix id) as (λ b. begins prefix id ≡ b → Q) [ true ↦ has | false ↦ lacks ] refl

  root_there : at [] whole ≡ Some (f [])
  root_there = cases []
      (λ b. let e : prefix ≡ [] = begins_nothing prefix b in here [] b ∙ ap (λ x. at x part) (sym e) ∙ k.root e ∙ ap (λ x. Some (f x)) e)
      (λ b. elsewhere [] b ∙ l.sound.topmost ∙ ap Some (sym (other [] b)))

  its_value : (id : List ℕ) (v : V) → begins prefix id ≡ true → at id part ≡ Some v → v ≡ f id
  its_value id v b h =
      elim (tied id prefix) as (λ t. tied id prefix ≡ t → v ≡ f id) [
        | true ↦ λ t. k.value v (ap (λ x. at x part) (sym (tied_is id prefix t)) ∙ h) ∙ ap f (sym (tied_is id prefix t))
        | false ↦ λ t. p.sound.told id v (sym (k.same id (λ e. let wrong : true ≡ false = sym (tied_self id) ∙ ap (tied id) e ∙ t in absurd (cc))) ∙ h)
      ] refl

  parts_differ : (n : ℕ) (ns : List ℕ) (v : V) → begins prefix (n ∷ ns) ≡ true → at (n ∷ ns) part ≡ Some v → f (front n ns) ≢ v
  parts_differ n ns v b h = elim (itself_or_above prefix n ns b) [
    | inl e ↦ let there : at prefix part ≡ Some v = ap (λ x. at x part) e ∙ h in (λ q. k.differs n ns v (sym e) there (q ∙ its_value (n ∷ ns) v b h))
    | inr c ↦ p.sound.differs n ns v (sym (k.same (n ∷ ns) (is_top n ns c)) ∙ h) c
  ]

  parts_alike : (n : ℕ) (ns : List ℕ) → begins prefix (n ∷ ns) ≡ true → at (n ∷ ns) part ≡ None → f (n ∷ ns) ≡ f (front n ns)
  parts_alike n ns b h = elim (itself_or_above prefix n ns b) [
    | inl e ↦ k.alike n ns (sym e) (ap (λ x. at x part) e ∙ h)
    | inr c ↦ p.whole n ns (sym (k.same (n ∷ ns) (is_top n ns c)) ∙ h) c
  ]

  pub spliced : Lists f [] (before ++ (part ++ later))
  spliced = record {
    sound = record {
      ordered = whole_order;
      topmost = root_there;
      told = λ id v h. cases id (λ b. its_value id v b (sym (here id b) ∙ h)) (λ b. l.sound.told id v (sym (elsewhere id b) ∙ h) ∙ sym (other id b));
      below = λ id v h. refl;
      differs = λ n ns v h _. cases (n ∷ ns)
          (λ b. parts_differ n ns v b (sym (here (n ∷ ns) b) ∙ h))
          (λ b. (λ e. l.sound.differs n ns v (sym (elsewhere (n ∷ ns) b) ∙ h) refl (sym (other (front n ns) (not_above n ns b)) ∙ e)));
    };
    whole = λ n ns h _. cases (n ∷ ns)
        (λ b. parts_alike n ns b (sym (here (n ∷ ns) b) ∙ h))
        (λ b. other (n ∷ ns) b ∙ l.whole n ns (sym (elsewhere (n ∷ ns) b) ∙ h) refl ∙ sym (other (front n ns) (not_above n ns b)));
  }
