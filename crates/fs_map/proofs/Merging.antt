-- Places in order, taken off one by one, and what has been listed of them so far.
use Rattle.std.proofs.Common.{◌≡◌, ◌≢◌, ◌∙◌, ◌⊎◌, ℕ, true, false, List, [], ◌∷◌, ◌++◌, refl, ap, sym, length, inl, inr, arith, cond, subst}
use Rattle.std.specs.Prelude.{Some, None}
use Rattle.std.specs.Ordering.{nat_cmp, is_lt, ordering_reverse}
use Rattle.std.specs.Cmp.Lexicographic.{slice_cmp, nat_list_cmp_total}
use Rattle.std.specs.FinMap.Entries.{find-append}
use Rattle.std.specs.declared.cmp.Ordering.TheVariants.{Less, Equal, Greater}
use Rattle.fs_ident.specs.In.{In}
use Rattle.fs_ident.specs.Ordered.{Keyed, are_keys_in_order}
use Rattle.fs_ident.proofs.Booleans.{first, second, joined, less}
use Rattle.fs_ident.proofs.MapsOf.{anti}
use Rattle.fs_map.specs.Map.{begins}
use Rattle.fs_map.specs.Change.{at, before_all, front, IsNext}
use Rattle.fs_map.proofs.Prefixes.{begins_itself, begins_above, begins_below, above_differs, both_ways, prefix_first}
use Rattle.fs_map.proofs.Found.{Before, tied, tied_is, tied_self, apart, In_found}
use Rattle.fs_map.proofs.Listing.{Sound, Lists, some_is}

-- the places so far are listed, and these are left
pub record IsListedSoFar {V A B : Type 0} (f : List ℕ → V) (top : List ℕ) (listed : Keyed V) (old : Keyed A) (new : Keyed B) : Type 0 where
  pub sound : Sound f top listed
  pub behind : (id : List ℕ) (v : V) → at id listed ≡ Some v → (id ≡ top) ⊎ ((before_all id old ≡ true) × (before_all id new ≡ true))
  pub whole : (n : ℕ) (ns : List ℕ) → at (n ∷ ns) listed ≡ None → at (n ∷ ns) old ≡ None → at (n ∷ ns) new ≡ None → begins top (front n ns) ≡ true → f (n ∷ ns) ≡ f (front n ns)

-- ## The next place

skipped : {V : Type 0} (id : List ℕ) (e : List ℕ × V) (es : Keyed V) → (id ≡ e.0 → ⊥) → at id es ≡ None → at id (e ∷ es) ≡ None
skipped id e es other h = elim (tied id e.0) as (λ b. tied id e.0 ≡ b → cond b (Some e.1) (at id es) ≡ None) [
  | true ↦ λ t. absurd (other (tied_is id e.0 t))
  | false ↦ λ t. h
] refl

-- a key is before all that another is before
pub before_through : {V : Type 0} (a b : List ℕ) (es : Keyed V) → Before a b → before_all b es ≡ true → before_all a es ≡ true
before_through a b [] l h = refl
before_through a b (e ∷ es) l h = joined _ _ (ap is_lt (nat_list_cmp_total.trans a b e.0 l (less _ (first _ _ h)))) (before_through a b es l (second _ _ h))

before_more : {V : Type 0} (a : List ℕ) (e : List ℕ × V) (es : Keyed V) → Before a e.0 → before_all e.0 es ≡ true → before_all a (e ∷ es) ≡ true
before_more a e es l h = joined _ _ (ap is_lt l) (before_through a e.0 es l h)

pub next_old : {A B : Type 0} (e : List ℕ × A) (es : Keyed A) (new : Keyed B) → are_keys_in_order (e ∷ es) ≡ true → are_keys_in_order new ≡ true → before_all e.0 new ≡ true → IsNext (e ∷ es) new e.0 es new
next_old e es new h k b = record {
  passed = λ id p q. (less _ (first _ _ p), second _ _ p, q);
  old_after = first _ _ h;
  new_after = b;
  old_left = λ id other n. skipped id e es other n;
  new_left = λ id other n. n;
  old_order = second _ _ h;
  new_order = k;
  fewer = omega arith;
}

pub next_new : {A B : Type 0} (old : Keyed A) (e : List ℕ × B) (es : Keyed B) → are_keys_in_order old ≡ true → are_keys_in_order (e ∷ es) ≡ true → before_all e.0 old ≡ true → IsNext old (e ∷ es) e.0 old es
next_new old e es h k b = record {
  passed = λ id p q. (less _ (first _ _ q), p, second _ _ q);
  old_after = b;
  new_after = first _ _ k;
  old_left = λ id other n. n;
  new_left = λ id other n. skipped id e es other n;
  old_order = h;
  new_order = second _ _ k;
  fewer = omega arith;
}

pub next_both : {A B : Type 0} (d : List ℕ × A) (ds : Keyed A) (e : List ℕ × B) (es : Keyed B) → are_keys_in_order (d ∷ ds) ≡ true → are_keys_in_order (e ∷ es) ≡ true → d.0 ≡ e.0 → IsNext (d ∷ ds) (e ∷ es) d.0 ds es
next_both d ds e es h k same = record {
  passed = λ id p q. (less _ (first _ _ p), second _ _ p, second _ _ q);
  old_after = first _ _ h;
  new_after = subst (λ x. before_all x es ≡ true) (sym same) (first _ _ k);
  old_left = λ id other n. skipped id d ds other n;
  new_left = λ id other n. skipped id e es (λ q. other (q ∙ sym same)) n;
  old_order = second _ _ h;
  new_order = second _ _ k;
  fewer = omega arith;
}

-- the lesser of two first keys
pub next_lesser : {A B : Type 0} (d : List ℕ × A) (ds : Keyed A) (e : List ℕ × B) (es : Keyed B) → are_keys_in_order (d ∷ ds) ≡ true → are_keys_in_order (e ∷ es) ≡ true → slice_cmp nat_cmp d.0 e.0 ≡ Less → IsNext (d ∷ ds) (e ∷ es) d.0 ds (e ∷ es)
next_lesser d ds e es h k l = next_old d ds (e ∷ es) h k (before_more d.0 e es l (first _ _ k))

pub next_greater : {A B : Type 0} (d : List ℕ × A) (ds : Keyed A) (e : List ℕ × B) (es : Keyed B) → are_keys_in_order (d ∷ ds) ≡ true → are_keys_in_order (e ∷ es) ≡ true → slice_cmp nat_cmp d.0 e.0 ≡ Greater → IsNext (d ∷ ds) (e ∷ es) e.0 (d ∷ ds) es
next_greater d ds e es h k g =
    let l : Before e.0 d.0 = nat_list_cmp_total.antisymm e.0 d.0 ∙ ap ordering_reverse g in
    next_new (d ∷ ds) e es h k (before_more e.0 d ds l (first _ _ h))

pub next_tied : {A B : Type 0} (d : List ℕ × A) (ds : Keyed A) (e : List ℕ × B) (es : Keyed B) → are_keys_in_order (d ∷ ds) ≡ true → are_keys_in_order (e ∷ es) ≡ true → slice_cmp nat_cmp d.0 e.0 ≡ Equal → IsNext (d ∷ ds) (e ∷ es) d.0 ds es
next_tied d ds e es h k t = next_both d ds e es h k (anti d.0 e.0 t)

-- the same of lists that are split

pub empty : {X : Type 0} (l : List X) → length l ≡ 0 → l ≡ []
empty [] h = refl
empty (x ∷ xs) h = absurd (omega arith)

pub only_old : {A B : Type 0} (old : Keyed A) (new : Keyed B) (d : List ℕ × A) (ds : Keyed A) → old ≡ d ∷ ds → new ≡ [] → are_keys_in_order old ≡ true → IsNext old new d.0 ds new
only_old old new d ds p q h =
    subst (λ l. IsNext l new d.0 ds new) (sym p) (subst (λ l. IsNext (d ∷ ds) l d.0 ds l) (sym q) (next_old d ds [] (ap are_keys_in_order (sym p) ∙ h) refl refl))

pub only_new : {A B : Type 0} (old : Keyed A) (new : Keyed B) (e : List ℕ × B) (es : Keyed B) → old ≡ [] → new ≡ e ∷ es → are_keys_in_order new ≡ true → IsNext old new e.0 old es
only_new old new e es p q k =
    subst (λ l. IsNext old l e.0 old es) (sym q) (subst (λ l. IsNext l (e ∷ es) e.0 l es) (sym p) (next_new [] e es refl (ap are_keys_in_order (sym q) ∙ k) refl))

module _ {A B : Type 0} (old : Keyed A) (new : Keyed B) (d : List ℕ × A) (ds : Keyed A) (e : List ℕ × B) (es : Keyed B) (p : old ≡ d ∷ ds) (q : new ≡ e ∷ es) (h : are_keys_in_order old ≡ true) (k : are_keys_in_order new ≡ true) where
  old_order : are_keys_in_order (d ∷ ds) ≡ true
  old_order = ap are_keys_in_order (sym p) ∙ h

  new_order : are_keys_in_order (e ∷ es) ≡ true
  new_order = ap are_keys_in_order (sym q) ∙ k

  pub lesser : slice_cmp nat_cmp d.0 e.0 ≡ Less → IsNext old new d.0 ds new
  lesser l = subst (λ a. IsNext a new d.0 ds new) (sym p) (subst (λ b. IsNext (d ∷ ds) b d.0 ds b) (sym q) (next_lesser d ds e es old_order new_order l))

  pub alike : slice_cmp nat_cmp d.0 e.0 ≡ Equal → IsNext old new d.0 ds es
  alike t = subst (λ a. IsNext a new d.0 ds es) (sym p) (subst (λ b. IsNext (d ∷ ds) b d.0 ds es) (sym q) (next_tied d ds e es old_order new_order t))

  pub greater : slice_cmp nat_cmp d.0 e.0 ≡ Greater → IsNext old new e.0 old es
  greater g = subst (λ b. IsNext old b e.0 old es) (sym q) (subst (λ a. IsNext a (e ∷ es) e.0 a es) (sym p) (next_greater d ds e es old_order new_order g))

-- ## From the top to the end

alone : {V : Type 0} (top : List ℕ) (x : V) (id : List ℕ) (v : V) → at id ((top, x) ∷ []) ≡ Some v → (id ≡ top) × (x ≡ v)
alone top x id v h = elim (tied id top) as (λ b. tied id top ≡ b → cond b (Some x) None ≡ Some v → (id ≡ top) × (x ≡ v)) [
  | true ↦ λ t g. (tied_is id top t, some_is g)
  | false ↦ λ t g. absurd (cc)
] refl h

pub begun : {V A B : Type 0} (f : List ℕ → V) (top : List ℕ) (old : Keyed A) (new : Keyed B)
    → ((n : ℕ) (ns : List ℕ) → at (n ∷ ns) old ≡ None → at (n ∷ ns) new ≡ None → begins top (front n ns) ≡ true → f (n ∷ ns) ≡ f (front n ns))
    → IsListedSoFar f top ((top, f top) ∷ []) old new
begun {V} f top old new same = record {
  sound = record {
    ordered = refl;
    topmost = ap (λ b. cond b (Some (f top)) None) (tied_self top);
    told = λ id v h. let q = alone top (f top) id v h in sym q.1 ∙ ap f (sym q.0);
    below = λ id v h. let q = alone top (f top) id v h in subst (λ x. begins top x ≡ true) (sym q.0) (begins_itself top);
    differs = λ n ns v h b e. let q = alone top (f top) (n ∷ ns) v h in
        above_differs n ns (both_ways (front n ns) (n ∷ ns) (begins_above n ns) (subst (λ x. begins x (front n ns) ≡ true) (sym q.0) b));
  };
  behind = λ id v h. inl (alone top (f top) id v h).0;
  whole = λ n ns h p q b. same n ns p q b;
}

pub ended : {V A B : Type 0} (f : List ℕ → V) (top : List ℕ) (listed : Keyed V) → IsListedSoFar {V = V} {A = A} {B = B} f top listed [] [] → Lists f top listed
ended f top listed s = record { sound = s.sound; whole = λ n ns h b. s.whole n ns h refl refl b }

-- ## One place

still_before : {V : Type 0} (x : List ℕ) (es : Keyed V) (e : List ℕ × V) → before_all x es ≡ true → Before x e.0 → before_all x (es ++ e ∷ []) ≡ true
still_before x [] e h l = joined _ _ (ap is_lt l) refl
still_before x (d ∷ ds) e h l = joined _ _ (first _ _ h) (still_before x ds e (second _ _ h) l)

still_ordered : {V : Type 0} (es : Keyed V) (e : List ℕ × V) → are_keys_in_order es ≡ true → ((d : List ℕ × V) → In d es → Before d.0 e.0) → are_keys_in_order (es ++ e ∷ []) ≡ true
still_ordered [] e h all = refl
still_ordered (d ∷ ds) e h all = joined _ _ (still_before d.0 ds e (first _ _ h) (all d (inl refl))) (still_ordered ds e (second _ _ h) (λ x i. all x (inr i)))

module _ {V A B : Type 0} (f : List ℕ → V) (top : List ℕ) (listed : Keyed V) (old : Keyed A) (new : Keyed B) (place : List ℕ) (old_rest : Keyed A) (new_rest : Keyed B)
    (s : IsListedSoFar f top listed old new) (next : IsNext old new place old_rest new_rest) where
  -- the place tells what the one above it does, or is not below the top
  pub left_out : ((n : ℕ) (ns : List ℕ) → place ≡ n ∷ ns → begins top (front n ns) ≡ true → f (n ∷ ns) ≡ f (front n ns)) → IsListedSoFar f top listed old_rest new_rest
  left_out same = record {
    sound = s.sound;
    behind = λ id v h. elim (s.behind id v h) [ inl e ↦ inl e | inr b ↦ let q = next.passed id b.0 b.1 in inr (q.1, q.2) ];
    whole = whole;
  }
    where
      whole : (n : ℕ) (ns : List ℕ) → at (n ∷ ns) listed ≡ None → at (n ∷ ns) old_rest ≡ None → at (n ∷ ns) new_rest ≡ None → begins top (front n ns) ≡ true → f (n ∷ ns) ≡ f (front n ns)
      whole n ns h p q b =
          elim (tied (n ∷ ns) place) as (λ t. tied (n ∷ ns) place ≡ t → f (n ∷ ns) ≡ f (front n ns)) [
            | true ↦ λ t. same n ns (sym (tied_is (n ∷ ns) place t)) b
            | false ↦ λ t. let other : n ∷ ns ≡ place → ⊥ = (λ e. let wrong : true ≡ false = sym (tied_self (n ∷ ns)) ∙ ap (tied (n ∷ ns)) e ∙ t in absurd (cc)) in
                s.whole n ns h (next.old_left (n ∷ ns) other p) (next.new_left (n ∷ ns) other q) b
          ] refl

  -- the place differs from the one above it
  module _ (n : ℕ) (ns : List ℕ) (is : place ≡ n ∷ ns) (b : begins top (front n ns) ≡ true) (d : f (front n ns) ≢ f (n ∷ ns)) where
    abbrev pub more : Keyed V
    more = listed ++ (n ∷ ns, f (n ∷ ns)) ∷ []

    below_top : begins top (n ∷ ns) ≡ true
    below_top = begins_below top n ns b

    not_top : top ≡ n ∷ ns → ⊥
    not_top e = above_differs n ns (both_ways (front n ns) (n ∷ ns) (begins_above n ns) (subst (λ x. begins x (front n ns) ≡ true) e b))

    before_place : (id : List ℕ) (v : V) → at id listed ≡ Some v → Before id (n ∷ ns)
    before_place id v h = elim (s.behind id v h) [
      | inl e ↦ elim (prefix_first top (n ∷ ns) below_top) [ inl q ↦ absurd (not_top q) | inr l ↦ subst (λ x. Before x (n ∷ ns)) (sym e) l ]
      | inr q ↦ subst (Before id) is (next.passed id q.0 q.1).0
    ]

    absent : at (n ∷ ns) listed ≡ None
    absent = elim (at (n ∷ ns) listed) as (λ o. at (n ∷ ns) listed ≡ o → o ≡ None) [
      | None ↦ λ h. refl
      | Some v ↦ λ h. absurd (apart (n ∷ ns) (n ∷ ns) (before_place (n ∷ ns) v h) refl)
    ] refl

    found : (id : List ℕ) → at id more ≡ cond (tied id (n ∷ ns)) (Some (f (n ∷ ns))) (at id listed)
    found id = find-append (slice_cmp nat_cmp) nat_list_cmp_total listed (n ∷ ns) (f (n ∷ ns)) id absent

    either : (id : List ℕ) (v : V) → at id more ≡ Some v → ((id ≡ n ∷ ns) × (f (n ∷ ns) ≡ v)) ⊎ (at id listed ≡ Some v)
    either id v h = elim (tied id (n ∷ ns)) as (λ t. tied id (n ∷ ns) ≡ t → cond t (Some (f (n ∷ ns))) (at id listed) ≡ Some v → ((id ≡ n ∷ ns) × (f (n ∷ ns) ≡ v)) ⊎ (at id listed ≡ Some v)) [
      | true ↦ λ t g. inl (tied_is id (n ∷ ns) t, some_is g)
      | false ↦ λ t g. inr g
    ] refl (sym (found id) ∙ h)

    not_found : (id : List ℕ) → at id more ≡ None → (at id listed ≡ None) × (id ≡ n ∷ ns → ⊥)
    not_found id h = elim (tied id (n ∷ ns)) as (λ t. tied id (n ∷ ns) ≡ t → cond t (Some (f (n ∷ ns))) (at id listed) ≡ None → (at id listed ≡ None) × (id ≡ n ∷ ns → ⊥)) [
      | true ↦ λ t g. absurd (cc)
      | false ↦ λ t g. (g, λ e. let wrong : true ≡ false = sym (tied_self id) ∙ ap (tied id) e ∙ t in absurd (cc))
    ] refl (sym (found id) ∙ h)

    still_sound : Sound f top more
    still_sound = record {
      ordered = still_ordered listed (n ∷ ns, f (n ∷ ns)) s.sound.ordered (λ e i. before_place e.0 e.1 (In_found e listed s.sound.ordered i));
      topmost = found top ∙ elim (tied top (n ∷ ns)) as (λ t. tied top (n ∷ ns) ≡ t → cond t (Some (f (n ∷ ns))) (at top listed) ≡ Some (f top)) [
        | true ↦ λ t. absurd (not_top (tied_is top (n ∷ ns) t))
        | false ↦ λ t. s.sound.topmost
      ] refl;
      told = λ id v h. elim (either id v h) [ inl q ↦ sym q.1 ∙ ap f (sym q.0) | inr g ↦ s.sound.told id v g ];
      below = λ id v h. elim (either id v h) [ inl q ↦ subst (λ x. begins top x ≡ true) (sym q.0) below_top | inr g ↦ s.sound.below id v g ];
      differs = λ m ms v h c. elim (either (m ∷ ms) v h) [
        | inl q ↦ λ e. let a : front m ms ≡ front n ns = same_front m ms q.0 in d (ap f (sym a) ∙ e ∙ sym q.1)
        | inr g ↦ s.sound.differs m ms v g c
      ];
    }
      where
        same_front : (m : ℕ) (ms : List ℕ) → m ∷ ms ≡ n ∷ ns → front m ms ≡ front n ns
        same_front m ms e = let p : m ≡ n = cc in let q : ms ≡ ns = cc in ap (λ x. front x ms) p ∙ ap (front n) q

    still_behind : (id : List ℕ) (v : V) → at id more ≡ Some v → (id ≡ top) ⊎ ((before_all id old_rest ≡ true) × (before_all id new_rest ≡ true))
    still_behind id v h = elim (either id v h) [
      | inl q ↦ let e : place ≡ id = is ∙ sym q.0 in inr (subst (λ x. before_all x old_rest ≡ true) e next.old_after, subst (λ x. before_all x new_rest ≡ true) e next.new_after)
      | inr g ↦ elim (s.behind id v g) [ inl e ↦ inl e | inr q ↦ let r = next.passed id q.0 q.1 in inr (r.1, r.2) ]
    ]

    still_whole : (m : ℕ) (ms : List ℕ) → at (m ∷ ms) more ≡ None → at (m ∷ ms) old_rest ≡ None → at (m ∷ ms) new_rest ≡ None → begins top (front m ms) ≡ true → f (m ∷ ms) ≡ f (front m ms)
    still_whole m ms h p q c =
        let g = not_found (m ∷ ms) h in
        let other : m ∷ ms ≡ place → ⊥ = (λ e. g.1 (e ∙ is)) in
        s.whole m ms g.0 (next.old_left (m ∷ ms) other p) (next.new_left (m ∷ ms) other q) c

    pub added : IsListedSoFar f top more old_rest new_rest
    added = record { sound = still_sound; behind = still_behind; whole = still_whole }
