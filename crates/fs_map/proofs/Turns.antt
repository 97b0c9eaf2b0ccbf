-- The list of those places at which a function turns is the one list of the function, where it can turn at no other.
use Rattle.std.proofs.Common.{◌≡◌, ◌∙◌, ◌⊎◌, ℕ, Bool, true, false, List, [], ◌∷◌, ◌++◌, refl, ap, sym, inl, inr, cond, subst, T}
use Rattle.std.specs.Prelude.{Option, Some, None, ◌||◌}
use Rattle.std.specs.Bool.{Decides}
use Rattle.std.specs.List.{list_any}
use Rattle.std.specs.Ordering.{nat_cmp, is_lt}
use Rattle.std.specs.Cmp.Lexicographic.{slice_cmp, nat_list_cmp_total}
use Rattle.std.specs.FinMap.Entries.{put, by_order, find-put, is_sorted-put}
use Rattle.std.specs.declared.cmp.Ordering.TheVariants.{Less, Equal, Greater}
use Rattle.fs_ident.specs.In.{In}
use Rattle.fs_ident.specs.Ordered.{Keyed, are_keys_in_order}
use Rattle.fs_ident.proofs.Booleans.{joined, holds}
use Rattle.fs_map.specs.Map.{begins}
use Rattle.fs_map.specs.Change.{at, before_all, front, turned}
use Rattle.fs_map.specs.Lists.{places_of, turns, with_turn}
use Rattle.fs_map.proofs.Prefixes.{begins_itself, begins_below, begins_above, above_differs, both_ways, prefix_first}
use Rattle.fs_map.proofs.Found.{Before, tied, tied_is, tied_self, In_found}
use Rattle.fs_map.proofs.Listing.{Lists, some_is}
use Rattle.fs_map.proofs.Changing.{stays, turns as turn_is}

-- the place is one of these
abbrev pub is_one_of : List ℕ → List (List ℕ) → Bool
is_one_of id places = list_any (tied id) places

order : {V : Type 0} (place : List ℕ) (o : Option V) (listed : Keyed V) → are_keys_in_order listed ≡ true → are_keys_in_order (with_turn place o listed) ≡ true
order place None listed h = h
order place (Some v) listed h = holds _ (is_sorted-put (slice_cmp nat_cmp) nat_list_cmp_total place v listed (subst T (sym h) tt))

-- what is put before or behind others stands there
after_all : {V : Type 0} (x : List ℕ) (listed : Keyed V) → ((e : List ℕ × V) → In e listed → Before x e.0) → before_all x listed ≡ true
after_all x [] h = refl
after_all x (e ∷ es) h = joined _ _ (ap is_lt (h e (inl refl))) (after_all x es (λ d i. h d (inr i)))

module _ {V : Type 0} (alike : V → V → Bool) (f : List ℕ → V) (top : List ℕ) where
  pub turns_order : (places : List (List ℕ)) → are_keys_in_order (turns alike f top places) ≡ true
  turns_order [] = refl
  turns_order (p ∷ ps) = order p (turned alike f top p) (turns alike f top ps) (turns_order ps)

  nothing : (b : Bool) (o : Option V) → o ≡ None → cond b o None ≡ o
  nothing true o e = refl
  nothing false o e = sym e

  module _ (id p : List ℕ) (ps : List (List ℕ)) (behind : at id (turns alike f top ps) ≡ cond (is_one_of id ps) (turned alike f top id) None) where
    turn_here : tied id p ≡ true → (o : Option V) → turned alike f top id ≡ o → at id (with_turn p o (turns alike f top ps)) ≡ turned alike f top id
    turn_here t None e = behind ∙ nothing (is_one_of id ps) (turned alike f top id) e
    turn_here t (Some v) e = find-put (slice_cmp nat_cmp) nat_list_cmp_total id p v (turns alike f top ps) ∙ ap (λ b. cond b (Some v) (at id (turns alike f top ps))) t ∙ sym e

    turn_other : tied id p ≡ false → (o : Option V) → at id (with_turn p o (turns alike f top ps)) ≡ cond (is_one_of id ps) (turned alike f top id) None
    turn_other t None = behind
    turn_other t (Some v) = find-put (slice_cmp nat_cmp) nat_list_cmp_total id p v (turns alike f top ps) ∙ ap (λ b. cond b (Some v) (at id (turns alike f top ps))) t ∙ behind

  -- a place has the value at which the function turns there
  pub turn_at : (places : List (List ℕ)) (id : List ℕ) → at id (turns alike f top places) ≡ cond (is_one_of id places) (turned alike f top id) None
  turn_at [] id = refl
  turn_at (p ∷ ps) id =
      let behind = turn_at ps id in
      elim (tied id p) as (λ t. tied id p ≡ t → at id (with_turn p (turned alike f top p) (turns alike f top ps)) ≡ cond (t || is_one_of id ps) (turned alike f top id) None) [
        | true ↦ λ t. turn_here id p ps behind t (turned alike f top p) (ap (turned alike f top) (tied_is id p t))
        | false ↦ λ t. turn_other id p ps behind t (turned alike f top p)
      ] refl

  pub turn_there : (places : List (List ℕ)) (id : List ℕ) (v : V) → at id (turns alike f top places) ≡ Some v → turned alike f top id ≡ Some v
  turn_there places id v h =
      elim (is_one_of id places) as (λ b. cond b (turned alike f top id) None ≡ Some v → turned alike f top id ≡ Some v) [
        | true ↦ λ e. e
        | false ↦ λ e. absurd (cc)
      ] (sym (turn_at places id) ∙ h)

  -- ## With its top

  module _ (tests : (x y : V) → Decides (alike x y) (x ≡ y)) (places : List (List ℕ)) where
    abbrev listed : Keyed V
    listed = (top, f top) ∷ turns alike f top places

    below_top : (id : List ℕ) (v : V) → turned alike f top id ≡ Some v → (begins top id ≡ true) × Before top id
    below_top [] v h = absurd (cc)
    below_top (n ∷ ns) v h =
        let q = turn_is alike tests f top n ns v h in
        let b : begins top (n ∷ ns) ≡ true = begins_below top n ns q.0 in
        (b, elim (prefix_first top (n ∷ ns) b) [ inl e ↦ absurd (not_top n ns q.0 (sym e)) | inr l ↦ l ])
      where
        not_top : (m : ℕ) (ms : List ℕ) → begins top (front m ms) ≡ true → m ∷ ms ≡ top → ⊥
        not_top m ms b e = above_differs m ms (both_ways (front m ms) (m ∷ ms) (begins_above m ms) (subst (λ x. begins x (front m ms) ≡ true) (sym e) b))

    top_first : before_all top (turns alike f top places) ≡ true
    top_first = after_all top (turns alike f top places) (λ e i. (below_top e.0 e.1 (turn_there places e.0 e.1 (In_found e (turns alike f top places) (turns_order places) i))).1)

    either : (id : List ℕ) (v : V) → at id listed ≡ Some v → ((id ≡ top) × (v ≡ f top)) ⊎ (turned alike f top id ≡ Some v)
    either id v h = elim (tied id top) as (λ t. tied id top ≡ t → cond t (Some (f top)) (at id (turns alike f top places)) ≡ Some v → ((id ≡ top) × (v ≡ f top)) ⊎ (turned alike f top id ≡ Some v)) [
      | true ↦ λ t e. inl (tied_is id top t, sym (some_is e))
      | false ↦ λ t e. inr (turn_there places id v e)
    ] refl h

    not_top : (n : ℕ) (ns : List ℕ) → begins top (front n ns) ≡ true → n ∷ ns ≡ top → ⊥
    not_top n ns b e = above_differs n ns (both_ways (front n ns) (n ∷ ns) (begins_above n ns) (subst (λ x. begins x (front n ns) ≡ true) (sym e) b))

    -- the list of the turns is the function's, where it turns at these places alone
    pub turns_list : ((n : ℕ) (ns : List ℕ) → is_one_of (n ∷ ns) places ≡ false → begins top (front n ns) ≡ true → f (n ∷ ns) ≡ f (front n ns)) → Lists f top ((top, f top) ∷ turns alike f top places)
    turns_list same = record {
      sound = record {
        ordered = joined _ _ top_first (turns_order places);
        topmost = ap (λ b. cond b (Some (f top)) (at top (turns alike f top places))) (tied_self top);
        told = λ id v h. elim (either id v h) [ inl e ↦ e.1 ∙ ap f (sym e.0) | inr t ↦ value id v t ];
        below = λ id v h. elim (either id v h) [ inl e ↦ subst (λ x. begins top x ≡ true) (sym e.0) (begins_itself top) | inr t ↦ (below_top id v t).0 ];
        differs = λ n ns v h b. elim (either (n ∷ ns) v h) [
          | inl e ↦ absurd (not_top n ns b e.0)
          | inr t ↦ let q = turn_is alike tests f top n ns v t in (λ e. q.1 (e ∙ sym q.2))
        ];
      };
      whole = λ n ns h b. elim (tied (n ∷ ns) top) as (λ t. tied (n ∷ ns) top ≡ t → cond t (Some (f top)) (at (n ∷ ns) (turns alike f top places)) ≡ None → f (n ∷ ns) ≡ f (front n ns)) [
        | true ↦ λ t e. absurd (cc)
        | false ↦ λ t e. unlisted n ns b (sym (turn_at places (n ∷ ns)) ∙ e)
      ] refl h;
    }
      where
        value : (id : List ℕ) (v : V) → turned alike f top id ≡ Some v → v ≡ f id
        value [] v t = absurd (cc)
        value (n ∷ ns) v t = sym (turn_is alike tests f top n ns v t).2

        unlisted : (n : ℕ) (ns : List ℕ) → begins top (front n ns) ≡ true → cond (is_one_of (n ∷ ns) places) (turned alike f top (n ∷ ns)) None ≡ None → f (n ∷ ns) ≡ f (front n ns)
        unlisted n ns b e = elim (is_one_of (n ∷ ns) places) as (λ o. is_one_of (n ∷ ns) places ≡ o → cond o (turned alike f top (n ∷ ns)) None ≡ None → f (n ∷ ns) ≡ f (front n ns)) [
          | true ↦ λ o t. stays alike tests f top (n ∷ ns) t n ns refl b
          | false ↦ λ o t. same n ns o b
        ] refl e

-- ## What is listed stands among the places

put_In : {V : Type 0} (x place : List ℕ) (v : V) (listed : Keyed V) → In x (places_of (put (slice_cmp nat_cmp) place v listed)) → (x ≡ place) ⊎ In x (places_of listed)
put_In x place v [] i = i
put_In x place v (e ∷ es) i =
    elim (slice_cmp nat_cmp place e.0) as (λ r. In x (places_of (by_order r ((place, v) ∷ e ∷ es) ((e.0, v) ∷ es) (e ∷ put (slice_cmp nat_cmp) place v es))) → (x ≡ place) ⊎ ((x ≡ e.0) ⊎ In x (places_of es))) [
      | Less ↦ λ j. j
      | Equal ↦ λ j. inr j
      | Greater ↦ λ j. elim j [ inl q ↦ inr (inl q) | inr k ↦ elim (put_In x place v es k) [ inl q ↦ inl q | inr m ↦ inr (inr m) ] ]
    ] i

turn_In : {V : Type 0} (p x : List ℕ) (ps : List (List ℕ)) (listed : Keyed V) → (In x (places_of listed) → In x ps) → (o : Option V) → In x (places_of (with_turn p o listed)) → (x ≡ p) ⊎ In x ps
turn_In p x ps es h None i = inr (h i)
turn_In p x ps es h (Some v) i = elim (put_In x p v es i) [ inl q ↦ inl q | inr k ↦ inr (h k) ]

pub turns_In : {V : Type 0} (alike : V → V → Bool) (f : List ℕ → V) (top : List ℕ) (places : List (List ℕ)) (x : List ℕ) → In x (places_of (turns alike f top places)) → In x places
turns_In alike f top [] x i = i
turns_In alike f top (p ∷ ps) x i = turn_In p x ps (turns alike f top ps) (turns_In alike f top ps x) (turned alike f top p) i
