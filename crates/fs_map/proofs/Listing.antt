-- The one list of a function: the prefixes at which it differs from its value above, each with its value.
use Rattle.std.proofs.Common.{◌≡◌, ◌≢◌, ◌∙◌, ℕ, zero, suc, true, false, List, [], ◌∷◌, refl, ap, sym, length, inl, inr, arith, cond, subst, T, ◌≤◌}
use Rattle.std.specs.Prelude.{Option, Some, None, unwrap_or, option_map}
use Rattle.std.specs.Ordering.{nat_cmp}
use Rattle.std.specs.Cmp.Lexicographic.{slice_cmp, nat_list_cmp_total}
use Rattle.std.specs.FinMap.Entries.{same_entries}
use Rattle.std.proofs.lemmas.List.{length-take-le}
use Rattle.fs_ident.specs.Ident.{parent}
use Rattle.fs_ident.specs.Ordered.{Keyed, are_keys_in_order}
use Rattle.fs_ident.proofs.Booleans.{first}
use Rattle.fs_ident.proofs.MapsOf.{anti}
use Rattle.fs_map.specs.Map.{begins, longest, or_before, told_of, IsReduced}
use Rattle.fs_map.specs.Change.{at, front}
use Rattle.fs_map.proofs.Prefixes.{begins_itself, itself_or_above, begins_below, begins_nothing, prefix_first}
use Rattle.fs_map.proofs.Found.{Before, tied, tied_is, tied_self, apart, one_way, found_after, found_In, In_found, longest_itself, longest_above}

-- what is listed is right
pub record Sound {V : Type 0} (f : List ℕ → V) (top : List ℕ) (listed : Keyed V) : Type 0 where
  pub ordered : are_keys_in_order listed ≡ true
  pub topmost : at top listed ≡ Some (f top)
  pub told : (id : List ℕ) (v : V) → at id listed ≡ Some v → v ≡ f id
  pub below : (id : List ℕ) (v : V) → at id listed ≡ Some v → begins top id ≡ true
  pub differs : (n : ℕ) (ns : List ℕ) (v : V) → at (n ∷ ns) listed ≡ Some v → begins top (front n ns) ≡ true → f (front n ns) ≢ v

-- and what is not listed is as it is above
pub record Lists {V : Type 0} (f : List ℕ → V) (top : List ℕ) (listed : Keyed V) : Type 0 where
  pub sound : Sound f top listed
  pub whole : (n : ℕ) (ns : List ℕ) → at (n ∷ ns) listed ≡ None → begins top (front n ns) ≡ true → f (n ∷ ns) ≡ f (front n ns)

value_of : {V : Type 0} {k : List ℕ} {v : V} (o : Option (List ℕ × V)) → o ≡ Some (k, v) → option_map (λ (e : List ℕ × V). e.1) o ≡ Some v
value_of o e = ap (option_map (λ e. e.1)) e

pub some_is : {V : Type 0} {v w : V} → Some v ≡ Some w → v ≡ w
some_is {V} {v} {w} e = cc

pub shorter : (n : ℕ) (ns : List ℕ) (k : ℕ) → length (n ∷ ns) ≤ suc k → length (front n ns) ≤ k
shorter n ns k h = let e : length (front n ns) ≡ length ns = length-take-le (length ns) (n ∷ ns) (omega arith) in omega arith

module _ {V : Type 0} (f : List ℕ → V) (top : List ℕ) (listed : Keyed V) (l : Lists f top listed) where
  tells_within : (k : ℕ) (id : List ℕ) → length id ≤ k → begins top id ≡ true → told_of listed id ≡ Some (f id)
  tells_within k [] s h =
      let e : top ≡ [] = begins_nothing top h in
      let here : at [] listed ≡ Some (f []) = subst (λ x. at x listed ≡ Some (f x)) e l.sound.topmost in
      value_of (longest listed []) (longest_itself [] (f []) listed l.sound.ordered here)
  tells_within zero (n ∷ ns) s h = absurd (omega arith)
  tells_within (suc k) (n ∷ ns) s h =
      elim (at (n ∷ ns) listed) as (λ o. at (n ∷ ns) listed ≡ o → told_of listed (n ∷ ns) ≡ Some (f (n ∷ ns))) [
        | Some v ↦ λ e. value_of (longest listed (n ∷ ns)) (longest_itself (n ∷ ns) v listed l.sound.ordered e) ∙ ap Some (l.sound.told (n ∷ ns) v e)
        | None ↦ λ e. elim (itself_or_above top n ns h) [
          | inl q ↦ let wrong : Some (f top) ≡ None = sym l.sound.topmost ∙ ap (λ x. at x listed) q ∙ e in absurd (cc)
          | inr b ↦ ap (option_map (λ e. e.1)) (longest_above n ns listed e) ∙ tells_within k (front n ns) (shorter n ns k s) b ∙ ap Some (sym (l.whole n ns e b))
        ]
      ] refl

  -- the list tells the function
  pub tells : (id : List ℕ) → begins top id ≡ true → told_of listed id ≡ Some (f id)
  tells id h = tells_within (length id) id (omega arith) h

  begun : (es : Keyed V) → es ≡ listed → (value : V) × (rest : Keyed V) × (es ≡ (top, value) ∷ rest)
  begun [] q = let wrong : Some (f top) ≡ None = sym l.sound.topmost ∙ ap (at top) (sym q) in absurd (cc)
  begun (e ∷ es) q =
      let order : are_keys_in_order (e ∷ es) ≡ true = ap are_keys_in_order q ∙ l.sound.ordered in
      let here : at top (e ∷ es) ≡ Some (f top) = ap (at top) q ∙ l.sound.topmost in
      let own : at e.0 (e ∷ es) ≡ Some e.1 = In_found e (e ∷ es) order (inl refl) in
      let below : begins top e.0 ≡ true = l.sound.below e.0 e.1 (ap (at e.0) (sym q) ∙ own) in
      elim (tied top e.0) as (λ b. tied top e.0 ≡ b → cond b (Some e.1) (at top es) ≡ Some (f top) → (value : V) × (rest : Keyed V) × (e ∷ es ≡ (top, value) ∷ rest)) [
        | true ↦ λ t _. (e.1, es, ap (λ x. (x, e.1) ∷ es) (sym (tied_is top e.0 t)))
        | false ↦ λ t g.
            let after : Before e.0 top = found_after e.0 top (f top) es (first _ _ order) g in
            absurd (elim (prefix_first top e.0 below) [ inl p ↦ apart e.0 top after (sym p) | inr m ↦ one_way e.0 top after m ])
      ] refl here

  telling : (id : List ℕ) (v : V) → at id listed ≡ Some v → (above : List ℕ) → parent id ≡ Some above → begins top above ≡ true → told_of listed above ≢ Some v
  telling [] v h above p b e = absurd (cc)
  telling (n ∷ ns) v h above p b e =
      let q : front n ns ≡ above = some_is p in
      let c : begins top (front n ns) ≡ true = ap (begins top) q ∙ b in
      l.sound.differs n ns v h c (some_is (sym (tells (front n ns) c) ∙ ap (told_of listed) q ∙ e))

  -- and is reduced
  pub reduced : IsReduced top listed
  reduced = record {
    ordered = l.sound.ordered;
    first = begun listed refl;
    below = λ e i. l.sound.below e.0 e.1 (In_found e listed l.sound.ordered i);
    telling = λ e i above p b. telling e.0 e.1 (In_found e listed l.sound.ordered i) above p b;
  }

-- ## A reduced list

first_there : {V : Type 0} (o : Option (List ℕ × V)) (e : List ℕ × V) (d : V) → option_map (λ (x : List ℕ × V). x.1) (or_before o (Some e)) ≡ Some (unwrap_or (option_map (λ (x : List ℕ × V). x.1) (or_before o (Some e))) d)
first_there None e d = refl
first_there (Some x) e d = refl

-- it tells something of all from the top on
pub told : {V : Type 0} (top : List ℕ) (listed : Keyed V) → IsReduced top listed → (d : V) (id : List ℕ) → begins top id ≡ true → told_of listed id ≡ Some (unwrap_or (told_of listed id) d)
told {V} top listed r d id h =
    let rest : Keyed V = r.first.1 in
    let e : List ℕ × V = (top, r.first.0) in
    let same : told_of listed id ≡ option_map (λ (x : List ℕ × V). x.1) (or_before (longest rest id) (Some e)) =
    ap (λ l. told_of l id) r.first.2 ∙ ap (λ b. option_map (λ (x : List ℕ × V). x.1) (or_before (longest rest id) (cond b (Some e) None))) h in
    same ∙ first_there (longest rest id) e d ∙ ap (λ o. Some (unwrap_or o d)) (sym same)

-- and is the list of what it tells
pub listing : {V : Type 0} (f : List ℕ → V) (top : List ℕ) (listed : Keyed V) → IsReduced top listed → ((id : List ℕ) → begins top id ≡ true → told_of listed id ≡ Some (f id)) → Lists f top listed
listing {V} f top listed r t = record {
  sound = record {
    ordered = r.ordered;
    topmost = top_there ∙ ap Some (some_is (sym (here_told top top_value top_there) ∙ t top (begins_itself top)));
    told = λ id v h. some_is (sym (here_told id v h) ∙ t id (below id v h));
    below = below;
    differs = λ n ns v h b e. r.telling (n ∷ ns, v) (found_In (n ∷ ns) v listed h) (front n ns) refl b (t (front n ns) b ∙ ap Some e);
  };
  whole = λ n ns h b. some_is (sym (t (n ∷ ns) (begins_below top n ns b)) ∙ ap (option_map (λ e. e.1)) (longest_above n ns listed h) ∙ t (front n ns) b);
}
  where
    top_value : V
    top_value = r.first.0

    top_there : at top listed ≡ Some top_value
    top_there = ap (at top) r.first.2 ∙ ap (λ b. cond b (Some top_value) (at top r.first.1)) (tied_self top)

    here_told : (id : List ℕ) (v : V) → at id listed ≡ Some v → told_of listed id ≡ Some v
    here_told id v h = value_of (longest listed id) (longest_itself id v listed r.ordered h)

    below : (id : List ℕ) (v : V) → at id listed ≡ Some v → begins top id ≡ true
    below id v h = r.below (id, v) (found_In id v listed h)

-- ## One function has one list

module _ {V : Type 0} (f : List ℕ → V) (top : List ℕ) (a b : Keyed V) (l : Lists f top a) (m : Lists f top b) where
  -- what one lists the other does not leave out
  both_list : (id : List ℕ) (v : V) → at id a ≡ Some v → at id b ≡ None → ⊥
  both_list [] v h k =
      let e : top ≡ [] = begins_nothing top (l.sound.below [] v h) in
      let wrong : Some (f top) ≡ None = sym m.sound.topmost ∙ ap (λ x. at x b) e ∙ k in
      absurd (cc)
  both_list (n ∷ ns) v h k = elim (itself_or_above top n ns (l.sound.below (n ∷ ns) v h)) [
    | inl e ↦ let wrong : Some (f top) ≡ None = sym m.sound.topmost ∙ ap (λ x. at x b) e ∙ k in absurd (cc)
    | inr c ↦ l.sound.differs n ns v h c (sym (m.whole n ns k c) ∙ sym (l.sound.told (n ∷ ns) v h))
  ]

same_found : {V : Type 0} (f : List ℕ → V) (top : List ℕ) (a b : Keyed V) → Lists f top a → Lists f top b → (id : List ℕ) → at id a ≡ at id b
same_found f top a b l m id =
    elim (at id a) as (λ o. at id a ≡ o → o ≡ at id b) [
      | Some v ↦ λ h. elim (at id b) as (λ p. at id b ≡ p → Some v ≡ p) [
        | Some w ↦ λ k. ap Some (l.sound.told id v h ∙ sym (m.sound.told id w k))
        | None ↦ λ k. absurd (both_list f top a b l m id v h k)
      ] refl
      | None ↦ λ h. elim (at id b) as (λ p. at id b ≡ p → None ≡ p) [
        | Some w ↦ λ k. absurd (both_list f top b a m l id w k h)
        | None ↦ λ k. refl
      ] refl
    ] refl

pub one_list : {V : Type 0} (f : List ℕ → V) (top : List ℕ) (a b : Keyed V) → Lists f top a → Lists f top b → a ≡ b
one_list f top a b l m =
    same_entries (slice_cmp nat_cmp) nat_list_cmp_total anti a b (subst T (sym l.sound.ordered) tt) (subst T (sym m.sound.ordered) tt) (same_found f top a b l m)
