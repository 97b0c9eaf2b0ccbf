-- The lease that is taken is the best of those that serve.
use Rattle.std.proofs.Common.{◌≡◌, ◌∙◌, ◌⊎◌, ℕ, Bool, true, false, not, List, [], ◌∷◌, refl, ap, sym, inl, inr, cond, subst, arith}
use Rattle.std.specs.Prelude.{Option, Some, None, nat_lt, ◌==◌, ◌&&◌, ◌||◌}
use Rattle.std.specs.List.{list_any}
use Rattle.std.specs.Ordering.{nat_cmp, is_lt, ordering_then}
use Rattle.std.proofs.lemmas.Bool.Decides.{nat_tests}
use Rattle.fs_ident.specs.In.{In}
use Rattle.fs_ident.proofs.Booleans.{both}
use Rattle.fs_field.specs.declared.field.Field.{Field}
use Rattle.fs_field.specs.declared.lease_kind.LeaseKind.{LeaseKind}
use Rattle.fs_view.specs.declared.view_lease.ViewLease.{ViewLease}
use Rattle.fs_view.specs.declared.view_lease.Standing.{Standing}
use Rattle.fs_view.specs.ViewLease.{is_better, is_better_than, number_of, serves, until_of}
use Rattle.fs_view.specs.Laws.{IsBestOf}
use Rattle.fs_view.specs.View.{View, taken, taken_from}

-- ## Which of two is better, by ends and numbers

abbrev beats : ℕ → ℕ → ℕ → ℕ → ℕ → ℕ → Bool
beats u a b v c d = nat_lt v u || ((u == v) && is_lt (ordering_then (nat_cmp a c) (nat_cmp b d)))

never_itself : (u a b : ℕ) → beats u a b u a b ≡ false
never_itself u a b = grind (arith, nat_tests)

first_first : (a b c d e f : ℕ) → is_lt (ordering_then (nat_cmp a c) (nat_cmp b d)) ≡ true → is_lt (ordering_then (nat_cmp c e) (nat_cmp d f)) ≡ true → is_lt (ordering_then (nat_cmp a e) (nat_cmp b f)) ≡ true
first_first a b c d e f h k = grind (arith, nat_tests)

neither_first : (a b c d e f : ℕ) → is_lt (ordering_then (nat_cmp a c) (nat_cmp b d)) ≡ false → is_lt (ordering_then (nat_cmp c e) (nat_cmp d f)) ≡ false → is_lt (ordering_then (nat_cmp a e) (nat_cmp b f)) ≡ false
neither_first a b c d e f h k = grind (arith, nat_tests)

by_ends : (u v w : ℕ) (p q r : Bool) → (nat_lt v u || ((u == v) && p)) ≡ true → (nat_lt w v || ((v == w) && q)) ≡ true → (p ≡ true → q ≡ true → r ≡ true) → (nat_lt w u || ((u == w) && r)) ≡ true
by_ends u v w true true r h k go = let s = go refl refl in grind (arith, nat_tests)
by_ends u v w true false r h k go = grind (arith, nat_tests)
by_ends u v w false true r h k go = grind (arith, nat_tests)
by_ends u v w false false r h k go = grind (arith, nat_tests)

not_by_ends : (u v w : ℕ) (p q r : Bool) → (nat_lt v u || ((u == v) && p)) ≡ false → (nat_lt w v || ((v == w) && q)) ≡ false → (p ≡ false → q ≡ false → r ≡ false) → (nat_lt w u || ((u == w) && r)) ≡ false
not_by_ends u v w false false r h k go = let s = go refl refl in grind (arith, nat_tests)
not_by_ends u v w true false r h k go = grind (arith, nat_tests)
not_by_ends u v w false true r h k go = grind (arith, nat_tests)
not_by_ends u v w true true r h k go = grind (arith, nat_tests)

better_trans : (s t u : Standing) → is_better_than s t ≡ true → is_better_than t u ≡ true → is_better_than s u ≡ true
better_trans s t u h k =
    by_ends (until_of s) (until_of t) (until_of u) _ _ _ h k
    (first_first (number_of s).server (number_of s).count (number_of t).server (number_of t).count (number_of u).server (number_of u).count)

better_neither : (s t u : Standing) → is_better_than s t ≡ false → is_better_than t u ≡ false → is_better_than s u ≡ false
better_neither s t u h k =
    not_by_ends (until_of s) (until_of t) (until_of u) _ _ _ h k
    (neither_first (number_of s).server (number_of s).count (number_of t).server (number_of t).count (number_of u).server (number_of u).count)

better_not_itself : (s : Standing) → is_better_than s s ≡ false
better_not_itself s = never_itself (until_of s) (number_of s).server (number_of s).count

-- a lease that is better than one is not beaten by what does not beat it
not_beaten : (s t u : Standing) → is_better_than s t ≡ true → is_better_than s u ≡ false → is_better_than t u ≡ false
not_beaten s t u h k = by (is_better_than t u) refl
  where
    by : (b : Bool) → is_better_than t u ≡ b → b ≡ false
    by true e = let wrong : true ≡ false = sym (better_trans s t u h e) ∙ k in absurd (cc wrong)
    by false e = refl

-- ## One lease after another

-- of the best so far and those behind it, it is one, and none that serves is better
record IsBestFrom (now : ℕ) (field : Field) (kind : LeaseKind) (best : Option ViewLease) (ks : List ViewLease) (k : ViewLease) : Type 0 where
  pub among : (best ≡ Some k) ⊎ (In k ks × (serves now field kind k.standing ≡ true))
  pub first : (b : ViewLease) → best ≡ Some b → is_better_than b.standing k.standing ≡ false
  pub rest : (other : ViewLease) → In other ks → serves now field kind other.standing ≡ true → is_better_than other.standing k.standing ≡ false

module _ (now : ℕ) (field : Field) (kind : LeaseKind) where
  -- the next one is taken
  taken_next : (x : ViewLease) (best : Option ViewLease) (xs : List ViewLease) (k : ViewLease) → serves now field kind x.standing ≡ true → is_better x best ≡ true → IsBestFrom now field kind (Some x) xs k → IsBestFrom now field kind best (x ∷ xs) k
  taken_next x best xs k s t r = record {
    among = elim r.among [
      | inl e ↦ let same : x ≡ k = cc e in inr (inl (sym same), subst (λ (y : ViewLease). serves now field kind y.standing ≡ true) same s)
      | inr j ↦ inr (inr j.0, j.1)
    ];
    first = λ b e. not_beaten x.standing b.standing k.standing (ap (is_better x) (sym e) ∙ t) (r.first x refl);
    rest = λ other i p. elim i [
      | inl e ↦ subst (λ (y : ViewLease). is_better_than y.standing k.standing ≡ false) (sym e) (r.first x refl)
      | inr j ↦ r.rest other j p
    ];
  }

  -- the next one is passed over: it does not serve, or is no better
  passed : (x : ViewLease) (best : Option ViewLease) (xs : List ViewLease) (k : ViewLease) → (serves now field kind x.standing && is_better x best) ≡ false → IsBestFrom now field kind best xs k → IsBestFrom now field kind best (x ∷ xs) k
  passed x best xs k h r = record {
    among = elim r.among [ inl e ↦ inl e | inr j ↦ inr (inr j.0, j.1) ];
    first = r.first;
    rest = λ other i p. elim i [
      | inl e ↦ subst (λ (y : ViewLease). is_better_than y.standing k.standing ≡ false) (sym e) (own best refl (ap (λ b. b && is_better x best) (sym (subst (λ (y : ViewLease). serves now field kind y.standing ≡ true) e p)) ∙ h))
      | inr j ↦ r.rest other j p
    ];
  }
    where
      own : (o : Option ViewLease) → best ≡ o → is_better x best ≡ false → is_better_than x.standing k.standing ≡ false
      own None e f = let wrong : true ≡ false = ap (is_better x) (sym e) ∙ f in absurd (cc wrong)
      own (Some b) e f = better_neither x.standing b.standing k.standing (ap (is_better x) (sym e) ∙ f) (r.first b e)

  best_from : (best : Option ViewLease) (ks : List ViewLease) (k : ViewLease) → taken_from now field kind best ks ≡ Some k → IsBestFrom now field kind best ks k
  best_from best [] k h = record {
    among = inl h;
    first = λ b e. let same : b ≡ k = cc (e, h) in subst (λ (y : ViewLease). is_better_than b.standing y.standing ≡ false) same (better_not_itself b.standing);
    rest = λ other i p. absurd i;
  }
  best_from best (x ∷ xs) k h =
      elim (serves now field kind x.standing && is_better x best) as (λ c. (serves now field kind x.standing && is_better x best) ≡ c → taken_from now field kind (cond c (Some x) best) xs ≡ Some k → IsBestFrom now field kind best (x ∷ xs) k) [
        | true ↦ λ t g. let p = both _ _ t in taken_next x best xs k p.0 p.1 (best_from (Some x) xs k g)
        | false ↦ λ t g. passed x best xs k t (best_from best xs k g)
      ] refl h

  never_none : (b : ViewLease) (ks : List ViewLease) → taken_from now field kind (Some b) ks ≡ None → ⊥
  never_none b [] h = absurd (cc h)
  never_none b (x ∷ xs) h =
      elim (serves now field kind x.standing && is_better x (Some b)) as (λ c. taken_from now field kind (cond c (Some x) (Some b)) xs ≡ None → ⊥) [
        | true ↦ λ g. never_none x xs g
        | false ↦ λ g. never_none b xs g
      ] h

  none_from : (ks : List ViewLease) → taken_from now field kind None ks ≡ None → list_any (λ (k : ViewLease). serves now field kind k.standing) ks ≡ false
  none_from [] h = refl
  none_from (x ∷ xs) h =
      elim (serves now field kind x.standing) as (λ c. taken_from now field kind (cond (c && true) (Some x) None) xs ≡ None → (c || list_any (λ (k : ViewLease). serves now field kind k.standing) xs) ≡ false) [
        | true ↦ λ g. absurd (never_none x xs g)
        | false ↦ λ g. none_from xs g
      ] h

pub taken_best : (v : View) (now : ℕ) (field : Field) (kind : LeaseKind) (k : ViewLease) → taken v now field kind ≡ Some k → IsBestOf v.leases now field kind k
unfolding taken
taken_best v now field kind k h =
    let r : IsBestFrom now field kind None v.leases k = best_from now field kind None v.leases k h in
    let at : In k v.leases × (serves now field kind k.standing ≡ true) = elim r.among [ inl e ↦ absurd (cc e) | inr j ↦ j ] in
    record { among = at.0; serving = at.1; best = r.rest }

pub none_taken : (v : View) (now : ℕ) (field : Field) (kind : LeaseKind) → taken v now field kind ≡ None → list_any (λ (k : ViewLease). serves now field kind k.standing) v.leases ≡ false
unfolding taken
none_taken v now field kind h = none_from now field kind v.leases h
