-- The lease of a number, by its place.
use Rattle.std.proofs.Common.{◌≡◌, ℕ, ◌+◌, ◌&&◌, ◌||◌, Bool, true, false, not, List, [], ◌∷◌, ◌++◌, refl, ap, cond, zero, suc, length, get_or, map, arith, sym, ◌∙◌, subst}
use Rattle.std.specs.Prelude.{Option, Some, None, nat_lt, option_map, IfSome, Result, Ok, Err, OnOk, OnErr}
use Rattle.fs_ident.specs.declared.memory.Memory.{Memory}
use Rattle.std.specs.List.{find, filter, list_any, position, position_or_len, insert, remove}
use Rattle.std.proofs.lemmas.Bool.Decides.{nat_tests}
use Rattle.std.proofs.lemmas.Bool.{not-true}
use Rattle.fs_ident.proofs.Booleans.{both, neither}
use Rattle.fs_ident.specs.declared.actor.LeaseNo.{LeaseNo}
use Rattle.fs_field.specs.Table.{same_no}
use Rattle.fs_field.proofs.SameNo.{same_no_is, same_no_symm}
use Rattle.fs_view.specs.declared.view_lease.ViewLease.{ViewLease}
use Rattle.fs_view.specs.ViewLease.{number_of, has_number}
use Rattle.fs_view.specs.View.{are_distinct, at_number}

-- the first that passes stands there
abbrev pub IsFirst : (ViewLease → Bool) → List ViewLease → ℕ → Type 0
IsFirst test [] at = ⊥
IsFirst test (k ∷ ks) zero = test k ≡ true
IsFirst test (k ∷ ks) (suc at) = (test k ≡ false) × IsFirst test ks at

one_on : (n l : ℕ) → cond (nat_lt (1 + n) (suc l)) (Some (1 + n)) None ≡ option_map suc (cond (nat_lt n l) (Some n) None)
one_on n l =
    let e : nat_lt (1 + n) (suc l) ≡ nat_lt n l = grind (arith, nat_tests) in
    let one : 1 + n ≡ suc n = omega arith in
    ap (λ b. cond b (Some (1 + n)) None) e ∙ elim (nat_lt n l) as (λ b. cond b (Some (1 + n)) None ≡ option_map suc (cond b (Some n) None)) [ true ↦ ap Some one | false ↦ refl ]

position_on : (test : ViewLease → Bool) (k : ViewLease) (ks : List ViewLease) → position test (k ∷ ks) ≡ cond (test k) (Some 0) (option_map suc (position test ks))
position_on test k ks =
    elim (test k) as (λ b. cond (nat_lt (cond (not b) (1 + position_or_len test ks) 0) (suc (length ks))) (Some (cond (not b) (1 + position_or_len test ks) 0)) None ≡ cond b (Some 0) (option_map suc (position test ks))) [
      | true ↦ let e : nat_lt 0 (suc (length ks)) ≡ true = grind (arith, nat_tests) in ap (λ b. cond b (Some 0) None) e
      | false ↦ one_on (position_or_len test ks) (length ks)
    ]

no_more : (o : Option ℕ) → option_map suc o ≡ None → o ≡ None
no_more None h = refl
no_more (Some n) h = absurd (cc)

first_on : (test : ViewLease → Bool) (k : ViewLease) (ks : List ViewLease) (o : Option ℕ) (at : ℕ) → test k ≡ false → ((n : ℕ) → o ≡ Some n → IsFirst test ks n) → option_map suc o ≡ Some at → IsFirst test (k ∷ ks) at
first_on test k ks None at f g h = absurd (cc)
first_on test k ks (Some n) zero f g h = let e : suc n ≡ zero = cc in absurd (omega (arith, e))
first_on test k ks (Some n) (suc at) f g h = let e : suc n ≡ suc at = cc in let e' : n ≡ at = omega (arith, e) in (f, subst (λ m. IsFirst test ks m) e' (g n refl))

pub first_at : (test : ViewLease → Bool) (ks : List ViewLease) (at : ℕ) → position test ks ≡ Some at → IsFirst test ks at
first_at test [] at h = absurd (cc)
first_at test (k ∷ ks) at h =
    elim (test k) as (λ b. test k ≡ b → cond b (Some 0) (option_map suc (position test ks)) ≡ Some at → IsFirst test (k ∷ ks) at) [
      | true ↦ λ t g. let e : 0 ≡ at = cc in subst (λ m. IsFirst test (k ∷ ks) m) e t
      | false ↦ λ t g. first_on test k ks (position test ks) at t (first_at test ks) g
    ] refl (sym (position_on test k ks) ∙ h)

pub none_at : (test : ViewLease → Bool) (ks : List ViewLease) → position test ks ≡ None → list_any test ks ≡ false
none_at test [] h = refl
none_at test (k ∷ ks) h =
    elim (test k) as (λ b. cond b (Some 0) (option_map suc (position test ks)) ≡ None → (b || list_any test ks) ≡ false) [
      | true ↦ λ g. absurd (cc)
      | false ↦ λ g. none_at test ks (no_more (position test ks) g)
    ] (sym (position_on test k ks) ∙ h)

-- the one that is found there
pub first_found : (test : ViewLease → Bool) (ks : List ViewLease) (at : ℕ) (d : ViewLease) → IsFirst test ks at → find test ks ≡ Some (get_or ks at d)
first_found test [] at d h = absurd h
first_found test (k ∷ ks) zero d h = ap (λ b. cond b (Some k) (find test ks)) h
first_found test (k ∷ ks) (suc at) d h = ap (λ b. cond b (Some k) (find test ks)) h.0 ∙ first_found test ks at d h.1

-- where no lease has the number, none is changed and none is given up
pub none_changed : (number : LeaseNo) (f : ViewLease → ViewLease) (ks : List ViewLease) → list_any (has_number number) ks ≡ false → at_number number f ks ≡ ks
none_changed number f [] h = refl
none_changed number f (k ∷ ks) h =
    let q : (has_number number k ≡ false) × (list_any (has_number number) ks ≡ false) = neither (has_number number k) _ h in
    ap (λ b. cond b (f k) k ∷ at_number number f ks) q.0 ∙ ap (λ rest. k ∷ rest) (none_changed number f ks q.1)

pub none_removed : (number : LeaseNo) (ks : List ViewLease) → list_any (has_number number) ks ≡ false → filter (λ k. not (has_number number k)) ks ≡ ks
none_removed number [] h = refl
none_removed number (k ∷ ks) h =
    let q : (has_number number k ≡ false) × (list_any (has_number number) ks ≡ false) = neither (has_number number k) _ h in
    ap (λ b. cond (not b) (k ∷ filter (λ j. not (has_number number j)) ks) (filter (λ j. not (has_number number j)) ks)) q.0 ∙ ap (λ rest. k ∷ rest) (none_removed number ks q.1)

-- behind the first lease of a number there is no other
pub alone : (number : LeaseNo) (k : ViewLease) (ks : List ViewLease) → has_number number k ≡ true → are_distinct (k ∷ ks) ≡ true → list_any (has_number number) ks ≡ false
alone number k ks h d =
    let q : (not (list_any (has_number (number_of k.standing)) ks) ≡ true) × (are_distinct ks ≡ true) = both _ (are_distinct ks) d in
    ap (λ (n : LeaseNo). list_any (has_number n) ks) (sym (same_no_is (number_of k.standing) number h)) ∙ not-true (list_any (has_number (number_of k.standing)) ks) q.0

rest_distinct : (k : ViewLease) (ks : List ViewLease) → are_distinct (k ∷ ks) ≡ true → are_distinct ks ≡ true
rest_distinct k ks d = let q : (not (list_any (has_number (number_of k.standing)) ks) ≡ true) × (are_distinct ks ≡ true) = both _ (are_distinct ks) d in q.1

pub first_changed : (number : LeaseNo) (f : ViewLease → ViewLease) (ks : List ViewLease) (at : ℕ) (x : ViewLease) → IsFirst (has_number number) ks at → are_distinct ks ≡ true → x ≡ get_or ks at x → insert (remove ks at) at (f x) ≡ at_number number f ks
first_changed number f [] at x h d e = absurd h
first_changed number f (k ∷ ks) zero x h d e = ap (λ y. f y ∷ ks) e ∙ (ap (λ rest. f k ∷ rest) (sym (none_changed number f ks (alone number k ks h d))) ∙ sym (ap (λ b. cond b (f k) k ∷ at_number number f ks) h))
first_changed number f (k ∷ ks) (suc at) x h d e = ap (λ rest. k ∷ rest) (first_changed number f ks at x h.1 (rest_distinct k ks d) e) ∙ sym (ap (λ b. cond b (f k) k ∷ at_number number f ks) h.0)

pub first_removed : (number : LeaseNo) (ks : List ViewLease) (at : ℕ) → IsFirst (has_number number) ks at → are_distinct ks ≡ true → remove ks at ≡ filter (λ k. not (has_number number k)) ks
first_removed number [] at h d = absurd h
first_removed number (k ∷ ks) zero h d = sym (none_removed number ks (alone number k ks h d)) ∙ sym (ap (λ b. cond (not b) (k ∷ filter (λ j. not (has_number number j)) ks) (filter (λ j. not (has_number number j)) ks)) h)
first_removed number (k ∷ ks) (suc at) h d = ap (λ rest. k ∷ rest) (first_removed number ks at h.1 (rest_distinct k ks d)) ∙ sym (ap (λ b. cond (not b) (k ∷ filter (λ j. not (has_number number j)) ks) (filter (λ j. not (has_number number j)) ks)) h.0)

-- ## Numbers stay apart

any_kept : (n : LeaseNo) (f : ViewLease → ViewLease) → ((k : ViewLease) → number_of (f k).standing ≡ number_of k.standing) → (ks : List ViewLease) → list_any (has_number n) (map f ks) ≡ list_any (has_number n) ks
any_kept n f same [] = refl
any_kept n f same (k ∷ ks) = ap (λ (m : LeaseNo). same_no m n || list_any (has_number n) (map f ks)) (same k) ∙ ap (λ b. has_number n k || b) (any_kept n f same ks)

pub distinct_map : (f : ViewLease → ViewLease) → ((k : ViewLease) → number_of (f k).standing ≡ number_of k.standing) → (ks : List ViewLease) → are_distinct (map f ks) ≡ are_distinct ks
distinct_map f same [] = refl
distinct_map f same (k ∷ ks) = ap (λ (m : LeaseNo). not (list_any (has_number m) (map f ks)) && are_distinct (map f ks)) (same k) ∙ (ap (λ b. not b && are_distinct (map f ks)) (any_kept (number_of k.standing) f same ks) ∙ ap (λ b. not (list_any (has_number (number_of k.standing)) ks) && b) (distinct_map f same ks))

changed_by : (f : ViewLease → ViewLease) → ((k : ViewLease) → number_of (f k).standing ≡ number_of k.standing) → (b : Bool) (k : ViewLease) → number_of (cond b (f k) k).standing ≡ number_of k.standing
changed_by f same true k = same k
changed_by f same false k = refl

pub distinct_at : (number : LeaseNo) (f : ViewLease → ViewLease) → ((k : ViewLease) → number_of (f k).standing ≡ number_of k.standing) → (ks : List ViewLease) → are_distinct (at_number number f ks) ≡ are_distinct ks
distinct_at number f same ks = distinct_map (λ k. cond (has_number number k) (f k) k) (λ k. changed_by f same (has_number number k) k) ks

pub any_filter : (n : LeaseNo) (test : ViewLease → Bool) (ks : List ViewLease) → list_any (has_number n) ks ≡ false → list_any (has_number n) (filter test ks) ≡ false
any_filter n test [] h = refl
any_filter n test (k ∷ ks) h =
    let q : (has_number n k ≡ false) × (list_any (has_number n) ks ≡ false) = neither (has_number n k) _ h in
    elim (test k) as (λ b. list_any (has_number n) (cond b (k ∷ filter test ks) (filter test ks)) ≡ false) [
      | true ↦ ap (λ b. b || list_any (has_number n) (filter test ks)) q.0 ∙ any_filter n test ks q.1
      | false ↦ any_filter n test ks q.1
    ]

pub distinct_filter : (test : ViewLease → Bool) (ks : List ViewLease) → are_distinct ks ≡ true → are_distinct (filter test ks) ≡ true
distinct_filter test [] h = refl
distinct_filter test (k ∷ ks) h =
    let q : (not (list_any (has_number (number_of k.standing)) ks) ≡ true) × (are_distinct ks ≡ true) = both _ (are_distinct ks) h in
    elim (test k) as (λ b. are_distinct (cond b (k ∷ filter test ks) (filter test ks)) ≡ true) [
      | true ↦ ap (λ b. not b && are_distinct (filter test ks)) (any_filter (number_of k.standing) test ks (not-true (list_any (has_number (number_of k.standing)) ks) q.0)) ∙ distinct_filter test ks q.1
      | false ↦ distinct_filter test ks q.1
    ]

any_append : (n : LeaseNo) (ks : List ViewLease) (k : ViewLease) → list_any (has_number n) (ks ++ k ∷ []) ≡ (list_any (has_number n) ks || has_number n k)
any_append n [] k = grind (arith, nat_tests)
any_append n (j ∷ ks) k = ap (λ b. has_number n j || b) (any_append n ks k) ∙ grind (arith, nat_tests)

pub distinct_append : (ks : List ViewLease) (k : ViewLease) → list_any (has_number (number_of k.standing)) ks ≡ false → are_distinct ks ≡ true → are_distinct (ks ++ k ∷ []) ≡ true
distinct_append [] k h d = refl
distinct_append (j ∷ ks) k h d =
    let q : (not (list_any (has_number (number_of j.standing)) ks) ≡ true) × (are_distinct ks ≡ true) = both _ (are_distinct ks) d in
    let p : (has_number (number_of k.standing) j ≡ false) × (list_any (has_number (number_of k.standing)) ks ≡ false) = neither (has_number (number_of k.standing) j) _ h in
    ap (λ b. not b && are_distinct (ks ++ k ∷ [])) (any_append (number_of j.standing) ks k ∙ (ap (λ b. b || has_number (number_of j.standing) k) (not-true (list_any (has_number (number_of j.standing)) ks) q.0) ∙ (same_no_symm (number_of k.standing) (number_of j.standing) ∙ p.0))) ∙ distinct_append ks k p.1 q.1

-- ## What is found at a place

-- the lease that is taken out is the one that the number finds
pub found_there : (number : LeaseNo) (ks : List ViewLease) (at : ℕ) (x : ViewLease) → position (has_number number) ks ≡ Some at → x ≡ get_or ks at x → find (has_number number) ks ≡ Some x
found_there number ks at x p e = first_found (has_number number) ks at x (first_at (has_number number) ks at p) ∙ ap Some (sym e)

pub changed_there : (number : LeaseNo) (f : ViewLease → ViewLease) (ks : List ViewLease) (at : ℕ) (x : ViewLease) → position (has_number number) ks ≡ Some at → are_distinct ks ≡ true → x ≡ get_or ks at x → insert (remove ks at) at (f x) ≡ at_number number f ks
changed_there number f ks at x p d e = first_changed number f ks at x (first_at (has_number number) ks at p) d e

pub removed_there : (number : LeaseNo) (ks : List ViewLease) (at : ℕ) → position (has_number number) ks ≡ Some at → are_distinct ks ≡ true → remove ks at ≡ filter (λ k. not (has_number number k)) ks
removed_there number ks at p d = first_removed number ks at (first_at (has_number number) ks at p) d

-- a lease of that number passes the test
pub fits_there : (test : ViewLease → Type 0) (o : Option ViewLease) (x : ViewLease) → o ≡ Some x → IfSome o test → test x
fits_there test None x e h = absurd (cc)
fits_there test (Some y) x e h = let q : y ≡ x = cc in subst test q h

-- a lease with a new number was put behind the others
pub distinct_put : (old room new : List ViewLease) (k : ViewLease) → new ≡ room ++ k ∷ [] → room ≡ old → list_any (has_number (number_of k.standing)) old ≡ false → are_distinct old ≡ true → are_distinct new ≡ true
distinct_put old room new k p r h d = ap are_distinct (p ∙ ap (λ (ks : List ViewLease). ks ++ k ∷ []) r) ∙ distinct_append old k h d

-- whether there was memory or not
pub distinct_mapped : (r : Result (Unit {0}) Memory) (old new : List ViewLease) (f : ViewLease → ViewLease) → ((k : ViewLease) → number_of (f k).standing ≡ number_of k.standing) → OnOk r (new ≡ map f old) → OnErr r (new ≡ old) → are_distinct old ≡ true → are_distinct new ≡ true
distinct_mapped (Ok u) old new f same p q d = let e : new ≡ map f old = p in ap are_distinct e ∙ (distinct_map f same old ∙ d)
distinct_mapped (Err m) old new f same p q d = let e : new ≡ old = q in ap are_distinct e ∙ d

pub distinct_filtered : (test : ViewLease → Bool) (old new : List ViewLease) → new ≡ filter test old → are_distinct old ≡ true → are_distinct new ≡ true
distinct_filtered test old new e d = ap are_distinct e ∙ distinct_filter test old d
