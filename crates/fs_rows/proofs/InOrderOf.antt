-- Numbers of leases in order, each once.
use Rattle.std.proofs.Common.{◌≡◌, ◌==◌, ◌&&◌, ◌||◌, ◌∷◌, ◌∙◌, ℕ, Bool, true, false, List, [], refl, ap, sym, cond, arith}
use Rattle.std.specs.List.{list_all, dedup, dedup_from, AllByRecursion}
use Rattle.std.specs.List.Sorted.{IsStrictlySortedBy}
use Rattle.std.specs.Ordering.{nat_cmp, is_lt, is_eq, eq_by_cmp, ordering_then}
use Rattle.std.specs.Cmp.{IsTotalOrder, nat_cmp_total}
use Rattle.std.specs.declared.cmp.Ordering.{Ordering}
use Rattle.std.specs.declared.cmp.Ordering.TheVariants.{Less}
use Rattle.std.proofs.lemmas.Cmp.{then_total, on_total}
use Rattle.std.proofs.lemmas.Bool.Decides.{nat_tests}
use Rattle.fs_ident.specs.declared.actor.LeaseNo.{LeaseNo}
use Rattle.fs_ident.proofs.Booleans.{joined}
use Rattle.fs_field.specs.Table.{same_no, no_before}
use Rattle.fs_field.proofs.SameNo.{same_no_is}
use Rattle.fs_rows.specs.Index.{has_number}
use Rattle.fs_rows.specs.Picked.{is_rising}

abbrev pub no_cmp : LeaseNo → LeaseNo → Ordering
no_cmp a b = ordering_then (nat_cmp a.server b.server) (nat_cmp a.count b.count)

pub no_total : IsTotalOrder no_cmp
no_total = then_total (on_total (λ (n : LeaseNo). n.server) nat_cmp_total) (on_total (λ (n : LeaseNo). n.count) nat_cmp_total)

pub ties : (a b : LeaseNo) → same_no a b ≡ eq_by_cmp no_cmp a b
ties a b = tied a.server a.count b.server b.count
  where
    tied : (a b c d : ℕ) → ((a == c) && (b == d)) ≡ is_eq (ordering_then (nat_cmp a c) (nat_cmp b d))
    tied a b c d = grind (arith, nat_tests)

all_behind : (n : LeaseNo) (ns : List LeaseNo) → AllByRecursion (λ m. no_cmp n m ≡ Less) ns → list_all (λ m. no_before n m) ns ≡ true
all_behind n [] h = refl
all_behind n (m ∷ ms) h = joined (no_before n m) (list_all (λ k. no_before n k) ms) (ap is_lt h.0) (all_behind n ms h.1)

pub rising_is : (ns : List LeaseNo) → IsStrictlySortedBy no_cmp ns → is_rising ns ≡ true
unfolding IsStrictlySortedBy
rising_is [] h = refl
rising_is (n ∷ ns) h = joined (list_all (λ m. no_before n m) ns) (is_rising ns) (all_behind n ns h.0) (rising_is ns h.1)

absorbed : (a b : Bool) → (a || b) ≡ (a || (a || b))
absorbed true b = refl
absorbed false b = refl

once_from : (k x : LeaseNo) (xs : List LeaseNo) → has_number k (dedup_from same_no x xs) ≡ has_number k (x ∷ xs)
once_from k x [] = refl
once_from k x (y ∷ ys) = elim (same_no y x) as (λ b. same_no y x ≡ b → has_number k (cond b (dedup_from same_no x ys) (x ∷ dedup_from same_no y ys)) ≡ has_number k (x ∷ y ∷ ys)) [
  | true ↦ λ t. once_from k x ys ∙ absorbed (same_no x k) (has_number k ys) ∙ ap (λ z. same_no x k || (same_no z k || has_number k ys)) (sym (same_no_is y x t))
  | false ↦ λ t. ap (λ b. same_no x k || b) (once_from k y ys)
] refl

pub told_once : (k : LeaseNo) (xs : List LeaseNo) → has_number k (dedup same_no xs) ≡ has_number k xs
told_once k [] = refl
told_once k (x ∷ xs) = once_from k x xs
