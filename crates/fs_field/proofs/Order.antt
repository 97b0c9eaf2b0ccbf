-- Rows in order of number.
use Rattle.std.proofs.Common.{◌≡◌, ℕ, ◌==◌, ◌&&◌, ◌⊎◌, Bool, true, false, List, [], ◌∷◌, refl, ap, cond, sym, ◌∙◌, map, inl, inr, arith}
use Rattle.std.specs.Prelude.{Some}
use Rattle.std.specs.List.{filter, find, list_all, list_any}
use Rattle.std.specs.Ordering.{nat_cmp, is_lt, ordering_then}
use Rattle.std.specs.Cmp.{IsTotalOrder, nat_cmp_total}
use Rattle.std.specs.declared.cmp.Ordering.{Ordering}
use Rattle.std.proofs.lemmas.Cmp.{then_total, on_total, tied_itself}
use Rattle.std.proofs.lemmas.Bool.Decides.{nat_tests}
use Rattle.fs_ident.proofs.Booleans.{both, joined, neither, less}
use Rattle.fs_ident.specs.declared.actor.LeaseNo.{LeaseNo}
use Rattle.fs_field.specs.declared.row.Row.{Row}
use Rattle.fs_ident.specs.In.{In}
use Rattle.fs_field.specs.Table.{same_no, no_before, is_ordered, has_no, with_row}
use Rattle.fs_ident.proofs.Standing.{In-filter, In-put, In-map}
use Rattle.fs_ident.proofs.Passing.{all-In, In-all}

abbrev no_cmp : LeaseNo → LeaseNo → Ordering
no_cmp a b = ordering_then (nat_cmp a.server b.server) (nat_cmp a.count b.count)

no_total : IsTotalOrder no_cmp
no_total = then_total (on_total (λ (n : LeaseNo). n.server) nat_cmp_total) (on_total (λ (n : LeaseNo). n.count) nat_cmp_total)

pub before_trans : (a b c : LeaseNo) → no_before a b ≡ true → no_before b c ≡ true → no_before a c ≡ true
before_trans a b c p q = ap is_lt (no_total.trans a b c (less (no_cmp a b) p) (less (no_cmp b c) q))

one_way : (a b c d : ℕ) → ((a == c) && (b == d)) ≡ false → is_lt (ordering_then (nat_cmp c a) (nat_cmp d b)) ≡ false → is_lt (ordering_then (nat_cmp a c) (nat_cmp b d)) ≡ true
one_way a b c d h k = grind (arith, nat_tests)

-- of two numbers that differ one comes first
pub before_or_after : (a b : LeaseNo) → same_no a b ≡ false → no_before b a ≡ false → no_before a b ≡ true
before_or_after a b h k = one_way a.server a.count b.server b.count h k

-- the number comes before those of all rows
abbrev first : LeaseNo → List Row → Bool
first number rows = list_all (λ s. no_before number s.no) rows

pub ordered_filter : (test : Row → Bool) (rows : List Row) → is_ordered rows ≡ true → is_ordered (filter test rows) ≡ true
ordered_filter test [] h = refl
ordered_filter test (r ∷ rs) h =
    let q : (first r.no rs ≡ true) × (is_ordered rs ≡ true) = both (first r.no rs) (is_ordered rs) h in
    elim (test r) as (λ b. is_ordered (cond b (r ∷ filter test rs) (filter test rs)) ≡ true) [
      | true ↦ joined (first r.no (filter test rs)) (is_ordered (filter test rs))
          (In-all (λ s. no_before r.no s.no) (filter test rs) (λ x i. all-In (λ s. no_before r.no s.no) rs q.0 x (In-filter test x rs i)))
          (ordered_filter test rs q.1)
      | false ↦ ordered_filter test rs q.1
    ]

pub ordered_map : (f : Row → Row) → ((r : Row) → (f r).no ≡ r.no) → (rows : List Row) → is_ordered rows ≡ true → is_ordered (map f rows) ≡ true
ordered_map f same [] h = refl
ordered_map f same (r ∷ rs) h =
    let q : (first r.no rs ≡ true) × (is_ordered rs ≡ true) = both (first r.no rs) (is_ordered rs) h in
    joined (first (f r).no (map f rs)) (is_ordered (map f rs))
    (In-all (λ s. no_before (f r).no s.no) (map f rs) (λ x i.
    let found : (y : Row) × (In y rs × (x ≡ f y)) = In-map f x rs i in
    ap (λ (z : Row). no_before (f r).no z.no) found.1.1
    ∙ ap (λ n. no_before n (f found.0).no) (same r)
    ∙ ap (λ n. no_before r.no n) (same found.0)
    ∙ all-In (λ s. no_before r.no s.no) rs q.0 found.0 found.1.0))
    (ordered_map f same rs q.1)

-- a row behind those that have no greater number than it
placed : (row r x : Row) (rs : List Row) → has_no row.no r ≡ false → no_before row.no r.no ≡ false → first r.no rs ≡ true → (x ≡ row) ⊎ In x rs → no_before r.no x.no ≡ true
placed row r x rs h k f i =
    elim i [
      | inl e ↦ ap (λ (z : Row). no_before r.no z.no) e ∙ before_or_after r.no row.no h k
      | inr j ↦ all-In (λ s. no_before r.no s.no) rs f x j
    ]

pub ordered_put : (row : Row) (rows : List Row) → list_any (has_no row.no) rows ≡ false → is_ordered rows ≡ true → is_ordered (with_row row rows) ≡ true
ordered_put row [] n h = refl
ordered_put row (r ∷ rs) n h =
    let q : (first r.no rs ≡ true) × (is_ordered rs ≡ true) = both (first r.no rs) (is_ordered rs) h in
    let k : (has_no row.no r ≡ false) × (list_any (has_no row.no) rs ≡ false) = neither (has_no row.no r) (list_any (has_no row.no) rs) n in
    elim (no_before row.no r.no) as (λ b. no_before row.no r.no ≡ b → is_ordered (cond b (row ∷ r ∷ rs) (r ∷ with_row row rs)) ≡ true) [
      | true ↦ λ e. joined (first row.no (r ∷ rs)) (is_ordered (r ∷ rs))
          (joined (no_before row.no r.no) (first row.no rs) e (In-all (λ s. no_before row.no s.no) rs (λ x i. before_trans row.no r.no x.no e (all-In (λ s. no_before r.no s.no) rs q.0 x i))))
          h
      | false ↦ λ e. joined (first r.no (with_row row rs)) (is_ordered (with_row row rs))
          (In-all (λ s. no_before r.no s.no) (with_row row rs) (λ x i. placed row r x rs k.0 e q.0 (In-put (λ s. no_before row.no s.no) x row rs i)))
          (ordered_put row rs k.1 q.1)
    ] refl

-- of the rows that pass, the first found has the least number
pub found_least : (test : Row → Bool) (rows : List Row) (r : Row) → is_ordered rows ≡ true → find test rows ≡ Some r → (x : Row) → In x rows → test x ≡ true → (x ≡ r) ⊎ (no_before r.no x.no ≡ true)
found_least test [] r o h x i t = absurd i
found_least test (y ∷ ys) r o h x i t =
    let q : (first y.no ys ≡ true) × (is_ordered ys ≡ true) = both (first y.no ys) (is_ordered ys) o in
    elim (test y) as (λ b. test y ≡ b → cond b (Some y) (find test ys) ≡ Some r → (x ≡ r) ⊎ (no_before r.no x.no ≡ true)) [
      | true ↦ λ e g. let same : y ≡ r = cc in elim i [
        | inl p ↦ inl (p ∙ same)
        | inr j ↦ inr (ap (λ (z : Row). no_before z.no x.no) (sym same) ∙ all-In (λ s. no_before y.no s.no) ys q.0 x j)
      ]
      | false ↦ λ e g. elim i [
        | inl p ↦ let wrong : true ≡ false = sym t ∙ ap test p ∙ e in absurd (cc)
        | inr j ↦ found_least test ys r q.1 g x j t
      ]
    ] refl h

never_itself : (number : LeaseNo) → no_before number number ≡ false
never_itself number = ap is_lt (tied_itself no_total number)

-- a row does not have the number of one that comes before it
later : (r a b : Row) (rs : List Row) → first r.no rs ≡ true → a ≡ r → In b rs → a.no ≡ b.no → no_before b.no b.no ≡ true
later r a b rs f e i n = ap (λ m. no_before m b.no) (sym n ∙ ap (λ (z : Row). z.no) e) ∙ all-In (λ s. no_before r.no s.no) rs f b i

pub one_of_number : (rows : List Row) → is_ordered rows ≡ true → (a b : Row) → In a rows → In b rows → a.no ≡ b.no → a ≡ b
one_of_number [] h a b i j n = absurd i
one_of_number (r ∷ rs) h a b i j n =
    let q : (first r.no rs ≡ true) × (is_ordered rs ≡ true) = both (first r.no rs) (is_ordered rs) h in
    elim i [
      | inl p ↦ elim j [
        | inl o ↦ p ∙ sym o
        | inr l ↦ let wrong : true ≡ false = sym (later r a b rs q.0 p l n) ∙ never_itself b.no in absurd (cc)
      ]
      | inr k ↦ elim j [
        | inl o ↦ let wrong : true ≡ false = sym (later r b a rs q.0 o k (sym n)) ∙ never_itself a.no in absurd (cc)
        | inr l ↦ one_of_number rs q.1 a b k l n
      ]
    ]
