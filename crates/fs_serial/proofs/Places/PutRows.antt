-- Rows that are put among others: in which order does not matter, where no two have one number.
use Rattle.std.proofs.Common.{◌≡◌, ℕ, ◌==◌, ◌&&◌, not, true, false, List, [], ◌∷◌, ◌++◌, refl, ap, cond, subst, sym, ◌∙◌, inl, inr, arith}
use Rattle.std.specs.Ordering.{nat_cmp, is_lt, ordering_then}
use Rattle.std.proofs.lemmas.Bool.Decides.{nat_tests}
use Rattle.fs_ident.specs.declared.actor.LeaseNo.{LeaseNo}
use Rattle.fs_ident.specs.In.{In}
use Rattle.fs_ident.proofs.Booleans.{both}
use Rattle.fs_ident.proofs.Passing.{all-In}
use Rattle.fs_ident.proofs.Standing.{In-put_here}
use Rattle.fs_field.specs.declared.row.Row.{Row}
use Rattle.fs_field.specs.Table.{has_no, is_ordered, no_before, same_no, with_row}
use Rattle.fs_field.proofs.Order.{before_trans}
use Rattle.fs_field.proofs.SameNo.{same_no_symm}
use Rattle.fs_rows.specs.Granted.{with_rows}
use Rattle.fs_record.proofs.NodeValues.{turned}
use Rattle.fs_parcel.proofs.Both.{leads, ordered_before}
use Rattle.fs_serial.proofs.Grants.Leased.{In-put_still}

-- ## Two rows

other_way : (a b c d : ℕ) → ((a == c) && (b == d)) ≡ false → is_lt (ordering_then (nat_cmp a c) (nat_cmp b d)) ≡ not (is_lt (ordering_then (nat_cmp c a) (nat_cmp d b)))
other_way a b c d h = grind (arith, nat_tests)

-- of two numbers that differ exactly one comes first
one_first : (a b : LeaseNo) → same_no a b ≡ false → no_before a b ≡ not (no_before b a)
one_first a b h = other_way a.server a.count b.server b.count h

differing : (a b c d : ℕ) → is_lt (ordering_then (nat_cmp a c) (nat_cmp b d)) ≡ true → ((c == a) && (d == b)) ≡ false
differing a b c d h = grind (arith, nat_tests)

-- one that comes first is another
before_differs : (a b : LeaseNo) → no_before a b ≡ true → same_no b a ≡ false
before_differs a b h = differing a.server a.count b.server b.count h

-- what does not come before a number does not come before one that is before it
not_first : (a b y : LeaseNo) → no_before b y ≡ true → no_before a y ≡ false → no_before a b ≡ false
not_first a b y q p =
    elim (no_before a b) as (λ c. no_before a b ≡ c → c ≡ false) [
      | true ↦ λ e. let wrong : true ≡ false = sym (before_trans a b y e q) ∙ p in absurd (cc)
      | false ↦ λ e. refl
    ] refl

-- two rows with different numbers, each put in
pub put_swap : (a b : Row) (rows : List Row) → same_no a.no b.no ≡ false → with_row a (with_row b rows) ≡ with_row b (with_row a rows)
put_swap a b [] h = ap (λ c. cond c (a ∷ b ∷ []) (b ∷ a ∷ [])) (one_first a.no b.no h) ∙ turned (no_before b.no a.no) (a ∷ b ∷ []) (b ∷ a ∷ [])
put_swap a b (y ∷ ys) h =
    elim (no_before b.no y.no) as (λ q. no_before b.no y.no ≡ q → with_row a (cond q (b ∷ y ∷ ys) (y ∷ with_row b ys)) ≡ with_row b (cond (no_before a.no y.no) (a ∷ y ∷ ys) (y ∷ with_row a ys))) [
      | true ↦ λ e. elim (no_before a.no y.no) as (λ p. no_before a.no y.no ≡ p → cond (no_before a.no b.no) (a ∷ b ∷ y ∷ ys) (b ∷ cond p (a ∷ y ∷ ys) (y ∷ with_row a ys)) ≡ with_row b (cond p (a ∷ y ∷ ys) (y ∷ with_row a ys))) [
        | true ↦ λ d.
            ap (λ c. cond c (a ∷ b ∷ y ∷ ys) (b ∷ a ∷ y ∷ ys)) (one_first a.no b.no h)
            ∙ turned (no_before b.no a.no) (a ∷ b ∷ y ∷ ys) (b ∷ a ∷ y ∷ ys)
            ∙ sym (ap (λ q. cond (no_before b.no a.no) (b ∷ a ∷ y ∷ ys) (a ∷ cond q (b ∷ y ∷ ys) (y ∷ with_row b ys))) e)
        | false ↦ λ d.
            ap (λ c. cond c (a ∷ b ∷ y ∷ ys) (b ∷ y ∷ with_row a ys)) (not_first a.no b.no y.no e d)
            ∙ sym (ap (λ q. cond q (b ∷ y ∷ with_row a ys) (y ∷ with_row b (with_row a ys))) e)
      ] refl
      | false ↦ λ e. elim (no_before a.no y.no) as (λ p. no_before a.no y.no ≡ p → cond p (a ∷ y ∷ with_row b ys) (y ∷ with_row a (with_row b ys)) ≡ with_row b (cond p (a ∷ y ∷ ys) (y ∷ with_row a ys))) [
        | true ↦ λ d. sym (
            ap (λ c. cond c (b ∷ a ∷ y ∷ ys) (a ∷ cond (no_before b.no y.no) (b ∷ y ∷ ys) (y ∷ with_row b ys))) (not_first b.no a.no y.no d e)
            ∙ ap (λ q. a ∷ cond q (b ∷ y ∷ ys) (y ∷ with_row b ys)) e)
        | false ↦ λ d.
            ap (λ rows. y ∷ rows) (put_swap a b ys h)
            ∙ sym (ap (λ q. cond q (b ∷ y ∷ with_row a ys) (y ∷ with_row b (with_row a ys))) e)
      ] refl
    ] refl

-- ## Several rows

-- the number is none of these rows'
abbrev pub IsOther : Row → List Row → Type 0
IsOther r rows = (x : Row) → In x rows → has_no r.no x ≡ false

-- one row goes past several with other numbers
pub put_past : (a : Row) (xs rows : List Row) → IsOther a xs → with_rows xs (with_row a rows) ≡ with_row a (with_rows xs rows)
put_past a [] rows h = refl
put_past a (x ∷ xs) rows h = ap (with_rows xs) (put_swap x a rows (h x (inl refl))) ∙ put_past a xs (with_row x rows) (λ y i. h y (inr i))

-- and several go past several
pub puts_swap : (xs ys rows : List Row) → ((x : Row) → In x xs → IsOther x ys) → with_rows xs (with_rows ys rows) ≡ with_rows ys (with_rows xs rows)
puts_swap [] ys rows h = refl
puts_swap (x ∷ xs) ys rows h = ap (with_rows xs) (sym (put_past x ys rows (h x (inl refl)))) ∙ puts_swap xs ys (with_row x rows) (λ a i. h a (inr i))

pub puts-append : (xs ys rows : List Row) → with_rows (xs ++ ys) rows ≡ with_rows ys (with_rows xs rows)
puts-append [] ys rows = refl
puts-append (x ∷ xs) ys rows = puts-append xs ys (with_row x rows)

-- ## What stands among them

pub In-puts_still : (x : Row) (xs rows : List Row) → In x rows → In x (with_rows xs rows)
In-puts_still x [] rows i = i
In-puts_still x (y ∷ ys) rows i = In-puts_still x ys (with_row y rows) (In-put_still (λ r. no_before y.no r.no) x y rows i)

pub In-puts_here : (x : Row) (xs rows : List Row) → In x xs → In x (with_rows xs rows)
In-puts_here x [] rows i = absurd i
In-puts_here x (y ∷ ys) rows (inl e) = In-puts_still x ys (with_row y rows) (here e) where
  here : x ≡ y → In x (with_row y rows)
  here e = subst (λ z. In z (with_row y rows)) (sym e) (In-put_here (λ r. no_before y.no r.no) y rows)
In-puts_here x (y ∷ ys) rows (inr i) = In-puts_here x ys (with_row y rows) i

-- ## Numbers

-- where one row more leaves the rows in order its number is new
pub put_other : (r : Row) (rows : List Row) → is_ordered (with_row r rows) ≡ true → IsOther r rows
put_other r [] h x i = absurd i
put_other r (y ∷ ys) h x i =
    elim (no_before r.no y.no) as (λ b. is_ordered (cond b (r ∷ y ∷ ys) (y ∷ with_row r ys)) ≡ true → has_no r.no x ≡ false) [
      | true ↦ λ g. before_differs r.no x.no (all-In (λ s. no_before r.no s.no) (y ∷ ys) (both (leads r (y ∷ ys)) (is_ordered (y ∷ ys)) g).0 x i)
      | false ↦ λ g.
          let q : (leads y (with_row r ys) ≡ true) × (is_ordered (with_row r ys) ≡ true) = both (leads y (with_row r ys)) (is_ordered (with_row r ys)) g in
          elim i as (λ _. has_no r.no x ≡ false) [
            | inl e ↦ ap (λ (z : Row). has_no r.no z) e ∙ same_no_symm y.no r.no ∙ before_differs y.no r.no (all-In (λ s. no_before y.no s.no) (with_row r ys) q.0 r (In-put_here (λ s. no_before r.no s.no) r ys))
            | inr j ↦ put_other r ys q.1 x j
          ]
    ] h

-- the same of several
pub puts_other : (xs rows : List Row) → is_ordered (with_rows xs rows) ≡ true → (x : Row) → In x xs → IsOther x rows
puts_other [] rows h x i r j = absurd i
puts_other (y ∷ ys) rows h x (inl e) r j = ap (λ (z : Row). has_no z.no r) e ∙ put_other y rows (ordered_before ys (with_row y rows) h) r j
puts_other (y ∷ ys) rows h x (inr i) r j = puts_other ys (with_row y rows) h x i r (In-put_still (λ s. no_before y.no s.no) r y rows j)
