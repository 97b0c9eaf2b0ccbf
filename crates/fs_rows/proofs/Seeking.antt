-- Rows by number, and the first of those with given numbers.
use Rattle.std.proofs.Common.{◌≡◌, ◌==◌, ◌&&◌, ◌||◌, ◌+◌, ◌<◌, ◌≤◌, ◌∷◌, ℕ, zero, suc, Bool, true, false, not, List, [], refl, ap, cond, sym, ◌∙◌, length, take, get_or, arith, inl, inr}
use Rattle.std.specs.Prelude.{Option, Some, None, nat_lt, unwrap_or}
use Rattle.std.specs.List.{find, list_all, position, position_or_len}
use Rattle.std.specs.List.Sorted.{IsPartitionedBy, IsPartitionPoint}
use Rattle.std.specs.Ordering.{nat_cmp, is_lt, ordering_then}
use Rattle.std.proofs.lemmas.Bool.Decides.{nat_tests}
use Rattle.std.proofs.lemmas.List.{take_more, take_all}
use Rattle.std.proofs.lemmas.List.Folds.{list_any-append}
use Rattle.std.proofs.Math.Bool.{or-false}
use Rattle.fs_ident.specs.In.{In}
use Rattle.fs_ident.specs.declared.actor.LeaseNo.{LeaseNo}
use Rattle.fs_ident.proofs.Booleans.{both}
use Rattle.fs_ident.proofs.Passing.{all-In}
use Rattle.fs_field.specs.declared.row.Row.{Row}
use Rattle.fs_field.specs.Table.{same_no, has_no, no_before, is_ordered}
use Rattle.fs_field.proofs.Order.{before_trans, before_or_after}
use Rattle.fs_field.proofs.Places.{place_is}
use Rattle.fs_field.proofs.SameNo.{same_no_symm, same_no_is}
use Rattle.fs_rows.specs.Index.{has_number}
use Rattle.fs_rows.specs.Sought.{lesser_row}

apart : (a b c d : ℕ) → is_lt (ordering_then (nat_cmp a c) (nat_cmp b d)) ≡ true → ((a == c) && (b == d)) ≡ false
apart a b c d h = grind (arith, nat_tests)

one_way : (a b c d : ℕ) → is_lt (ordering_then (nat_cmp a c) (nat_cmp b d)) ≡ true → is_lt (ordering_then (nat_cmp c a) (nat_cmp d b)) ≡ false
one_way a b c d h = grind (arith, nat_tests)

pub unlike : (a b : LeaseNo) → no_before a b ≡ true → same_no a b ≡ false
unlike a b h = apart a.server a.count b.server b.count h

pub not_back : (a b : LeaseNo) → no_before a b ≡ true → no_before b a ≡ false
not_back a b h = one_way a.server a.count b.server b.count h

-- ## The row of a number

none_behind : (m : LeaseNo) (rows : List Row) → list_all (λ s. no_before m s.no) rows ≡ true → find (has_no m) rows ≡ None
none_behind m [] h = refl
none_behind m (r ∷ rs) h =
    let q = both (no_before m r.no) (list_all (λ s. no_before m s.no) rs) h in
    ap (λ b. cond b (Some r) (find (has_no m) rs)) (same_no_symm r.no m ∙ unlike m r.no q.0) ∙ none_behind m rs q.1

further : (a b : LeaseNo) (rows : List Row) → no_before a b ≡ true → list_all (λ s. no_before b s.no) rows ≡ true → list_all (λ s. no_before a s.no) rows ≡ true
further a b [] h k = refl
further a b (r ∷ rs) h k =
    let q = both (no_before b r.no) (list_all (λ s. no_before b s.no) rs) k in
    ap (λ t. t && list_all (λ s. no_before a s.no) rs) (before_trans a b r.no h q.0) ∙ further a b rs h q.1

first_or_none : (m : LeaseNo) (r : Row) (rs : List Row) → list_all (λ s. no_before r.no s.no) rs ≡ true → no_before r.no m ≡ false → cond (same_no r.no m) (Some r) (find (has_no m) rs) ≡ cond (same_no r.no m) (Some r) None
first_or_none m r rs h k = elim (same_no r.no m) as (λ b. same_no r.no m ≡ b → cond b (Some r) (find (has_no m) rs) ≡ cond b (Some r) None) [
  | true ↦ λ e. refl
  | false ↦ λ e. none_behind m rs (further m r.no rs (before_or_after m r.no (same_no_symm m r.no ∙ e) k) h)
] refl

-- those before the place have lesser numbers, and those from it on have not
abbrev pub IsPlace : LeaseNo → List Row → ℕ → Type 0
IsPlace m rows i = ((k : ℕ) (d : Row) → k < i → k < length rows → no_before (get_or rows k d).no m ≡ true) × ((k : ℕ) (d : Row) → i ≤ k → k < length rows → no_before (get_or rows k d).no m ≡ false)

behind_one : (m : LeaseNo) (r : Row) (rs : List Row) (i : ℕ) → IsPlace m (r ∷ rs) (suc i) → IsPlace m rs i
behind_one m r rs i p = (λ k d l n. p.0 (suc k) d (omega arith) (omega arith), λ k d l n. p.1 (suc k) d (omega arith) (omega arith))

at_here : (m : LeaseNo) (rows : List Row) (i : ℕ) (x : Row) → is_ordered rows ≡ true → IsPlace m rows i → i < length rows → x ≡ get_or rows i x → find (has_no m) rows ≡ cond (same_no x.no m) (Some x) None
at_here m [] i x o p l e = absurd (omega arith)
at_here m (r ∷ rs) zero x o p l e =
    let q = both (list_all (λ s. no_before r.no s.no) rs) (is_ordered rs) o in
    first_or_none m r rs q.0 (p.1 0 r (omega arith) (omega arith)) ∙ ap (λ (z : Row). cond (same_no z.no m) (Some z) None) (sym e)
at_here m (r ∷ rs) (suc i) x o p l e =
    let q = both (list_all (λ s. no_before r.no s.no) rs) (is_ordered rs) o in
    ap (λ t. cond t (Some r) (find (has_no m) rs)) (unlike r.no m (p.0 0 r (omega arith) (omega arith))) ∙ at_here m rs i x q.1 (behind_one m r rs i p) (omega arith) e

at_end : (m : LeaseNo) (rows : List Row) (i : ℕ) → IsPlace m rows i → length rows ≤ i → find (has_no m) rows ≡ None
at_end m [] i p l = refl
at_end m (r ∷ rs) zero p l = absurd (omega arith)
at_end m (r ∷ rs) (suc i) p l = ap (λ t. cond t (Some r) (find (has_no m) rs)) (unlike r.no m (p.0 0 r (omega arith) (omega arith))) ∙ at_end m rs i (behind_one m r rs i p) (omega arith)

pub below : (i n : ℕ) → true ≡ nat_lt i n → i < n
below i n h = grind (arith, nat_tests)

not_below : (i n : ℕ) → false ≡ nat_lt i n → n ≤ i
not_below i n h = grind (arith, nat_tests)

pub In-there : (xs : List Row) (k : ℕ) (d : Row) → k < length xs → In (get_or xs k d) xs
In-there [] k d l = absurd (omega arith)
In-there (x ∷ xs) zero d l = inl refl
In-there (x ∷ xs) (suc k) d l = inr (In-there xs k d (omega arith))

-- the numbers rise
rises : (m : LeaseNo) (rows : List Row) → is_ordered rows ≡ true → (i j : ℕ) (d : Row) → i ≤ j → j < length rows → no_before (get_or rows j d).no m ≡ true → no_before (get_or rows i d).no m ≡ true
rises m [] o i j d l n h = absurd (omega arith)
rises m (r ∷ rs) o zero zero d l n h = h
rises m (r ∷ rs) o zero (suc j) d l n h =
    let q = both (list_all (λ s. no_before r.no s.no) rs) (is_ordered rs) o in
    before_trans r.no (get_or rs j d).no m (all-In (λ s. no_before r.no s.no) rs q.0 (get_or rs j d) (In-there rs j d (omega arith))) h
rises m (r ∷ rs) o (suc i) zero d l n h = absurd (omega arith)
rises m (r ∷ rs) o (suc i) (suc j) d l n h = rises m rs (both (list_all (λ s. no_before r.no s.no) rs) (is_ordered rs) o).1 i j d (omega arith) (omega arith) h

pub partitioned : (m : LeaseNo) (rows : List Row) → is_ordered rows ≡ true → IsPartitionedBy (λ (r : Row). no_before r.no m) rows
partitioned m rows o = rises m rows o

-- ## The first of some rows

abbrev Test : Type 0
Test = Row → Bool

pub find_alike : (p q : Test) → (rows : List Row) → ((r : Row) → In r rows → p r ≡ q r) → find p rows ≡ find q rows
find_alike p q [] h = refl
find_alike p q (r ∷ rs) h = ap (λ b. cond b (Some r) (find p rs)) (h r (inl refl)) ∙ ap (cond (q r) (Some r)) (find_alike p q rs (λ x i. h x (inr i)))

found_In : (test : Test) (rows : List Row) (r : Row) → find test rows ≡ Some r → In r rows
found_In test [] r e = absurd (cc)
found_In test (x ∷ xs) r e = elim (test x) as (λ b. cond b (Some x) (find test xs) ≡ Some r → In r (x ∷ xs)) [
  | true ↦ λ g. let same : x ≡ r = cc in inl (sym same)
  | false ↦ λ g. inr (found_In test xs r g)
] e

itself_or : (b : Bool) (r : Row) → Some r ≡ cond b (Some r) (Some r)
itself_or true r = refl
itself_or false r = refl

first_is : (r : Row) (o : Option Row) → ((y : Row) → o ≡ Some y → no_before r.no y.no ≡ true) → Some r ≡ lesser_row (Some r) o
first_is r None h = refl
first_is r (Some y) h = sym (ap (λ b. cond b (Some y) (Some r)) (not_back r.no y.no (h y refl)))

second_is : (r : Row) (o : Option Row) → ((y : Row) → o ≡ Some y → no_before r.no y.no ≡ true) → Some r ≡ lesser_row o (Some r)
second_is r None h = refl
second_is r (Some y) h = sym (ap (λ b. cond b (Some r) (Some y)) (h y refl))

pub first_of_either : (p q : Test) (rows : List Row) → is_ordered rows ≡ true → find (λ r. p r || q r) rows ≡ lesser_row (find p rows) (find q rows)
first_of_either p q [] o = refl
first_of_either p q (r ∷ rs) o =
    let h = both (list_all (λ s. no_before r.no s.no) rs) (is_ordered rs) o in
    let behind = λ (t : Test) (y : Row) (e : find t rs ≡ Some y). all-In (λ s. no_before r.no s.no) rs h.0 y (found_In t rs y e) in
    elim (p r) as (λ b. cond (b || q r) (Some r) (find (λ x. p x || q x) rs) ≡ lesser_row (cond b (Some r) (find p rs)) (cond (q r) (Some r) (find q rs))) [
      | true ↦ elim (q r) as (λ c. Some r ≡ lesser_row (Some r) (cond c (Some r) (find q rs))) [
        | true ↦ itself_or (no_before r.no r.no) r
        | false ↦ first_is r (find q rs) (behind q)
      ]
      | false ↦ elim (q r) as (λ c. cond c (Some r) (find (λ x. p x || q x) rs) ≡ lesser_row (find p rs) (cond c (Some r) (find q rs))) [
        | true ↦ second_is r (find p rs) (behind p)
        | false ↦ first_of_either p q rs h.1
      ]
    ]

pub both_or : (a b c : Bool) → ((a || b) && c) ≡ ((a && c) || (b && c))
both_or true true true = refl
both_or true true false = refl
both_or true false true = refl
both_or true false false = refl
both_or false b c = refl

-- one number further
pub among_step : (t : Test) (rows : List Row) (ns : List LeaseNo) (i : ℕ) (d : LeaseNo) (least next : Option Row) → is_ordered rows ≡ true → i < length ns
    → least ≡ find (λ r. has_number r.no (take i ns) && t r) rows → next ≡ find (λ r. has_no (get_or ns i d) r && t r) rows → lesser_row least next ≡ find (λ r. has_number r.no (take (i + 1) ns) && t r) rows
among_step t rows ns i d least next o l a b =
    let n : LeaseNo = get_or ns i d in
    ap (λ x. lesser_row x next) a ∙ ap (lesser_row (find (λ r. has_number r.no (take i ns) && t r) rows)) b
    ∙ sym (first_of_either (λ r. has_number r.no (take i ns) && t r) (λ r. has_no n r && t r) rows o)
    ∙ find_alike (λ r. (has_number r.no (take i ns) && t r) || (has_no n r && t r)) (λ r. has_number r.no (take (i + 1) ns) && t r) rows (λ r j.
    sym (ap (λ xs. has_number r.no xs && t r) (take_more ns i d l)
    ∙ ap (λ b. b && t r) (list_any-append (λ m. same_no m r.no) (take i ns) (n ∷ []) ∙ ap (λ b. has_number r.no (take i ns) || b) (or-false (same_no n r.no) ∙ same_no_symm n r.no))
    ∙ both_or (has_number r.no (take i ns)) (has_no n r) (t r)))

-- a row that is found by its number, and passes
pub passing : (t : Test) (rows : List Row) (n : LeaseNo) → is_ordered rows ≡ true → (r : Row) → find (has_no n) rows ≡ Some r → find (λ x. has_no n x && t x) rows ≡ cond (t r) (Some r) None
passing t [] n o r e = absurd (cc)
passing t (x ∷ xs) n o r e =
    let h = both (list_all (λ s. no_before x.no s.no) xs) (is_ordered xs) o in
    elim (has_no n x) as (λ b. has_no n x ≡ b → cond b (Some x) (find (has_no n) xs) ≡ Some r → cond (b && t x) (Some x) (find (λ y. has_no n y && t y) xs) ≡ cond (t r) (Some r) None) [
      | true ↦ λ s g. let same : x ≡ r = cc in
          elim (t x) as (λ c. t x ≡ c → cond c (Some x) (find (λ y. has_no n y && t y) xs) ≡ cond (t r) (Some r) None) [
            | true ↦ λ u. ap Some same ∙ sym (ap (λ c. cond c (Some r) None) (ap t (sym same) ∙ u))
            | false ↦ λ u. none_pass_behind t n xs (ap (λ m. list_all (λ s. no_before m s.no) xs) (sym (same_no_is x.no n s)) ∙ h.0) ∙ sym (ap (λ c. cond c (Some r) None) (ap t (sym same) ∙ u))
          ] refl
      | false ↦ λ s g. passing t xs n h.1 r g
    ] refl e
  where
    none_pass_behind : (t : Test) (n : LeaseNo) (ys : List Row) → list_all (λ s. no_before n s.no) ys ≡ true → find (λ y. has_no n y && t y) ys ≡ None
    none_pass_behind t n [] k = refl
    none_pass_behind t n (y ∷ ys) k =
        let q = both (no_before n y.no) (list_all (λ s. no_before n s.no) ys) k in
        ap (λ b. cond (b && t y) (Some y) (find (λ z. has_no n z && t z) ys)) (same_no_symm y.no n ∙ unlike n y.no q.0) ∙ none_pass_behind t n ys q.1

pub none_passing : (t : Test) (rows : List Row) (n : LeaseNo) → find (has_no n) rows ≡ None → find (λ x. has_no n x && t x) rows ≡ None
none_passing t [] n e = refl
none_passing t (x ∷ xs) n e = elim (has_no n x) as (λ b. cond b (Some x) (find (has_no n) xs) ≡ None → cond (b && t x) (Some x) (find (λ y. has_no n y && t y) xs) ≡ None) [
  | true ↦ λ g. absurd (cc)
  | false ↦ λ g. none_passing t xs n g
] e

pub none_among : (t : Test) (rows : List Row) → None ≡ find (λ r. has_number r.no [] && t r) rows
none_among t [] = refl
none_among t (r ∷ rs) = none_among t rs

pub all_among : (t : Test) (rows : List Row) (ns : List LeaseNo) (i : ℕ) (o : Option Row) → length ns ≤ i → o ≡ find (λ r. has_number r.no (take i ns) && t r) rows → o ≡ find (λ r. has_number r.no ns && t r) rows
all_among t rows ns i o l e = e ∙ ap (λ xs. find (λ r. has_number r.no xs && t r) rows) (take_all i ns l)

-- ## The place of a new row

one_more : (i : ℕ) → 1 + i ≡ suc i
one_more i = omega arith

place_there : (m : LeaseNo) (rows : List Row) (i : ℕ) → i ≤ length rows → ((k : ℕ) (d : Row) → k < i → k < length rows → not (no_before m (get_or rows k d).no) ≡ true) → ((k : ℕ) (d : Row) → i ≤ k → k < length rows → not (no_before m (get_or rows k d).no) ≡ false) → position_or_len (λ (r : Row). no_before m r.no) rows ≡ i
place_there m [] zero l f b = refl
place_there m [] (suc i) l f b = absurd (omega arith)
place_there m (r ∷ rs) zero l f b = ap (λ t. cond t (1 + position_or_len (λ (r : Row). no_before m r.no) rs) 0) (b 0 r (omega arith) (omega arith))
place_there m (r ∷ rs) (suc i) l f b =
    ap (λ t. cond t (1 + position_or_len (λ (r : Row). no_before m r.no) rs) 0) (f 0 r (omega arith) (omega arith))
    ∙ ap (λ n. 1 + n) (place_there m rs i (omega arith) (λ k d g n. f (suc k) d (omega arith) (omega arith)) (λ k d g n. b (suc k) d (omega arith) (omega arith)))
    ∙ one_more i

pub placed : (m : LeaseNo) (rows : List Row) (i : ℕ) → i ≤ length rows → IsPartitionPoint (λ (r : Row). not (no_before m r.no) ≡ true) (λ (r : Row). not (no_before m r.no) ≡ false) rows i → i ≡ unwrap_or (position (λ (r : Row). no_before m r.no) rows) (length rows)
placed m rows i l p = sym (place_is (λ (r : Row). no_before m r.no) rows ∙ place_there m rows i l (λ k d g n. p.0 k d (omega arith) g) (λ k d g n. p.1 k d g n))

flip : (a b : Bool) → (b ≡ true → a ≡ true) → not a ≡ true → not b ≡ true
flip true b h k = absurd (cc)
flip false true h k = let wrong : false ≡ true = h refl in absurd (cc)
flip false false h k = refl

falls : (m : LeaseNo) (rows : List Row) → is_ordered rows ≡ true → (i j : ℕ) (d : Row) → i ≤ j → j < length rows → no_before m (get_or rows i d).no ≡ true → no_before m (get_or rows j d).no ≡ true
falls m [] o i j d l n h = absurd (omega arith)
falls m (r ∷ rs) o zero zero d l n h = h
falls m (r ∷ rs) o zero (suc j) d l n h =
    let q = both (list_all (λ s. no_before r.no s.no) rs) (is_ordered rs) o in
    before_trans m r.no (get_or rs j d).no h (all-In (λ s. no_before r.no s.no) rs q.0 (get_or rs j d) (In-there rs j d (omega arith)))
falls m (r ∷ rs) o (suc i) zero d l n h = absurd (omega arith)
falls m (r ∷ rs) o (suc i) (suc j) d l n h = falls m rs (both (list_all (λ s. no_before r.no s.no) rs) (is_ordered rs) o).1 i j d (omega arith) (omega arith) h

pub partitioned_behind : (m : LeaseNo) (rows : List Row) → is_ordered rows ≡ true → IsPartitionedBy (λ (r : Row). not (no_before m r.no)) rows
partitioned_behind m rows o i j d l n h = flip (no_before m (get_or rows j d).no) (no_before m (get_or rows i d).no) (falls m rows o i j d l n) h

pub is_place : (m : LeaseNo) (rows : List Row) (i : ℕ) → IsPartitionPoint (λ (r : Row). no_before r.no m ≡ true) (λ (r : Row). no_before r.no m ≡ false) rows i → IsPlace m rows i
is_place m rows i p = (λ k d l n. p.0 k d (omega arith) l, λ k d l n. p.1 k d l n)

pub found_at : (m : LeaseNo) (rows : List Row) (i : ℕ) (x : Row) → is_ordered rows ≡ true → IsPartitionPoint (λ (r : Row). no_before r.no m ≡ true) (λ (r : Row). no_before r.no m ≡ false) rows i → true ≡ nat_lt i (length rows) → x ≡ get_or rows i x → find (has_no m) rows ≡ cond (same_no x.no m) (Some x) None
found_at m rows i x o p l e = at_here m rows i x o (is_place m rows i p) (below i (length rows) l) e

pub none_at : (m : LeaseNo) (rows : List Row) (i : ℕ) → IsPartitionPoint (λ (r : Row). no_before r.no m ≡ true) (λ (r : Row). no_before r.no m ≡ false) rows i → false ≡ nat_lt i (length rows) → find (has_no m) rows ≡ None
none_at m rows i p l = at_end m rows i (is_place m rows i p) (not_below i (length rows) l)
