-- An index beside the rows whose numbers it has.
use Rattle.std.proofs.Common.{◌+◌, ◌<◌, ◌≤◌, length, take, drop, get_or, subst, arith, ◌≡◌, ◌==◌, ◌&&◌, ◌||◌, ◌∷◌, ◌++◌, ℕ, Bool, true, false, not, List, [], refl, ap, cond, sym, ◌∙◌, map, inl, inr}
use Rattle.std.specs.Prelude.{Some, None}
use Rattle.std.specs.BTreeMap.{BTreeMap}
use Rattle.std.specs.FinMap.{get, empty, get-empty}
use Rattle.std.specs.Ordering.{nat_cmp, is_lt, ordering_then}
use Rattle.fs_ident.specs.Maps.{map_of}
use Rattle.std.specs.List.{filter, find, list_any, list_all}
use Rattle.std.proofs.lemmas.List.{take_more, drop_more, take-append-drop, append_assoc, append-nil, take_all, drop_all}
use Rattle.std.proofs.lemmas.List.Elements.{filter-append}
use Rattle.std.proofs.lemmas.Bool.Decides.{nat_tests}
use Rattle.std.proofs.lemmas.List.Folds.{list_any-append}
use Rattle.std.proofs.lemmas.Map.Views.{any-filter_same}
use Rattle.std.proofs.Math.Bool.{and-false, or-false}
use Rattle.std.specs.Cmp.{nat_eq_equiv}
use Rattle.std.specs.Cmp.Lexicographic.{slice_cmp, nat_list_eq_equiv}
use Rattle.fs_ident.specs.Ident.{same}
use Rattle.fs_ident.specs.In.{In}
use Rattle.fs_ident.specs.declared.actor.LeaseNo.{LeaseNo}
use Rattle.fs_ident.proofs.Booleans.{both, joined, neither}
use Rattle.fs_ident.proofs.Standing.{any_In, In-behind}
use Rattle.fs_ident.proofs.Passing.{all-In}
use Rattle.fs_field.specs.declared.field.Field.{Field}
use Rattle.fs_field.specs.declared.field.Field.TheVariants.{Life, Child, Names, Info, Own, SelfW, Other}
use Rattle.fs_field.specs.declared.row.Row.{Row}
use Rattle.fs_field.specs.Field.{file_of, same_field, same_mode, mode_rank}
use Rattle.fs_field.specs.Table.{same_no, has_no, no_before, with_row, is_ordered}
use Rattle.fs_field.proofs.Named.{any_put}
use Rattle.fs_field.proofs.Order.{one_of_number}
use Rattle.fs_field.proofs.SameNo.{same_no_self, same_no_symm, same_no_is}
use Rattle.fs_field.proofs.Leases.{SameLease}
use Rattle.fs_rows.specs.declared.index.FieldIndex.{FieldIndex}
use Rattle.fs_rows.specs.declared.index.OnFile.{OnFile}
use Rattle.fs_rows.specs.Index.{numbers_at, numbers_of, and_number, but_number, ChangesOf, has_number, has_row_on, AreNumbersOf, IsIndexOf, IsNoted, IsPassed}
use Rattle.fs_rows.specs.Granted.{with_rows}
use Rattle.fs_rows.proofs.Granting.{with_rows-append}

-- two fields are one, seen from either
pub turned : (f g : Field) → same_field f g ≡ same_field g f
turned (Life a) (Life b) = nat_list_eq_equiv.symm a b
turned (Child a m) (Child b n) = ap (λ t. t && same m n) (nat_list_eq_equiv.symm a b) ∙ ap (λ t. same b a && t) (nat_list_eq_equiv.symm m n)
turned (Names a) (Names b) = nat_list_eq_equiv.symm a b
turned (Info a) (Info b) = nat_list_eq_equiv.symm a b
turned (Own a) (Own b) = nat_list_eq_equiv.symm a b
turned (SelfW a m) (SelfW b n) = ap (λ t. t && same_mode m n) (nat_list_eq_equiv.symm a b) ∙ ap (λ t. same b a && t) (nat_eq_equiv.symm (mode_rank m) (mode_rank n))
turned (Other a m) (Other b n) = ap (λ t. t && same_mode m n) (nat_list_eq_equiv.symm a b) ∙ ap (λ t. same b a && t) (nat_eq_equiv.symm (mode_rank m) (mode_rank n))
turned f g = refl

pub none_numbered : (files : BTreeMap (List ℕ) OnFile) → map_of files ≡ empty → AreNumbersOf files []
none_numbered files h f n = ap (λ m. has_number n (numbers_at (get m (file_of f)) f)) h ∙ ap (λ o. has_number n (numbers_at o f)) (get-empty (slice_cmp nat_cmp) (file_of f))

-- ## One row more

either : (a b : Bool) → (a || b) ≡ (b || a)
either true true = refl
either true false = refl
either false true = refl
either false false = refl

more_numbers : (b : Bool) (m n : LeaseNo) (ns : List LeaseNo) → has_number n (cond b (and_number m ns) ns) ≡ ((b && same_no m n) || has_number n ns)
more_numbers true m n ns = list_any-append (λ k. same_no k n) ns (m ∷ []) ∙ ap (λ t. has_number n ns || t) (or-false (same_no m n)) ∙ either (has_number n ns) (same_no m n)
more_numbers false m n ns = refl

either_way : (a b c : Bool) → ((a && b) || c) ≡ ((b && a) || c)
either_way true true c = refl
either_way true false c = refl
either_way false true c = refl
either_way false false c = refl

more_on : (m n : BTreeMap (List ℕ) OnFile) (r : Row) (rows : List Row) → ChangesOf (and_number r.no) r.field m n → AreNumbersOf m rows → (f : Field) (k : LeaseNo) → has_number k (numbers_of n f) ≡ ((has_no k r && same_field r.field f) || has_row_on f k rows)
more_on m n r rows h a f k =
    ap (has_number k) (h f)
    ∙ more_numbers (same_field f r.field) r.no k (numbers_of m f)
    ∙ ap (λ t. (t && same_no r.no k) || has_number k (numbers_of m f)) (turned f r.field)
    ∙ either_way (same_field r.field f) (same_no r.no k) (has_number k (numbers_of m f))
    ∙ ap (λ t. (has_no k r && same_field r.field f) || t) (a f k)

pub row_more : (old new : FieldIndex) (r : Row) (rows : List Row) → IsNoted r.no r.field old new → IsIndexOf old rows → IsIndexOf new (with_row r rows)
row_more old new r rows h a w f k = more_on old.files new.files r rows (h w).1 (a (h w).0) f k ∙ sym (any_put (λ x. has_no k x && same_field x.field f) (λ x. no_before r.no x.no) r rows)

pub row_behind : (old new : FieldIndex) (r : Row) (rows : List Row) → IsNoted r.no r.field old new → IsIndexOf old rows → IsIndexOf new (rows ++ r ∷ [])
row_behind old new r rows h a w f k =
    more_on old.files new.files r rows (h w).1 (a (h w).0) f k
    ∙ either (has_no k r && same_field r.field f) (has_row_on f k rows)
    ∙ ap (λ t. has_row_on f k rows || t) (sym (or-false (has_no k r && same_field r.field f)))
    ∙ sym (list_any-append (λ x. has_no k x && same_field x.field f) rows (r ∷ []))

-- the row that stands at the place of a loop
pub noted_behind : (old new : FieldIndex) (rows : List Row) (i : ℕ) (r : Row) → i < length rows → r ≡ get_or rows i r → IsNoted r.no r.field old new → IsIndexOf old (take i rows) → IsIndexOf new (take (i + 1) rows)
noted_behind old new rows i r l e h a = subst (IsIndexOf new) (ap (λ x. take i rows ++ x ∷ []) e ∙ sym (take_more rows i r l)) (row_behind old new r (take i rows) h a)

pub noted_more : (first old new : FieldIndex) (more : List Row) (i : ℕ) (r : Row) → i < length more → r ≡ get_or more i r → IsNoted r.no r.field old new → ((rows : List Row) → IsIndexOf first rows → IsIndexOf old (with_rows (take i more) rows)) → (rows : List Row) → IsIndexOf first rows → IsIndexOf new (with_rows (take (i + 1) more) rows)
noted_more first old new more i r l e h a rows b =
    subst (IsIndexOf new) (sym (with_rows-append (take i more) r rows) ∙ ap (λ x. with_rows (take i more ++ x ∷ []) rows) e ∙ ap (λ xs. with_rows xs rows) (sym (take_more more i r l)))
    (row_more old new r (with_rows (take i more) rows) h (a rows b))

pub all_behind : (index : FieldIndex) (rows : List Row) (i : ℕ) → length rows ≤ i → IsIndexOf index (take i rows) → IsIndexOf index rows
all_behind index rows i l h = subst (IsIndexOf index) (take_all i rows l) h

pub all_noted : (first index : FieldIndex) (more : List Row) (i : ℕ) → length more ≤ i → ((rows : List Row) → IsIndexOf first rows → IsIndexOf index (with_rows (take i more) rows)) → (rows : List Row) → IsIndexOf first rows → IsIndexOf index (with_rows more rows)
all_noted first index more i l h rows b = subst (λ xs. IsIndexOf index (with_rows xs rows)) (take_all i more l) (h rows b)

-- ## One row less

but_same : (m n : LeaseNo) (ns : List LeaseNo) → has_number n (but_number m ns) ≡ (not (same_no n m) && has_number n ns)
but_same m n ns = any-filter_same (λ k. same_no k n) (λ k. not (same_no k m)) (not (same_no n m)) (λ k e. ap (λ z. not (same_no z m)) (same_no_is k n e)) ns

-- no row of the number is on any field
none_on : (f : Field) (n : LeaseNo) (rows : List Row) → list_any (has_no n) rows ≡ false → has_row_on f n rows ≡ false
none_on f n [] h = refl
none_on f n (r ∷ rs) h = let q = neither (has_no n r) (list_any (has_no n) rs) h in ap (λ t. t && same_field r.field f || has_row_on f n rs) q.0 ∙ none_on f n rs q.1

same_to : (m n k : LeaseNo) → same_no m n ≡ true → same_no k n ≡ same_no k m
same_to m n k e = ap (same_no k) (sym (same_no_is m n e))

apart : (a b c d : ℕ) → is_lt (ordering_then (nat_cmp a c) (nat_cmp b d)) ≡ true → ((a == c) && (b == d)) ≡ false
apart a b c d h = grind (arith, nat_tests)

found_In : (test : Row → Bool) (rows : List Row) (r : Row) → find test rows ≡ Some r → In r rows × (test r ≡ true)
found_In test [] r e = absurd (cc)
found_In test (x ∷ xs) r e = elim (test x) as (λ b. test x ≡ b → cond b (Some x) (find test xs) ≡ Some r → In r (x ∷ xs) × (test r ≡ true)) [
  | true ↦ λ t g. let same : x ≡ r = cc in (inl (sym same), ap test (sym same) ∙ t)
  | false ↦ λ t g. let q = found_In test xs r g in (inr q.0, q.1)
] refl e

not_there : (rows : List Row) → is_ordered rows ≡ true → (f : Field) (n : LeaseNo) (r : Row) → In r rows → (m : LeaseNo) → has_no m r ≡ true → same_no m n ≡ true → same_field f r.field ≡ false → has_row_on f n rows ≡ false
not_there rows o f n r i m t g d = elim (has_row_on f n rows) as (λ b. has_row_on f n rows ≡ b → b ≡ false) [
  | true ↦ λ h.
      let q = any_In (λ x. has_no n x && same_field x.field f) rows h in
      let s = both (has_no n q.0) (same_field q.0.field f) q.1.1 in
      let one : q.0 ≡ r = one_of_number rows o q.0 r q.1.0 i (same_no_is q.0.no n s.0 ∙ sym (same_no_is m n g) ∙ sym (same_no_is r.no m t)) in
      let wrong : true ≡ false = sym s.1 ∙ ap (λ (z : Row). same_field z.field f) one ∙ turned r.field f ∙ d in
      absurd (cc)
  | false ↦ λ h. refl
] refl

all_stay : (m : LeaseNo) (rows : List Row) → find (has_no m) rows ≡ None → filter (λ x. not (has_no m x)) rows ≡ rows
all_stay m [] e = refl
all_stay m (x ∷ xs) e = elim (has_no m x) as (λ b. cond b (Some x) (find (has_no m) xs) ≡ None → cond (not b) (x ∷ filter (λ y. not (has_no m y)) xs) (filter (λ y. not (has_no m y)) xs) ≡ x ∷ xs) [
  | true ↦ λ g. absurd (cc)
  | false ↦ λ g. ap (λ ys. x ∷ ys) (all_stay m xs g)
] e

-- what a change leaves at a field, where the number is another one and where it is that one
left_other : (b : Bool) (m n : LeaseNo) (ns : List LeaseNo) → same_no m n ≡ false → has_number n (cond b (but_number m ns) ns) ≡ has_number n ns
left_other true m n ns e = but_same m n ns ∙ ap (λ t. not t && has_number n ns) (same_no_symm n m ∙ e)
left_other false m n ns e = refl

left_same : (b : Bool) (m n : LeaseNo) (ns : List LeaseNo) → same_no m n ≡ true → (b ≡ false → has_number n ns ≡ false) → has_number n (cond b (but_number m ns) ns) ≡ false
left_same true m n ns e h = but_same m n ns ∙ ap (λ t. not t && has_number n ns) (same_no_symm n m ∙ e)
left_same false m n ns e h = h refl

unlike : (a b : LeaseNo) → no_before a b ≡ true → same_no a b ≡ false
unlike a b h = apart a.server a.count b.server b.count h

pub row_less : (old new : FieldIndex) (r : Row) (a b : List Row) → new.whole ≡ old.whole → ChangesOf (but_number r.no) r.field old.files new.files → list_any (has_no r.no) a ≡ false → list_any (has_no r.no) b ≡ false → IsIndexOf old (a ++ r ∷ b) → IsIndexOf new (a ++ b)
row_less old new r a b v h p q k w f n =
    let on = λ (x : Row). has_no n x && same_field x.field f in
    let there : has_number n (numbers_of old.files f) ≡ (has_row_on f n a || ((same_no r.no n && same_field r.field f) || has_row_on f n b)) = k (sym v ∙ w) f n ∙ list_any-append on a (r ∷ b) in
    ap (has_number n) (h f)
    ∙ elim (same_no r.no n) as (λ t. same_no r.no n ≡ t → has_number n (cond (same_field f r.field) (but_number r.no (numbers_of old.files f)) (numbers_of old.files f)) ≡ (has_row_on f n a || has_row_on f n b)) [
      | true ↦ λ e.
          let here = λ (rows : List Row) (z : list_any (has_no r.no) rows ≡ false). none_on f n rows (ap (λ m. list_any (has_no m) rows) (sym (same_no_is r.no n e)) ∙ z) in
          left_same (same_field f r.field) r.no n (numbers_of old.files f) e (λ d. there ∙ ap (λ t. t || ((same_no r.no n && same_field r.field f) || has_row_on f n b)) (here a p) ∙ ap (λ t. (same_no r.no n && same_field r.field f) || t) (here b q)
          ∙ ap (λ t. (same_no r.no n && t) || false) (turned r.field f ∙ d) ∙ ap (λ t. t || false) (and-false (same_no r.no n)))
          ∙ sym (ap (λ t. t || has_row_on f n b) (here a p) ∙ here b q)
      | false ↦ λ e. left_other (same_field f r.field) r.no n (numbers_of old.files f) e ∙ there ∙ ap (λ t. has_row_on f n a || ((t && same_field r.field f) || has_row_on f n b)) e
    ] refl
    ∙ sym (list_any-append on a b)

-- none before or behind a row in order has its number
before_none : (r : Row) (a b : List Row) → is_ordered (a ++ r ∷ b) ≡ true → list_any (has_no r.no) a ≡ false
before_none r [] b o = refl
before_none r (x ∷ a) b o =
    let q = both (list_all (λ s. no_before x.no s.no) (a ++ r ∷ b)) (is_ordered (a ++ r ∷ b)) o in
    ap (λ t. t || list_any (has_no r.no) a) (unlike x.no r.no (all-In (λ s. no_before x.no s.no) (a ++ r ∷ b) q.0 r (In-behind r a (r ∷ b) (inl refl)))) ∙ before_none r a b q.1

behind_all : (r : Row) (b : List Row) → list_all (λ s. no_before r.no s.no) b ≡ true → list_any (has_no r.no) b ≡ false
behind_all r [] h = refl
behind_all r (x ∷ b) h = let q = both (no_before r.no x.no) (list_all (λ s. no_before r.no s.no) b) h in ap (λ t. t || list_any (has_no r.no) b) (same_no_symm x.no r.no ∙ unlike r.no x.no q.0) ∙ behind_all r b q.1

behind_none : (r : Row) (a b : List Row) → is_ordered (a ++ r ∷ b) ≡ true → list_any (has_no r.no) b ≡ false
behind_none r [] b o = behind_all r b (both (list_all (λ s. no_before r.no s.no) b) (is_ordered b) o).0
behind_none r (x ∷ a) b o = behind_none r a b (both (list_all (λ s. no_before x.no s.no) (a ++ r ∷ b)) (is_ordered (a ++ r ∷ b)) o).1

front_filter : (test : Row → Bool) (r : Row) (a : List Row) → list_any (has_no r.no) a ≡ false → list_any (has_no r.no) (filter test a) ≡ false
front_filter test r [] h = refl
front_filter test r (x ∷ a) h =
    let q = neither (has_no r.no x) (list_any (has_no r.no) a) h in
    elim (test x) as (λ b. list_any (has_no r.no) (cond b (x ∷ filter test a) (filter test a)) ≡ false) [
      | true ↦ ap (λ t. t || list_any (has_no r.no) (filter test a)) q.0 ∙ front_filter test r a q.1
      | false ↦ front_filter test r a q.1
    ]

split_at : (rows : List Row) (i : ℕ) (r : Row) → i < length rows → r ≡ get_or rows i r → take i rows ++ r ∷ drop (i + 1) rows ≡ rows
split_at rows i r l e = ap (λ x. take i rows ++ x ∷ drop (i + 1) rows) e ∙ ap (λ xs. take i rows ++ xs) (sym (drop_more rows i r l)) ∙ take-append-drop i rows

kept_at : (test : Row → Bool) (rows : List Row) (i : ℕ) (r : Row) → i < length rows → r ≡ get_or rows i r → filter test (take (i + 1) rows) ++ drop (i + 1) rows ≡ filter test (take i rows) ++ (filter test (r ∷ []) ++ drop (i + 1) rows)
kept_at test rows i r l e =
    ap (λ xs. filter test xs ++ drop (i + 1) rows) (take_more rows i r l ∙ ap (λ x. take i rows ++ x ∷ []) (sym e))
    ∙ ap (λ xs. xs ++ drop (i + 1) rows) (filter-append test (take i rows) (r ∷ []))
    ∙ append_assoc (filter test (take i rows)) (filter test (r ∷ [])) (drop (i + 1) rows)

alone : (test : Row → Bool) (r : Row) (b : Bool) → test r ≡ b → filter test (r ∷ []) ≡ cond b (r ∷ []) []
alone test r b e = ap (λ t. cond t (r ∷ []) []) e

at_place : (test : Row → Bool) (rows : List Row) (i : ℕ) (r : Row) → i < length rows → r ≡ get_or rows i r → filter test (take i rows) ++ drop i rows ≡ filter test (take i rows) ++ r ∷ drop (i + 1) rows
at_place test rows i r l e = ap (λ xs. filter test (take i rows) ++ xs) (drop_more rows i r l ∙ ap (λ x. x ∷ drop (i + 1) rows) (sym e))

-- the steps of a loop that takes out the numbers of rows that do not stay
pub row_stays : (test : Row → Bool) (index : FieldIndex) (rows : List Row) (i : ℕ) (r : Row) → i < length rows → r ≡ get_or rows i r → test r ≡ true → IsIndexOf index (filter test (take i rows) ++ drop i rows) → IsIndexOf index (filter test (take (i + 1) rows) ++ drop (i + 1) rows)
row_stays test index rows i r l e t h =
    subst (IsIndexOf index) (at_place test rows i r l e ∙ sym (kept_at test rows i r l e ∙ ap (λ xs. filter test (take i rows) ++ (xs ++ drop (i + 1) rows)) (alone test r true t))) h

pub row_goes : (test : Row → Bool) (old new : FieldIndex) (rows : List Row) (i : ℕ) (r : Row) → i < length rows → r ≡ get_or rows i r → test r ≡ false → is_ordered rows ≡ true → new.whole ≡ old.whole → ChangesOf (but_number r.no) r.field old.files new.files → IsIndexOf old (filter test (take i rows) ++ drop i rows) → IsIndexOf new (filter test (take (i + 1) rows) ++ drop (i + 1) rows)
row_goes test old new rows i r l e t o v h k =
    let apart : is_ordered (take i rows ++ r ∷ drop (i + 1) rows) ≡ true = ap is_ordered (split_at rows i r l e) ∙ o in
    subst (IsIndexOf new) (sym (kept_at test rows i r l e ∙ ap (λ xs. filter test (take i rows) ++ (xs ++ drop (i + 1) rows)) (alone test r false t)))
    (row_less old new r (filter test (take i rows)) (drop (i + 1) rows) v h
    (front_filter test r (take i rows) (before_none r (take i rows) (drop (i + 1) rows) apart))
    (behind_none r (take i rows) (drop (i + 1) rows) apart)
    (subst (IsIndexOf old) (at_place test rows i r l e) k))

pub row_passed : (test : Row → Bool) (old new : FieldIndex) (rows : List Row) (i : ℕ) (r : Row) → i < length rows → r ≡ get_or rows i r → (b : Bool) → b ≡ test r → IsPassed b r old new → is_ordered rows ≡ true → IsIndexOf old (filter test (take i rows) ++ drop i rows) → IsIndexOf new (filter test (take (i + 1) rows) ++ drop (i + 1) rows)
row_passed test old new rows i r l e true t p o h = row_stays test new rows i r l e (sym t) (subst (λ x. IsIndexOf x (filter test (take i rows) ++ drop i rows)) (sym p) h)
row_passed test old new rows i r l e false t p o h = row_goes test old new rows i r l e (sym t) o p.0 p.1 h

-- at the end of the loop
pub all_gone : (test : Row → Bool) (index : FieldIndex) (rows : List Row) (i : ℕ) → length rows ≤ i → IsIndexOf index (filter test (take i rows) ++ drop i rows) → IsIndexOf index (filter test rows)
all_gone test index rows i l h = subst (IsIndexOf index) (ap (λ xs. filter test xs ++ drop i rows) (take_all i rows l) ∙ ap (λ xs. filter test rows ++ xs) (drop_all i rows l) ∙ append-nil (filter test rows)) h

-- ## The row of a number

-- a row of the number, where its number was taken off its field
pub number_gone : (old new : FieldIndex) (r : Row) (rows : List Row) (m : LeaseNo) → is_ordered rows ≡ true → find (has_no m) rows ≡ Some r → new.whole ≡ old.whole → ChangesOf (but_number m) r.field old.files new.files → IsIndexOf old rows → IsIndexOf new (filter (λ x. not (has_no m x)) rows)
number_gone old new r rows m o e v h k w f n =
    let q = found_In (has_no m) rows r e in
    ap (has_number n) (h f)
    ∙ elim (same_no m n) as (λ t. same_no m n ≡ t → has_number n (cond (same_field f r.field) (but_number m (numbers_of old.files f)) (numbers_of old.files f)) ≡ (not (same_no n m) && has_row_on f n rows)) [
      | true ↦ λ g.
          left_same (same_field f r.field) m n (numbers_of old.files f) g (λ d. k (sym v ∙ w) f n ∙ not_there rows o f n r q.0 m q.1 g d)
          ∙ sym (ap (λ t. not t && has_row_on f n rows) (same_no_symm n m ∙ g))
      | false ↦ λ g. left_other (same_field f r.field) m n (numbers_of old.files f) g ∙ k (sym v ∙ w) f n ∙ sym (ap (λ t. not t && has_row_on f n rows) (same_no_symm n m ∙ g))
    ] refl
    ∙ sym (any-filter_same (λ x. has_no n x && same_field x.field f) (λ x. not (has_no m x)) (not (same_no n m)) (λ x t. ap (λ z. not (same_no z m)) (same_no_is x.no n (both (has_no n x) (same_field x.field f) t).0)) rows)

-- and where none has it
pub number_absent : (index : FieldIndex) (rows : List Row) (m : LeaseNo) → find (has_no m) rows ≡ None → IsIndexOf index rows → IsIndexOf index (filter (λ x. not (has_no m x)) rows)
number_absent index rows m e h = subst (IsIndexOf index) (sym (all_stay m rows e)) h

-- ## Rows that change without their numbers and fields

pub rows_changed : (index : FieldIndex) (g : Row → Row) → ((r : Row) → SameLease r (g r)) → (rows : List Row) → IsIndexOf index rows → IsIndexOf index (map g rows)
rows_changed index g same rows h w f n = h w f n ∙ sym (unchanged rows)
  where
    unchanged : (rs : List Row) → has_row_on f n (map g rs) ≡ has_row_on f n rs
    unchanged [] = refl
    unchanged (r ∷ rs) = ap (λ m. same_no m n && same_field (g r).field f || has_row_on f n (map g rs)) ((same r).number) ∙ ap (λ z. has_no n r && same_field z f || has_row_on f n (map g rs)) ((same r).field) ∙ ap (λ t. has_no n r && same_field r.field f || t) (unchanged rs)

-- ## What it tells

pub any_there : {X : Type 0} (test : X → Bool) (x : X) (xs : List X) → In x xs → test x ≡ true → list_any test xs ≡ true
any_there test x [] i h = absurd i
any_there test x (y ∷ ys) i h = elim i [
  | inl e ↦ ap (λ t. t || list_any test ys) (ap test (sym e) ∙ h)
  | inr j ↦ ap (λ t. test y || t) (any_there test x ys j h) ∙ ever (test y)
]
  where
    ever : (b : Bool) → (b || true) ≡ true
    ever true = refl
    ever false = refl

-- a row of a table has its number on a field exactly if it is on it
pub told_of : (index : FieldIndex) (rows : List Row) → is_ordered rows ≡ true → index.whole ≡ true → IsIndexOf index rows → (f : Field) (r : Row) → In r rows → has_number r.no (numbers_of index.files f) ≡ same_field r.field f
told_of index rows o w h f r i =
    h w f r.no
    ∙ elim (same_field r.field f) as (λ b. same_field r.field f ≡ b → has_row_on f r.no rows ≡ b) [
      | true ↦ λ e. any_there (λ x. has_no r.no x && same_field x.field f) r rows i (joined (has_no r.no r) (same_field r.field f) (same_no_self r.no) e)
      | false ↦ λ e. not_there rows o f r.no r i r.no (same_no_self r.no) (same_no_self r.no) (turned f r.field ∙ e)
    ] refl
