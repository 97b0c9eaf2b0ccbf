-- An index beside the rows whose numbers it has.
use Rattle.std.proofs.Common.{◌+◌, ◌<◌, ◌≤◌, length, zero, suc, take, drop, get_or, subst, arith, add-one, ◌≡◌, ◌&&◌, ◌∷◌, ◌++◌, ℕ, Bool, true, false, not, List, [], refl, ap, cond, sym, ◌∙◌, map, inl, inr}
use Rattle.std.specs.Prelude.{Some, None}
use Rattle.std.specs.BTreeMap.{BTreeMap}
use Rattle.std.specs.FinMap.{get, empty, get-empty}
use Rattle.std.specs.Ordering.{nat_cmp}
use Rattle.std.specs.List.{filter, find, list_any, list_all}
use Rattle.std.specs.Cmp.Lexicographic.{slice_cmp, nat_list_eq_equiv}
use Rattle.std.proofs.lemmas.List.{take_more, drop_more, take-append-drop, append_assoc, append-nil, take_all, drop_all}
use Rattle.std.proofs.lemmas.List.Elements.{filter-append}
use Rattle.fs_ident.specs.Ident.{same}
use Rattle.fs_ident.specs.In.{In}
use Rattle.fs_ident.specs.Maps.{map_of}
use Rattle.fs_ident.specs.Ordered.{put_before}
use Rattle.fs_ident.specs.declared.actor.LeaseNo.{LeaseNo}
use Rattle.fs_ident.proofs.Booleans.{both, joined}
use Rattle.fs_ident.proofs.Passing.{all-In, In-all, found}
use Rattle.fs_ident.proofs.Same.{same_is, same_self}
use Rattle.fs_ident.proofs.Standing.{In-filter, In-behind}
use Rattle.fs_field.specs.declared.row.Row.{Row}
use Rattle.fs_field.specs.Field.{file_of}
use Rattle.fs_field.specs.Table.{same_no, has_no, no_before, is_ordered, with_row}
use Rattle.fs_field.proofs.Order.{one_of_number}
use Rattle.fs_field.proofs.SameNo.{same_no_self, same_no_symm, same_no_is}
use Rattle.fs_rows.specs.Granted.{with_rows}
use Rattle.fs_rows.specs.Index.{listed, ChangesAt, but_number}
use Rattle.fs_rows.proofs.Granting.{with_rows-append}
use Rattle.fs_moderows.specs.declared.index.FileIndex.{FileIndex}
use Rattle.fs_moderows.specs.Index.{is_on, numbers_on, numbers_of, IsIndexOf, with_number, IsNoted, IsPassed}
use Rattle.fs_rows.proofs.Seeking.{unlike}
use Rattle.fs_moderows.proofs.InOrder.{before_all, farther, all_stay, ordered_before}

abbrev Test : Type 0
Test = Row → Bool

pub none_numbered : (files : BTreeMap (List ℕ) (List LeaseNo)) → map_of files ≡ empty → (file : List ℕ) → numbers_of files file ≡ []
none_numbered files h file = ap (λ m. listed (get m file)) h ∙ ap listed (get-empty (slice_cmp nat_cmp) file)

-- an index that lists the same
pub listed_too : (old new : FileIndex) (rows : List Row) → new.whole ≡ old.whole → map_of new.files ≡ map_of old.files → IsIndexOf old rows → IsIndexOf new rows
listed_too old new rows v h a w file = ap (λ m. listed (get m file)) h ∙ a (sym v ∙ w) file

-- ## One row more

goes_first : (first : Test) (r : Row) (rows : List Row) → list_all first rows ≡ true → put_before first r rows ≡ r ∷ rows
goes_first first r [] h = refl
goes_first first r (y ∷ ys) h = ap (λ b. cond b (r ∷ y ∷ ys) (y ∷ put_before first r ys)) (both (first y) (list_all first ys) h).0

still_all : (test first : Test) (rows : List Row) → list_all first rows ≡ true → list_all first (filter test rows) ≡ true
still_all test first rows h = In-all first (filter test rows) (λ x i. all-In first rows h x (In-filter test x rows i))

one_before : (b : Bool) (y : Row) (xs ys zs : List Row) → zs ≡ y ∷ xs → y ∷ cond b xs ys ≡ cond b zs (y ∷ ys)
one_before true y xs ys zs e = sym e
one_before false y xs ys zs e = refl

-- of rows in order those that pass have the new one at its place among them
filter-put : (test : Test) (r : Row) (rows : List Row) → is_ordered rows ≡ true → filter test (with_row r rows) ≡ cond (test r) (with_row r (filter test rows)) (filter test rows)
filter-put test r [] o = refl
filter-put test r (y ∷ ys) o =
    let q = both (before_all y.no ys) (is_ordered ys) o in
    elim (no_before r.no y.no) as (λ b. no_before r.no y.no ≡ b → filter test (cond b (r ∷ y ∷ ys) (y ∷ with_row r ys)) ≡ cond (test r) (with_row r (filter test (y ∷ ys))) (filter test (y ∷ ys))) [
      | true ↦ λ e. ap (λ zs. cond (test r) zs (filter test (y ∷ ys))) (sym (goes_first (λ s. no_before r.no s.no) r (filter test (y ∷ ys))
          (still_all test (λ s. no_before r.no s.no) (y ∷ ys) (joined (no_before r.no y.no) (before_all r.no ys) e (farther r.no y.no ys e q.0)))))
      | false ↦ λ e. elim (test y) as (λ c. cond c (y ∷ filter test (with_row r ys)) (filter test (with_row r ys)) ≡ cond (test r) (with_row r (cond c (y ∷ filter test ys) (filter test ys))) (cond c (y ∷ filter test ys) (filter test ys))) [
        | true ↦ ap (λ zs. y ∷ zs) (filter-put test r ys q.1)
            ∙ one_before (test r) y (with_row r (filter test ys)) (filter test ys) (with_row r (y ∷ filter test ys)) (ap (λ b. cond b (r ∷ y ∷ filter test ys) (y ∷ with_row r (filter test ys))) e)
        | false ↦ filter-put test r ys q.1
      ]
    ] refl

map-put : (r : Row) (rows : List Row) → map (λ (x : Row). x.no) (with_row r rows) ≡ with_number r.no (map (λ (x : Row). x.no) rows)
map-put r [] = refl
map-put r (y ∷ ys) = elim (no_before r.no y.no) as (λ b. map (λ (x : Row). x.no) (cond b (r ∷ y ∷ ys) (y ∷ with_row r ys)) ≡ cond b (r.no ∷ y.no ∷ map (λ (x : Row). x.no) ys) (y.no ∷ with_number r.no (map (λ (x : Row). x.no) ys))) [
  | true ↦ refl
  | false ↦ ap (λ ns. y.no ∷ ns) (map-put r ys)
]

numbers_more : (file : List ℕ) (r : Row) (rows : List Row) → is_ordered rows ≡ true → numbers_on file (with_row r rows) ≡ cond (is_on file r) (with_number r.no (numbers_on file rows)) (numbers_on file rows)
numbers_more file r rows o =
    ap (map (λ (x : Row). x.no)) (filter-put (is_on file) r rows o)
    ∙ elim (is_on file r) as (λ b. map (λ (x : Row). x.no) (cond b (with_row r (filter (is_on file) rows)) (filter (is_on file) rows)) ≡ cond b (with_number r.no (numbers_on file rows)) (numbers_on file rows)) [
      | true ↦ map-put r (filter (is_on file) rows)
      | false ↦ refl
    ]

pub row_more : (old new : FileIndex) (r : Row) (rows : List Row) → IsNoted r.no (file_of r.field) old new → is_ordered rows ≡ true → IsIndexOf old rows → IsIndexOf new (with_row r rows)
row_more old new r rows h o a w file =
    (h w).1 file
    ∙ ap (λ b. cond b (with_number r.no (numbers_of old.files file)) (numbers_of old.files file)) (nat_list_eq_equiv.symm file (file_of r.field))
    ∙ ap (λ ns. cond (is_on file r) (with_number r.no ns) ns) (a (h w).0 file)
    ∙ sym (numbers_more file r rows o)

with_rows_parts : (i : ℕ) (more rows : List Row) → with_rows more rows ≡ with_rows (drop i more) (with_rows (take i more) rows)
with_rows_parts zero more rows = refl
with_rows_parts (suc i) [] rows = refl
with_rows_parts (suc i) (m ∷ ms) rows = with_rows_parts i ms (with_row m rows)

-- the steps of a loop that notes the numbers of rows that are put in
pub noted_more : (first old new : FileIndex) (more : List Row) (i : ℕ) (r : Row) → i < length more → r ≡ get_or more i r → IsNoted r.no (file_of r.field) old new → ((rows : List Row) → is_ordered (with_rows more rows) ≡ true → IsIndexOf first rows → IsIndexOf old (with_rows (take i more) rows))
    → (rows : List Row) → is_ordered (with_rows more rows) ≡ true → IsIndexOf first rows → IsIndexOf new (with_rows (take (i + 1) more) rows)
noted_more first old new more i r l e h a rows o b =
    subst (IsIndexOf new) (sym (with_rows-append (take i more) r rows) ∙ ap (λ x. with_rows (take i more ++ x ∷ []) rows) e ∙ ap (λ xs. with_rows xs rows) (sym (take_more more i r l)))
    (row_more old new r (with_rows (take i more) rows) h (ordered_before (drop i more) (with_rows (take i more) rows) (ap is_ordered (sym (with_rows_parts i more rows)) ∙ o)) (a rows o b))

pub all_noted : (first index : FileIndex) (more : List Row) (i : ℕ) → length more ≤ i → ((rows : List Row) → is_ordered (with_rows more rows) ≡ true → IsIndexOf first rows → IsIndexOf index (with_rows (take i more) rows)) → (rows : List Row) → is_ordered (with_rows more rows) ≡ true → IsIndexOf first rows → IsIndexOf index (with_rows more rows)
all_noted first index more i l h rows o b = subst (λ xs. IsIndexOf index (with_rows xs rows)) (take_all i more l) (h rows o b)

-- ## One row less

-- the numbers of the rows but for one are the numbers but for that one
numbers_but : (m : LeaseNo) (file : List ℕ) (rows : List Row) → numbers_on file (filter (λ x. not (has_no m x)) rows) ≡ but_number m (numbers_on file rows)
numbers_but m file [] = refl
numbers_but m file (x ∷ xs) =
    elim (has_no m x) as (λ b. has_no m x ≡ b → numbers_on file (cond (not b) (x ∷ filter (λ y. not (has_no m y)) xs) (filter (λ y. not (has_no m y)) xs)) ≡ but_number m (numbers_on file (x ∷ xs))) [
      | true ↦ λ e. numbers_but m file xs ∙ elim (is_on file x) as (λ c. but_number m (numbers_on file xs) ≡ but_number m (map (λ (y : Row). y.no) (cond c (x ∷ filter (is_on file) xs) (filter (is_on file) xs)))) [
        | true ↦ sym (ap (λ b. cond (not b) (x.no ∷ but_number m (numbers_on file xs)) (but_number m (numbers_on file xs))) e)
        | false ↦ refl
      ]
      | false ↦ λ e. elim (is_on file x) as (λ c. map (λ (y : Row). y.no) (cond c (x ∷ filter (is_on file) (filter (λ y. not (has_no m y)) xs)) (filter (is_on file) (filter (λ y. not (has_no m y)) xs))) ≡ but_number m (map (λ (y : Row). y.no) (cond c (x ∷ filter (is_on file) xs) (filter (is_on file) xs)))) [
        | true ↦ ap (λ ns. x.no ∷ ns) (numbers_but m file xs) ∙ sym (ap (λ b. cond (not b) (x.no ∷ but_number m (numbers_on file xs)) (but_number m (numbers_on file xs))) e)
        | false ↦ numbers_but m file xs
      ]
    ] refl

nothing_less : (m : LeaseNo) (file : List ℕ) (rows : List Row) → ((x : Row) → In x rows → is_on file x ≡ true → has_no m x ≡ false) → but_number m (numbers_on file rows) ≡ numbers_on file rows
nothing_less m file [] k = refl
nothing_less m file (x ∷ xs) k =
    elim (is_on file x) as (λ c. is_on file x ≡ c → but_number m (map (λ (y : Row). y.no) (cond c (x ∷ filter (is_on file) xs) (filter (is_on file) xs))) ≡ map (λ (y : Row). y.no) (cond c (x ∷ filter (is_on file) xs) (filter (is_on file) xs))) [
      | true ↦ λ e. ap (λ b. cond (not b) (x.no ∷ but_number m (numbers_on file xs)) (but_number m (numbers_on file xs))) (k x (inl refl) e) ∙ ap (λ ns. x.no ∷ ns) (nothing_less m file xs (λ y i. k y (inr i)))
      | false ↦ λ e. nothing_less m file xs (λ y i. k y (inr i))
    ] refl

-- a row on one file is on no other
elsewhere : (m : LeaseNo) (file other : List ℕ) (x : Row) → (has_no m x ≡ true → is_on file x ≡ true) → same other file ≡ false → is_on other x ≡ true → has_no m x ≡ false
elsewhere m file other x k d e = elim (has_no m x) as (λ b. has_no m x ≡ b → b ≡ false) [
  | true ↦ λ t.
      let one : other ≡ file = sym (same_is (file_of x.field) other e) ∙ same_is (file_of x.field) file (k t) in
      let wrong : true ≡ false = sym (ap (same other) (sym one) ∙ same_self other) ∙ d in
      absurd (cc)
  | false ↦ λ t. refl
] refl

pub number_less : (m : LeaseNo) (file : List ℕ) (old new : FileIndex) (rows : List Row) → new.whole ≡ old.whole → ChangesAt (but_number m) file old.files new.files → ((x : Row) → In x rows → has_no m x ≡ true → is_on file x ≡ true) → IsIndexOf old rows → IsIndexOf new (filter (λ x. not (has_no m x)) rows)
number_less m file old new rows v h k a w other =
    h other
    ∙ ap (λ ns. cond (same other file) (but_number m ns) ns) (a (sym v ∙ w) other)
    ∙ elim (same other file) as (λ b. same other file ≡ b → cond b (but_number m (numbers_on other rows)) (numbers_on other rows) ≡ but_number m (numbers_on other rows)) [
      | true ↦ λ t. refl
      | false ↦ λ t. sym (nothing_less m other rows (λ x i e. elsewhere m file other x (k x i) t e))
    ] refl
    ∙ sym (numbers_but m other rows)

-- a row of the number, where its number was taken off its file
pub number_gone : (m : LeaseNo) (old new : FileIndex) (r : Row) (rows : List Row) → is_ordered rows ≡ true → find (has_no m) rows ≡ Some r → new.whole ≡ old.whole → ChangesAt (but_number m) (file_of r.field) old.files new.files → IsIndexOf old rows → IsIndexOf new (filter (λ x. not (has_no m x)) rows)
number_gone m old new r rows o e v h a =
    let q = found (has_no m) rows r e in
    number_less m (file_of r.field) old new rows v h (λ x i t.
    ap (λ (z : Row). is_on (file_of r.field) z) (one_of_number rows o x r i q.0 (same_no_is x.no m t ∙ sym (same_no_is r.no m q.1))) ∙ same_self (file_of r.field)) a

-- and where none has it
pub number_absent : (m : LeaseNo) (index : FileIndex) (rows : List Row) → find (has_no m) rows ≡ None → IsIndexOf index rows → IsIndexOf index (filter (λ x. not (has_no m x)) rows)
number_absent m index rows e h = subst (IsIndexOf index) (sym (stay m rows e)) h
  where
    stay : (n : LeaseNo) (xs : List Row) → find (has_no n) xs ≡ None → filter (λ x. not (has_no n x)) xs ≡ xs
    stay n [] g = refl
    stay n (x ∷ xs) g = elim (has_no n x) as (λ b. cond b (Some x) (find (has_no n) xs) ≡ None → cond (not b) (x ∷ filter (λ y. not (has_no n y)) xs) (filter (λ y. not (has_no n y)) xs) ≡ x ∷ xs) [
      | true ↦ λ k. absurd (cc)
      | false ↦ λ k. ap (λ ys. x ∷ ys) (stay n xs k)
    ] g

-- ## Rows that do not stay, one after the other

-- the row between others in order is the one of its number
taken_out : (r : Row) (a b : List Row) → is_ordered (a ++ r ∷ b) ≡ true → filter (λ x. not (has_no r.no x)) (a ++ r ∷ b) ≡ a ++ b
taken_out r [] b o =
    ap (λ t. cond (not t) (r ∷ filter (λ x. not (has_no r.no x)) b) (filter (λ x. not (has_no r.no x)) b)) (same_no_self r.no)
    ∙ all_stay r.no b (both (before_all r.no b) (is_ordered b) o).0
taken_out r (x ∷ a) b o =
    let q = both (before_all x.no (a ++ r ∷ b)) (is_ordered (a ++ r ∷ b)) o in
    ap (λ t. cond (not t) (x ∷ filter (λ y. not (has_no r.no y)) (a ++ r ∷ b)) (filter (λ y. not (has_no r.no y)) (a ++ r ∷ b))) (unlike x.no r.no (all-In (λ s. no_before x.no s.no) (a ++ r ∷ b) q.0 r (In-behind r a (r ∷ b) (inl refl))))
    ∙ ap (λ ys. x ∷ ys) (taken_out r a b q.1)

row_less : (old new : FileIndex) (r : Row) (a b : List Row) → new.whole ≡ old.whole → ChangesAt (but_number r.no) (file_of r.field) old.files new.files → is_ordered (a ++ r ∷ b) ≡ true → IsIndexOf old (a ++ r ∷ b) → IsIndexOf new (a ++ b)
row_less old new r a b v h o k = subst (IsIndexOf new) (taken_out r a b o) (number_less r.no (file_of r.field) old new (a ++ r ∷ b) v h (λ x i t.
    ap (λ (z : Row). is_on (file_of r.field) z) (one_of_number (a ++ r ∷ b) o x r i (In-behind r a (r ∷ b) (inl refl)) (same_no_is x.no r.no t)) ∙ same_self (file_of r.field)) k)

front_all : (test first : Test) (xs ys : List Row) → list_all first (xs ++ ys) ≡ true → list_all first (filter test xs ++ ys) ≡ true
front_all test first [] ys h = h
front_all test first (x ∷ xs) ys h =
    let q = both (first x) (list_all first (xs ++ ys)) h in
    elim (test x) as (λ b. list_all first (cond b (x ∷ filter test xs) (filter test xs) ++ ys) ≡ true) [
      | true ↦ joined (first x) (list_all first (filter test xs ++ ys)) q.0 (front_all test first xs ys q.1)
      | false ↦ front_all test first xs ys q.1
    ]

front_ordered : (test : Test) (xs ys : List Row) → is_ordered (xs ++ ys) ≡ true → is_ordered (filter test xs ++ ys) ≡ true
front_ordered test [] ys h = h
front_ordered test (x ∷ xs) ys h =
    let q = both (before_all x.no (xs ++ ys)) (is_ordered (xs ++ ys)) h in
    elim (test x) as (λ b. is_ordered (cond b (x ∷ filter test xs) (filter test xs) ++ ys) ≡ true) [
      | true ↦ joined (before_all x.no (filter test xs ++ ys)) (is_ordered (filter test xs ++ ys)) (front_all test (λ s. no_before x.no s.no) xs ys q.0) (front_ordered test xs ys q.1)
      | false ↦ front_ordered test xs ys q.1
    ]

kept_at : (test : Test) (rows : List Row) (i : ℕ) (r : Row) → i < length rows → r ≡ get_or rows i r → filter test (take (i + 1) rows) ++ drop (i + 1) rows ≡ filter test (take i rows) ++ (filter test (r ∷ []) ++ drop (i + 1) rows)
kept_at test rows i r l e =
    ap (λ xs. filter test xs ++ drop (i + 1) rows) (take_more rows i r l ∙ ap (λ x. take i rows ++ x ∷ []) (sym e))
    ∙ ap (λ xs. xs ++ drop (i + 1) rows) (filter-append test (take i rows) (r ∷ []))
    ∙ append_assoc (filter test (take i rows)) (filter test (r ∷ [])) (drop (i + 1) rows)

alone : (test : Test) (r : Row) (b : Bool) → test r ≡ b → filter test (r ∷ []) ≡ cond b (r ∷ []) []
alone test r b e = ap (λ t. cond t (r ∷ []) []) e

at_place : (test : Test) (rows : List Row) (i : ℕ) (r : Row) → i < length rows → r ≡ get_or rows i r → filter test (take i rows) ++ drop i rows ≡ filter test (take i rows) ++ r ∷ drop (i + 1) rows
at_place test rows i r l e = ap (λ xs. filter test (take i rows) ++ xs) (drop_more rows i r l ∙ ap (λ x. x ∷ drop (i + 1) rows) (sym e))

row_stays : (test : Test) (index : FileIndex) (rows : List Row) (i : ℕ) (r : Row) → i < length rows → r ≡ get_or rows i r → test r ≡ true → IsIndexOf index (filter test (take i rows) ++ drop i rows) → IsIndexOf index (filter test (take (i + 1) rows) ++ drop (i + 1) rows)
row_stays test index rows i r l e t h =
    subst (IsIndexOf index) (at_place test rows i r l e ∙ sym (kept_at test rows i r l e ∙ ap (λ xs. filter test (take i rows) ++ (xs ++ drop (i + 1) rows)) (alone test r true t))) h

row_goes : (test : Test) (old new : FileIndex) (rows : List Row) (i : ℕ) (r : Row) → i < length rows → r ≡ get_or rows i r → test r ≡ false → is_ordered rows ≡ true → new.whole ≡ old.whole → ChangesAt (but_number r.no) (file_of r.field) old.files new.files → IsIndexOf old (filter test (take i rows) ++ drop i rows) → IsIndexOf new (filter test (take (i + 1) rows) ++ drop (i + 1) rows)
row_goes test old new rows i r l e t o v h k =
    subst (IsIndexOf new) (sym (kept_at test rows i r l e ∙ ap (λ xs. filter test (take i rows) ++ (xs ++ drop (i + 1) rows)) (alone test r false t)))
    (row_less old new r (filter test (take i rows)) (drop (i + 1) rows) v h
    (ap is_ordered (sym (at_place test rows i r l e)) ∙ front_ordered test (take i rows) (drop i rows) (ap is_ordered (take-append-drop i rows) ∙ o))
    (subst (IsIndexOf old) (at_place test rows i r l e) k))

-- a step of a loop that takes out the numbers of rows that do not stay
pub row_passed : (test : Test) (old new : FileIndex) (rows : List Row) (i : ℕ) (r : Row) → i < length rows → r ≡ get_or rows i r → (b : Bool) → b ≡ test r → IsPassed b r old new → is_ordered rows ≡ true → IsIndexOf old (filter test (take i rows) ++ drop i rows) → IsIndexOf new (filter test (take (i + 1) rows) ++ drop (i + 1) rows)
row_passed test old new rows i r l e true t p o h = row_stays test new rows i r l e (sym t) (subst (λ x. IsIndexOf x (filter test (take i rows) ++ drop i rows)) (sym p) h)
row_passed test old new rows i r l e false t p o h = row_goes test old new rows i r l e (sym t) o p.0 p.1 h

-- at the end of the loop
pub all_gone : (test : Test) (index : FileIndex) (rows : List Row) (i : ℕ) → length rows ≤ i → IsIndexOf index (filter test (take i rows) ++ drop i rows) → IsIndexOf index (filter test rows)
all_gone test index rows i l h = subst (IsIndexOf index) (ap (λ xs. filter test xs ++ drop i rows) (take_all i rows l) ∙ ap (λ xs. filter test rows ++ xs) (drop_all i rows l) ∙ append-nil (filter test rows)) h

-- ## Rows that change without their numbers and fields

pub rows_changed : (index : FileIndex) (g : Row → Row) → ((r : Row) → (g r).no ≡ r.no) → ((r : Row) → (g r).field ≡ r.field) → (rows : List Row) → IsIndexOf index rows → IsIndexOf index (map g rows)
rows_changed index g number field rows h w file = h w file ∙ sym (unchanged rows)
  where
    unchanged : (rs : List Row) → numbers_on file (map g rs) ≡ numbers_on file rs
    unchanged [] = refl
    unchanged (r ∷ rs) =
        ap (λ z. map (λ (x : Row). x.no) (cond (same (file_of z) file) (g r ∷ filter (is_on file) (map g rs)) (filter (is_on file) (map g rs)))) (field r)
        ∙ elim (is_on file r) as (λ b. map (λ (x : Row). x.no) (cond b (g r ∷ filter (is_on file) (map g rs)) (filter (is_on file) (map g rs))) ≡ map (λ (x : Row). x.no) (cond b (r ∷ filter (is_on file) rs) (filter (is_on file) rs))) [
          | true ↦ ap (λ n. n ∷ numbers_on file (map g rs)) (number r) ∙ ap (λ ns. r.no ∷ ns) (unchanged rs)
          | false ↦ unchanged rs
        ]
