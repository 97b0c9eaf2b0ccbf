-- Rows that are picked by their numbers, in order.
use Rattle.std.proofs.Common.{◌≡◌, ◌&&◌, ◌||◌, ◌∷◌, Bool, true, false, not, List, [], refl, ap, cond, sym, ◌∙◌, map, inl, inr}
use Rattle.std.specs.Prelude.{Some, None, is_some}
use Rattle.std.specs.List.{filter, find, list_any, list_all, cons_option}
use Rattle.fs_ident.specs.In.{In}
use Rattle.fs_ident.specs.declared.actor.LeaseNo.{LeaseNo}
use Rattle.fs_ident.proofs.Booleans.{both, joined, first as first_holds, second}
use Rattle.fs_ident.proofs.Passing.{all-In}
use Rattle.fs_ident.proofs.Standing.{any_In, In-filter}
use Rattle.fs_field.specs.declared.field.Field.{Field}
use Rattle.fs_field.specs.declared.row.Row.{Row}
use Rattle.fs_field.specs.Field.{same_field}
use Rattle.fs_field.specs.Table.{same_no, has_no, no_before, is_ordered, rows_on}
use Rattle.fs_field.proofs.SameNo.{same_no_self, same_no_symm, same_no_is}
use Rattle.fs_rows.specs.Index.{has_number}
use Rattle.fs_rows.specs.Index.{numbers_of, IsIndexOf}
use Rattle.fs_rows.specs.Live.{unlocked_on}
use Rattle.fs_rows.specs.Picked.{is_rising, picked, AreRising}
use Rattle.fs_rows.specs.declared.index.FieldIndex.{FieldIndex}
use Rattle.fs_rows.proofs.Seeking.{passing, unlike, not_back}

abbrev Test : Type 0
Test = Row → Bool

-- ## The numbers of some rows, in order

abbrev has_row : Test → LeaseNo → List Row → Bool
has_row q n rows = list_any (λ r. has_no n r && q r) rows

abbrev first : LeaseNo → List LeaseNo → Bool
first n ns = list_all (λ m. no_before n m) ns

abbrev before_all : LeaseNo → List Row → Bool
before_all n rows = list_all (λ s. no_before n s.no) rows

not_listed : (n : LeaseNo) (ns : List LeaseNo) → first n ns ≡ true → has_number n ns ≡ false
not_listed n [] h = refl
not_listed n (m ∷ ms) h = let q = both (no_before n m) (first n ms) h in ap (λ b. b || has_number n ms) (same_no_symm m n ∙ unlike n m q.0) ∙ not_listed n ms q.1

no_row : (q : Test) (n : LeaseNo) (rows : List Row) → before_all n rows ≡ true → has_row q n rows ≡ false
no_row q n [] h = refl
no_row q n (r ∷ rs) h = let p = both (no_before n r.no) (before_all n rs) h in ap (λ b. (b && q r) || has_row q n rs) (same_no_symm r.no n ∙ unlike n r.no p.0) ∙ no_row q n rs p.1

listed_behind : (n m : LeaseNo) (ns : List LeaseNo) → first n ns ≡ true → has_number m ns ≡ true → no_before n m ≡ true
listed_behind n m ns h k = let x = any_In (λ z. same_no z m) ns k in ap (no_before n) (sym (same_no_is x.0 m x.1.1)) ∙ all-In (λ z. no_before n z) ns h x.0 x.1.0

row_behind : (q : Test) (n m : LeaseNo) (rows : List Row) → before_all n rows ≡ true → has_row q m rows ≡ true → no_before n m ≡ true
row_behind q n m rows h k =
    let x = any_In (λ r. has_no m r && q r) rows k in
    ap (no_before n) (sym (same_no_is x.0.no m (both (has_no m x.0) (q x.0) x.1.1).0)) ∙ all-In (λ s. no_before n s.no) rows h x.0 x.1.0

or_second : (a b : Bool) → a ≡ false → (a || b) ≡ true → b ≡ true
or_second true b e h = absurd (cc)
or_second false b e h = h

or_first : (a b : Bool) → a ≡ true → (a || b) ≡ true
or_first true b e = refl
or_first false b e = absurd (cc)

-- the first number is that of the first row
heads : (q : Test) (r : Row) (rs : List Row) (n : LeaseNo) (ns : List LeaseNo) → before_all r.no rs ≡ true → first n ns ≡ true → q r ≡ true → ((m : LeaseNo) → has_number m (n ∷ ns) ≡ has_row q m (r ∷ rs)) → n ≡ r.no
heads q r rs n ns o h t same =
    elim (same_no n r.no) as (λ b. same_no n r.no ≡ b → n ≡ r.no) [
      | true ↦ λ e. same_no_is n r.no e
      | false ↦ λ e.
          let here : has_row q r.no (r ∷ rs) ≡ true = or_first (has_no r.no r && q r) (has_row q r.no rs) (joined (has_no r.no r) (q r) (same_no_self r.no) t) in
          let one : no_before n r.no ≡ true = listed_behind n r.no ns h (or_second (same_no n r.no) (has_number r.no ns) e (same r.no ∙ here)) in
          let there : has_number n (n ∷ ns) ≡ true = or_first (same_no n n) (has_number n ns) (same_no_self n) in
          let two : no_before r.no n ≡ true = row_behind q r.no n rs o (or_second (has_no n r && q r) (has_row q n rs) (ap (λ b. b && q r) (same_no_symm r.no n ∙ e)) (sym (same n) ∙ there)) in
          let wrong : true ≡ false = sym two ∙ not_back n r.no one in
          absurd (cc)
    ] refl

skip : (a b c : Bool) → c ≡ false → ((a && c) || b) ≡ b
skip true b c e = ap (λ x. x || b) e
skip false b c e = refl

pub numbers_are : (q : Test) (rows : List Row) → is_ordered rows ≡ true → (ns : List LeaseNo) → is_rising ns ≡ true → ((n : LeaseNo) → has_number n ns ≡ has_row q n rows) → ns ≡ map (λ (r : Row). r.no) (filter q rows)
numbers_are q [] o [] h same = refl
numbers_are q [] o (n ∷ ns) h same = let wrong : true ≡ false = sym (or_first (same_no n n) (has_number n ns) (same_no_self n)) ∙ same n in absurd (cc)
numbers_are q (r ∷ rs) o ns h same =
    let p = both (before_all r.no rs) (is_ordered rs) o in
    elim (q r) as (λ b. q r ≡ b → ns ≡ map (λ (x : Row). x.no) (cond b (r ∷ filter q rs) (filter q rs))) [
      | true ↦ λ t. with_first ns h same p.0 t (numbers_are q rs p.1)
      | false ↦ λ t. numbers_are q rs p.1 ns h (λ n. same n ∙ skip (has_no n r) (has_row q n rs) (q r) t)
    ] refl
  where
    with_first : (ms : List LeaseNo) → is_rising ms ≡ true → ((n : LeaseNo) → has_number n ms ≡ has_row q n (r ∷ rs)) → before_all r.no rs ≡ true → q r ≡ true → ((ks : List LeaseNo) → is_rising ks ≡ true → ((n : LeaseNo) → has_number n ks ≡ has_row q n rs) → ks ≡ map (λ (x : Row). x.no) (filter q rs)) → ms ≡ r.no ∷ map (λ (x : Row). x.no) (filter q rs)
    with_first [] k s a t more = let wrong : false ≡ true = s r.no ∙ or_first (has_no r.no r && q r) (has_row q r.no rs) (joined (has_no r.no r) (q r) (same_no_self r.no) t) in absurd (cc)
    with_first (m ∷ ms) k s a t more =
        let u = both (first m ms) (is_rising ms) k in
        let e : m ≡ r.no = heads q r rs m ms a u.0 t s in
        ap (λ x. x ∷ ms) e
        ∙ ap (λ xs. r.no ∷ xs) (more ms u.1 (λ n. elim (same_no r.no n) as (λ c. same_no r.no n ≡ c → has_number n ms ≡ has_row q n rs) [
          | true ↦ λ z.
              let is : r.no ≡ n = same_no_is r.no n z in
              ap (λ x. has_number x ms) (sym is ∙ sym e) ∙ not_listed m ms u.0 ∙ sym (ap (λ x. has_row q x rs) (sym is) ∙ no_row q r.no rs a)
          | false ↦ λ z. ap (λ c. c || has_number n ms) (sym (ap (λ x. same_no x n) e ∙ z)) ∙ s n ∙ ap (λ c. (c && q r) || has_row q n rs) z
        ] refl))

-- ## The rows of these numbers

found_itself : (rows : List Row) → is_ordered rows ≡ true → (r : Row) → In r rows → find (has_no r.no) rows ≡ Some r
found_itself [] o r i = absurd i
found_itself (x ∷ xs) o r i =
    let p = both (before_all x.no xs) (is_ordered xs) o in
    elim i [
      | inl e ↦ ap (λ b. cond b (Some x) (find (has_no r.no) xs)) (ap (λ (z : Row). same_no x.no z.no) e ∙ same_no_self x.no) ∙ ap Some (sym e)
      | inr j ↦ ap (λ b. cond b (Some x) (find (has_no r.no) xs)) (unlike x.no r.no (all-In (λ s. no_before x.no s.no) xs p.0 r j)) ∙ found_itself xs p.1 r j
    ]

one_or : (b : Bool) (r : Row) (rs : List Row) → cons_option (cond b (Some r) None) rs ≡ cond b (r ∷ rs) rs
one_or true r rs = refl
one_or false r rs = refl

picked_are : (t : Test) (rows : List Row) → is_ordered rows ≡ true → (xs : List Row) → ((r : Row) → In r xs → In r rows) → picked t rows (map (λ (r : Row). r.no) xs) ≡ filter t xs
picked_are t rows o [] h = refl
picked_are t rows o (x ∷ xs) h =
    ap (λ z. cons_option z (picked t rows (map (λ (r : Row). r.no) xs))) (passing t rows x.no o x (found_itself rows o x (h x (inl refl))))
    ∙ one_or (t x) x (picked t rows (map (λ (r : Row). r.no) xs))
    ∙ ap (λ ys. cond (t x) (x ∷ ys) ys) (picked_are t rows o xs (λ r i. h r (inr i)))

only_those : (t q : Test) (rows : List Row) → ((r : Row) → t r ≡ true → q r ≡ true) → filter t (filter q rows) ≡ filter t rows
only_those t q [] h = refl
only_those t q (r ∷ rs) h = elim (q r) as (λ b. q r ≡ b → filter t (cond b (r ∷ filter q rs) (filter q rs)) ≡ cond (t r) (r ∷ filter t rs) (filter t rs)) [
  | true ↦ λ e. ap (λ ys. cond (t r) (r ∷ ys) ys) (only_those t q rs h)
  | false ↦ λ e. only_those t q rs h ∙ sym (elim (t r) as (λ b. t r ≡ b → cond b (r ∷ filter t rs) (filter t rs) ≡ filter t rs) [
    | true ↦ λ g. let wrong : true ≡ false = sym (h r g) ∙ e in absurd (cc)
    | false ↦ λ g. refl
  ] refl)
] refl

pub picked_all : (t q : Test) (rows : List Row) (ns : List LeaseNo) → is_ordered rows ≡ true → is_rising ns ≡ true → ((n : LeaseNo) → has_number n ns ≡ list_any (λ r. has_no n r && q r) rows) → ((r : Row) → t r ≡ true → q r ≡ true) → picked t rows ns ≡ filter t rows
picked_all t q rows ns o h same only =
    ap (picked t rows) (numbers_are q rows o ns h same)
    ∙ picked_are t rows o (filter q rows) (λ r i. In-filter q r rows i)
    ∙ only_those t q rows only

-- ## What is told of them

pub filter_both : (live t : Test) (rows : List Row) → filter (λ r. live r && t r) rows ≡ filter t (filter live rows)
filter_both live t [] = refl
filter_both live t (r ∷ rs) = elim (live r) as (λ b. cond (b && t r) (r ∷ filter (λ x. live x && t x) rs) (filter (λ x. live x && t x) rs) ≡ filter t (cond b (r ∷ filter live rs) (filter live rs))) [
  | true ↦ ap (λ ys. cond (t r) (r ∷ ys) ys) (filter_both live t rs)
  | false ↦ filter_both live t rs
]

pub rows_on_is : (f : Field) (rows : List Row) → map (λ (r : Row). (r.no, r.session)) (filter (λ r. same_field r.field f) rows) ≡ rows_on f rows
rows_on_is f [] = refl
rows_on_is f (r ∷ rs) = elim (same_field r.field f) as (λ b. map (λ (x : Row). (x.no, x.session)) (cond b (r ∷ filter (λ x. same_field x.field f) rs) (filter (λ x. same_field x.field f) rs)) ≡ cond b ((r.no, r.session) ∷ rows_on f rs) (rows_on f rs)) [
  | true ↦ ap (λ ys. (r.no, r.session) ∷ ys) (rows_on_is f rs)
  | false ↦ rows_on_is f rs
]

-- ## Through the index

numbers_on : (index : FieldIndex) (rows : List Row) (f : Field) (ns : List LeaseNo) → index.whole ≡ true → IsIndexOf index rows → AreRising (numbers_of index.files f) ns → (n : LeaseNo) → has_number n ns ≡ list_any (λ r. has_no n r && same_field r.field f) rows
numbers_on index rows f ns w h told n = told.same n ∙ h w f n

pub unlocked_told : (index : FieldIndex) (rows : List Row) (f : Field) (ns : List LeaseNo) (live : Test) → is_ordered rows ≡ true → index.whole ≡ true → IsIndexOf index rows → AreRising (numbers_of index.files f) ns
    → map (λ (r : Row). (r.no, r.session)) (picked (λ r. live r && (same_field r.field f && not (is_some r.lock))) rows ns) ≡ unlocked_on f (filter live rows)
unlocked_told index rows f ns live o w h told =
    ap (map (λ (r : Row). (r.no, r.session)))
    (picked_all (λ r. live r && (same_field r.field f && not (is_some r.lock))) (λ r. same_field r.field f) rows ns o told.rising (numbers_on index rows f ns w h told)
    (λ r t. first_holds (same_field r.field f) (not (is_some r.lock)) (second (live r) (same_field r.field f && not (is_some r.lock)) t))
    ∙ filter_both live (λ r. same_field r.field f && not (is_some r.lock)) rows)

pub on_told : (index : FieldIndex) (rows : List Row) (f : Field) (ns : List LeaseNo) (live : Test) → filter live rows ≡ rows → is_ordered rows ≡ true → index.whole ≡ true → IsIndexOf index rows → AreRising (numbers_of index.files f) ns
    → map (λ (r : Row). (r.no, r.session)) (picked (λ r. live r && same_field r.field f) rows ns) ≡ rows_on f rows
on_told index rows f ns live all o w h told =
    ap (map (λ (r : Row). (r.no, r.session)))
    (picked_all (λ r. live r && same_field r.field f) (λ r. same_field r.field f) rows ns o told.rising (numbers_on index rows f ns w h told)
    (λ r t. second (live r) (same_field r.field f) t)
    ∙ filter_both live (λ r. same_field r.field f) rows
    ∙ ap (filter (λ r. same_field r.field f)) all)
    ∙ rows_on_is f rows
