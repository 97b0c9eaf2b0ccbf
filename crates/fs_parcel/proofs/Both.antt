-- Rows in order that stand in two tables.
use Rattle.std.proofs.Common.{◌≡◌, not, ℕ, Bool, true, false, List, [], ◌∷◌, refl, ap, cond, sym, ◌∙◌, subst, map, inl, inr, arith}
use Rattle.std.specs.Prelude.{◌↔◌, Result, Ok, Err, IsOk, OnOk, OnErr}
use Rattle.std.specs.List.{filter, list_all, list_any}
use Rattle.std.specs.Ordering.{nat_cmp, is_lt, ordering_then}
use Rattle.std.proofs.lemmas.Bool.Decides.{nat_tests}
use Rattle.std.proofs.lemmas.Bool.{false_from_ne_true, not-true}
use Rattle.fs_ident.specs.declared.actor.LeaseNo.{LeaseNo}
use Rattle.fs_ident.specs.declared.memory.Memory.{Memory}
use Rattle.fs_ident.specs.In.{In}
use Rattle.fs_ident.specs.Ordered.{put_before}
use Rattle.fs_ident.proofs.Booleans.{both as both_hold, first, second, joined}
use Rattle.fs_ident.proofs.Passing.{all-In, In-all}
use Rattle.fs_ident.proofs.Standing.{In-filter}
use Rattle.fs_field.specs.declared.row.Row.{Row}
use Rattle.fs_field.specs.declared.asked.Unknown.{Unknown}
use Rattle.fs_field.specs.Field.{tells_no_mode}
use Rattle.fs_field.specs.Table.{has_no, no_before, is_ordered, renewed_row, with_row}
use Rattle.fs_field.proofs.Leases.{none_renewed, renewed_same, NoPlainConflict-filter}
use Rattle.fs_field.proofs.Order.{before_trans, ordered_filter}
use Rattle.fs_moderows.specs.Table.{IsModeTable}
use Rattle.fs_rows.specs.Granted.{with_rows}
use Rattle.fs_rows.specs.Table.{IsTable}
use Rattle.fs_parcel.specs.Rows.{AreRows, is_off_modes, rows_off_modes, rows_on_modes, in_one_list}

-- ## Numbers

pub later : (a b c d : ℕ) → is_lt (ordering_then (nat_cmp a c) (nat_cmp b d)) ≡ true → is_lt (ordering_then (nat_cmp c a) (nat_cmp d b)) ≡ false
later a b c d h = grind (arith, nat_tests)

-- of two numbers only one comes first
pub not_back : (a b : LeaseNo) → no_before a b ≡ true → no_before b a ≡ false
not_back a b h = later a.server a.count b.server b.count h

-- the row's number comes before those of all rows
abbrev pub leads : Row → List Row → Bool
leads r rows = list_all (λ s. no_before r.no s.no) rows

leads_filter : (p : Row → Bool) (r : Row) (rows : List Row) → leads r rows ≡ true → leads r (filter p rows) ≡ true
leads_filter p r rows h = In-all (λ s. no_before r.no s.no) (filter p rows) (λ x i. all-In (λ s. no_before r.no s.no) rows h x (In-filter p x rows i))

pub leads_on : (r y : Row) (ys : List Row) → no_before r.no y.no ≡ true → leads y ys ≡ true → leads r (y ∷ ys) ≡ true
leads_on r y ys e h = joined (no_before r.no y.no) (leads r ys) e (In-all (λ s. no_before r.no s.no) ys (λ x i. before_trans r.no y.no x.no e (all-In (λ s. no_before y.no s.no) ys h x i)))

-- ## Rows put in

-- a row that comes before all goes to the front
pub at_front : (r : Row) (rows : List Row) → leads r rows ≡ true → with_row r rows ≡ r ∷ rows
at_front r [] h = refl
at_front r (y ∷ ys) h = ap (λ b. cond b (r ∷ y ∷ ys) (y ∷ with_row r ys)) (first (no_before r.no y.no) (leads r ys) h)

-- rows go behind one that comes before all of them
behind : (x r : Row) (rows : List Row) → no_before x.no r.no ≡ true → with_row r (x ∷ rows) ≡ x ∷ with_row r rows
behind x r rows h = ap (λ b. cond b (r ∷ x ∷ rows) (x ∷ with_row r rows)) (not_back x.no r.no h)

pub all_behind : (x : Row) (more rows : List Row) → leads x more ≡ true → with_rows more (x ∷ rows) ≡ x ∷ with_rows more rows
all_behind x [] rows h = refl
all_behind x (r ∷ rs) rows h =
    let q : (no_before x.no r.no ≡ true) × (leads x rs ≡ true) = both_hold (no_before x.no r.no) (leads x rs) h in
    ap (with_rows rs) (behind x r rows q.0) ∙ all_behind x rs (with_row r rows) q.1

-- rows in order make themselves
pub alone : (rows : List Row) → is_ordered rows ≡ true → with_rows rows [] ≡ rows
alone [] h = refl
alone (r ∷ rs) h =
    let q : (leads r rs ≡ true) × (is_ordered rs ≡ true) = both_hold (leads r rs) (is_ordered rs) h in
    all_behind r rs [] q.0 ∙ ap (λ rows. r ∷ rows) (alone rs q.1)

-- rows in order are those that pass a test, and the others put in
pub two_parts : (p : Row → Bool) (rows : List Row) → is_ordered rows ≡ true → with_rows (filter (λ r. not (p r)) rows) (filter p rows) ≡ rows
two_parts p [] h = refl
two_parts p (x ∷ xs) h =
    let q : (leads x xs ≡ true) × (is_ordered xs ≡ true) = both_hold (leads x xs) (is_ordered xs) h in
    let rest : with_rows (filter (λ r. not (p r)) xs) (x ∷ filter p xs) ≡ x ∷ xs = all_behind x (filter (λ r. not (p r)) xs) (filter p xs) (leads_filter (λ r. not (p r)) x xs q.0) ∙ ap (λ rows. x ∷ rows) (two_parts p xs q.1) in
    elim (p x) as (λ b. with_rows (cond (not b) (x ∷ filter (λ r. not (p r)) xs) (filter (λ r. not (p r)) xs)) (cond b (x ∷ filter p xs) (filter p xs)) ≡ x ∷ xs) [
      | true ↦ rest
      | false ↦ ap (with_rows (filter (λ r. not (p r)) xs)) (at_front x (filter p xs) (leads_filter p x xs q.0)) ∙ rest
    ]

-- what was there stays
put_In : {X : Type 0} (test : X → Bool) (new x : X) (xs : List X) → In x xs → In x (put_before test new xs)
put_In test new x [] i = absurd i
put_In test new x (y ∷ ys) i =
    elim (test y) as (λ b. In x (cond b (new ∷ y ∷ ys) (y ∷ put_before test new ys))) [
      | true ↦ inr i
      | false ↦ elim i [ inl e ↦ inl e | inr j ↦ inr (put_In test new x ys j) ]
    ]

ordered_without : (r : Row) (rows : List Row) → is_ordered (with_row r rows) ≡ true → is_ordered rows ≡ true
ordered_without r [] h = refl
ordered_without r (y ∷ ys) h =
    elim (no_before r.no y.no) as (λ b. is_ordered (cond b (r ∷ y ∷ ys) (y ∷ with_row r ys)) ≡ true → is_ordered (y ∷ ys) ≡ true) [
      | true ↦ λ g. second (leads r (y ∷ ys)) (is_ordered (y ∷ ys)) g
      | false ↦ λ g.
          let q : (leads y (with_row r ys) ≡ true) × (is_ordered (with_row r ys) ≡ true) = both_hold (leads y (with_row r ys)) (is_ordered (with_row r ys)) g in
          joined (leads y ys) (is_ordered ys)
          (In-all (λ s. no_before y.no s.no) ys (λ x i. all-In (λ s. no_before y.no s.no) (with_row r ys) q.0 x (put_In (λ s. no_before r.no s.no) r x ys i)))
          (ordered_without r ys q.1)
    ] h

-- where the rows are in order with several more, they were before
pub ordered_before : (more rows : List Row) → is_ordered (with_rows more rows) ≡ true → is_ordered rows ≡ true
ordered_before [] rows h = h
ordered_before (r ∷ rs) rows h = ordered_without r rows (ordered_before rs (with_row r rows) h)

-- ## What passes a test, of rows put in

filter_front : (p : Row → Bool) (r y : Row) (ys : List Row) → p r ≡ true → leads r (y ∷ ys) ≡ true → filter p (r ∷ y ∷ ys) ≡ with_row r (filter p (y ∷ ys))
filter_front p r y ys h l = ap (λ b. cond b (r ∷ filter p (y ∷ ys)) (filter p (y ∷ ys))) h ∙ sym (at_front r (filter p (y ∷ ys)) (leads_filter p r (y ∷ ys) l))

put_passes : (p : Row → Bool) (r : Row) (rows : List Row) → p r ≡ true → is_ordered rows ≡ true → filter p (with_row r rows) ≡ with_row r (filter p rows)
put_passes p r [] h o = ap (λ b. cond b (r ∷ []) []) h
put_passes p r (y ∷ ys) h o =
    let q : (leads y ys ≡ true) × (is_ordered ys ≡ true) = both_hold (leads y ys) (is_ordered ys) o in
    elim (no_before r.no y.no) as (λ b. no_before r.no y.no ≡ b → filter p (cond b (r ∷ y ∷ ys) (y ∷ with_row r ys)) ≡ with_row r (filter p (y ∷ ys))) [
      | true ↦ λ e. filter_front p r y ys h (leads_on r y ys e q.0)
      | false ↦ λ e. elim (p y) as (λ b. cond b (y ∷ filter p (with_row r ys)) (filter p (with_row r ys)) ≡ with_row r (cond b (y ∷ filter p ys) (filter p ys))) [
        | true ↦ ap (λ rows. y ∷ rows) (put_passes p r ys h q.1) ∙ sym (ap (λ b. cond b (r ∷ y ∷ filter p ys) (y ∷ with_row r (filter p ys))) e)
        | false ↦ put_passes p r ys h q.1
      ]
    ] refl

put_fails : (p : Row → Bool) (r : Row) (rows : List Row) → p r ≡ false → filter p (with_row r rows) ≡ filter p rows
put_fails p r [] h = ap (λ b. cond b (r ∷ []) []) h
put_fails p r (y ∷ ys) h =
    elim (no_before r.no y.no) as (λ b. filter p (cond b (r ∷ y ∷ ys) (y ∷ with_row r ys)) ≡ filter p (y ∷ ys)) [
      | true ↦ ap (λ b. cond b (r ∷ filter p (y ∷ ys)) (filter p (y ∷ ys))) h
      | false ↦ ap (cond (p y) (y ∷ filter p (with_row r ys))) (put_fails p r ys h) ∙ ap (λ rows. cond (p y) (y ∷ rows) (filter p ys)) (put_fails p r ys h)
    ]

-- what passes of rows that are in order with several more
pub filter_with_rows : (p : Row → Bool) (more rows : List Row) → is_ordered (with_rows more rows) ≡ true → filter p (with_rows more rows) ≡ with_rows (filter p more) (filter p rows)
filter_with_rows p [] rows h = refl
filter_with_rows p (r ∷ rs) rows h =
    let o : is_ordered rows ≡ true = ordered_before (r ∷ rs) rows h in
    filter_with_rows p rs (with_row r rows) h
    ∙ elim (p r) as (λ b. p r ≡ b → with_rows (filter p rs) (filter p (with_row r rows)) ≡ with_rows (cond b (r ∷ filter p rs) (filter p rs)) (filter p rows)) [
      | true ↦ λ e. ap (with_rows (filter p rs)) (put_passes p r rows e o)
      | false ↦ λ e. ap (with_rows (filter p rs)) (put_fails p r rows e)
    ] refl

-- what leaves numbers goes into what is put in
map_put : (f : Row → Row) → ((r : Row) → (f r).no ≡ r.no) → (r : Row) (rows : List Row) → map f (with_row r rows) ≡ with_row (f r) (map f rows)
map_put f same r [] = refl
map_put f same r (y ∷ ys) =
    let one : no_before (f r).no (f y).no ≡ no_before r.no y.no = ap (λ n. no_before n (f y).no) (same r) ∙ ap (no_before r.no) (same y) in
    elim (no_before r.no y.no) as (λ b. map f (cond b (r ∷ y ∷ ys) (y ∷ with_row r ys)) ≡ cond b (f r ∷ f y ∷ map f ys) (f y ∷ with_row (f r) (map f ys))) [
      | true ↦ refl
      | false ↦ ap (λ rows. f y ∷ rows) (map_put f same r ys)
    ] ∙ sym (ap (λ b. cond b (f r ∷ f y ∷ map f ys) (f y ∷ with_row (f r) (map f ys))) one)

pub map_with_rows : (f : Row → Row) → ((r : Row) → (f r).no ≡ r.no) → (more rows : List Row) → map f (with_rows more rows) ≡ with_rows (map f more) (map f rows)
map_with_rows f same [] rows = refl
map_with_rows f same (r ∷ rs) rows = map_with_rows f same rs (with_row r rows) ∙ ap (with_rows (map f rs)) (map_put f same r rows)

pub renewed_both : (number : LeaseNo) (until : ℕ) (plain modes : List Row) → map (renewed_row number until) (in_one_list plain modes) ≡ in_one_list (map (renewed_row number until) plain) (map (renewed_row number until) modes)
renewed_both number until plain modes = map_with_rows (renewed_row number until) (λ r. (renewed_same number until r).number) modes plain

-- ## The parts of both tables

pub all_pass : (p : Row → Bool) (rows : List Row) → ((r : Row) → In r rows → p r ≡ true) → filter p rows ≡ rows
all_pass p [] h = refl
all_pass p (r ∷ rs) h = ap (λ b. cond b (r ∷ filter p rs) (filter p rs)) (h r (inl refl)) ∙ ap (λ rows. r ∷ rows) (all_pass p rs (λ x i. h x (inr i)))

all_fail : (p : Row → Bool) (rows : List Row) → ((r : Row) → In r rows → p r ≡ false) → filter p rows ≡ []
all_fail p [] h = refl
all_fail p (r ∷ rs) h = ap (λ b. cond b (r ∷ filter p rs) (filter p rs)) (h r (inl refl)) ∙ all_fail p rs (λ x i. h x (inr i))

-- those of both tables that are off modes are those of the one, and those on modes of the other
pub plain_part : (plain modes : List Row) → IsTable plain → IsModeTable modes → is_ordered (in_one_list plain modes) ≡ true
    → rows_off_modes (in_one_list plain modes) ≡ plain
plain_part plain modes t u o =
    filter_with_rows is_off_modes modes plain o
    ∙ ap (λ rows. with_rows rows (filter is_off_modes plain)) (all_fail is_off_modes modes (λ r i. u.on_modes r i))
    ∙ all_pass is_off_modes plain t.off_modes

pub modes_part : (plain modes : List Row) → IsTable plain → IsModeTable modes → is_ordered (in_one_list plain modes) ≡ true
    → rows_on_modes (in_one_list plain modes) ≡ modes
modes_part plain modes t u o =
    filter_with_rows (λ r. not (is_off_modes r)) modes plain o
    ∙ ap (with_rows (filter (λ r. not (is_off_modes r)) modes))
    (all_fail (λ r. not (is_off_modes r)) plain (λ r i. ap not (t.off_modes r i)))
    ∙ ap (λ rows. with_rows rows []) (all_pass (λ r. not (is_off_modes r)) modes (λ r i. ap not (u.on_modes r i)))
    ∙ alone modes u.ordered

-- the rows are both parts
pub both_parts : (rows : List Row) → is_ordered rows ≡ true → in_one_list (rows_off_modes rows) (rows_on_modes rows) ≡ rows
both_parts rows o = two_parts is_off_modes rows o

-- both tables
abbrev pub AreBoth : List Row → List Row → Type 0
AreBoth plain modes = IsTable plain × (IsModeTable modes × AreRows (in_one_list plain modes))

-- what is told by the part that is off modes is told by that table, and so on modes
pub told_plain : {A : Type 0} (f : List Row → A) (plain modes : List Row) → AreBoth plain modes → f (in_one_list plain modes) ≡ f (rows_off_modes (in_one_list plain modes)) → f plain ≡ f (in_one_list plain modes)
told_plain f plain modes t e = sym (e ∙ ap f (plain_part plain modes t.0 t.1.0 t.1.1.ordered))

pub told_modes : {A : Type 0} (f : List Row → A) (plain modes : List Row) → AreBoth plain modes → f (in_one_list plain modes) ≡ f (rows_on_modes (in_one_list plain modes)) → f modes ≡ f (in_one_list plain modes)
told_modes f plain modes t e = sym (e ∙ ap f (modes_part plain modes t.0 t.1.0 t.1.1.ordered))

pub passing : {X : Type 0} (p : X → Bool) (xs : List X) (x : X) → In x (filter p xs) → p x ≡ true
passing p [] x i = absurd i
passing p (y ∷ ys) x i =
    elim (p y) as (λ b. p y ≡ b → In x (cond b (y ∷ filter p ys) (filter p ys)) → p x ≡ true) [
      | true ↦ λ e g. elim g [ inl q ↦ ap p q ∙ e | inr j ↦ passing p ys x j ]
      | false ↦ λ e g. passing p ys x g
    ] refl i

-- each part makes a table
pub plain_table : (rows : List Row) → AreRows rows → IsTable (rows_off_modes rows)
plain_table rows t = record {
  ordered = ordered_filter is_off_modes rows t.ordered;
  off_modes = λ r i. passing is_off_modes rows r i;
  free = NoPlainConflict-filter is_off_modes rows t.free;
}

pub modes_table : (rows : List Row) → AreRows rows → IsModeTable (rows_on_modes rows)
modes_table rows t = record {
  ordered = ordered_filter (λ r. not (is_off_modes r)) rows t.ordered;
  on_modes = λ r i. not-true (tells_no_mode r.field) (passing (λ x. not (is_off_modes x)) rows r i);
}

-- rows stay in order where some are dropped
pub filtered_rows : (test : Row → Bool) (rows : List Row) → AreRows rows → AreRows (filter test rows)
filtered_rows test rows t = record { ordered = ordered_filter test rows t.ordered; free = NoPlainConflict-filter test rows t.free }

pub are_none : AreRows []
are_none = record { ordered = refl; free = λ a b i j. absurd i }

-- ## What calls make of both tables

-- those that pass stay both tables
pub filtered_both : (test : Row → Bool) (plain modes : List Row) → AreBoth plain modes → in_one_list (filter test plain) (filter test modes) ≡ filter test (in_one_list plain modes)
filtered_both test plain modes t = sym (filter_with_rows test modes plain t.1.1.ordered)

-- a row of the number is renewed where there is one
pub renewed_if : (r : Result (Unit {0}) Unknown) (number : LeaseNo) (until : ℕ) (old new : List Row) → IsOk r ↔ (list_any (has_no number) old ≡ true) → OnOk r (new ≡ map (renewed_row number until) old) → OnErr r (new ≡ old) → new ≡ map (renewed_row number until) old
renewed_if (Ok u) number until old new k ok err = ok
renewed_if (Err e) number until old new k ok err = err ∙ sym (none_renewed number until old (false_from_ne_true (list_any (has_no number) old) (λ h. let wrong : false ≡ true = k.1 h in absurd (cc))))

filter_swap : {X : Type 0} (p q : X → Bool) (xs : List X) → filter p (filter q xs) ≡ filter q (filter p xs)
filter_swap p q [] = refl
filter_swap p q (x ∷ xs) =
    elim (p x) as (λ b. p x ≡ b → filter p (cond (q x) (x ∷ filter q xs) (filter q xs)) ≡ filter q (cond b (x ∷ filter p xs) (filter p xs))) [
      | true ↦ λ e. elim (q x) as (λ b. filter p (cond b (x ∷ filter q xs) (filter q xs)) ≡ cond b (x ∷ filter q (filter p xs)) (filter q (filter p xs))) [
        | true ↦ ap (λ b. cond b (x ∷ filter p (filter q xs)) (filter p (filter q xs))) e ∙ ap (λ ys. x ∷ ys) (filter_swap p q xs)
        | false ↦ filter_swap p q xs
      ]
      | false ↦ λ e. elim (q x) as (λ b. filter p (cond b (x ∷ filter q xs) (filter q xs)) ≡ filter q (filter p xs)) [
        | true ↦ ap (λ b. cond b (x ∷ filter p (filter q xs)) (filter p (filter q xs))) e ∙ filter_swap p q xs
        | false ↦ filter_swap p q xs
      ]
    ] refl

-- the rows with several more, of which those that do not pass the test were dropped before
abbrev pub after : (Row → Bool) → List Row → List Row → List Row → List Row
after test more plain modes = with_rows more (filter test (in_one_list plain modes))

pub after_plain : (test : Row → Bool) (more plain modes : List Row) → AreBoth plain modes → AreRows (after test more plain modes) → with_rows (rows_off_modes more) (filter test plain) ≡ rows_off_modes (after test more plain modes)
after_plain test more plain modes t a = sym (filter_with_rows is_off_modes more (filter test (in_one_list plain modes)) a.ordered
    ∙ ap (with_rows (rows_off_modes more)) (filter_swap is_off_modes test (in_one_list plain modes) ∙ ap (filter test) (plain_part plain modes t.0 t.1.0 t.1.1.ordered)))

pub after_modes : (test : Row → Bool) (more plain modes : List Row) → AreBoth plain modes → AreRows (after test more plain modes) → with_rows (rows_on_modes more) (filter test modes) ≡ rows_on_modes (after test more plain modes)
after_modes test more plain modes t a =
    sym (filter_with_rows (λ r. not (is_off_modes r)) more (filter test (in_one_list plain modes)) a.ordered
    ∙ ap (with_rows (rows_on_modes more)) (filter_swap (λ r. not (is_off_modes r)) test (in_one_list plain modes) ∙ ap (filter test) (modes_part plain modes t.0 t.1.0 t.1.1.ordered)))

-- each table takes its part of them
pub takes_plain : (test : Row → Bool) (more plain modes : List Row) → AreBoth plain modes → AreRows (after test more plain modes) → IsTable (with_rows (rows_off_modes more) (filter test plain))
takes_plain test more plain modes t a =
    subst IsTable (sym (after_plain test more plain modes t a)) (plain_table (after test more plain modes) a)

pub takes_modes : (test : Row → Bool) (more plain modes : List Row) → AreBoth plain modes → AreRows (after test more plain modes) → IsModeTable (with_rows (rows_on_modes more) (filter test modes))
takes_modes test more plain modes t a =
    subst IsModeTable (sym (after_modes test more plain modes t a)) (modes_table (after test more plain modes) a)

-- and both make all
pub takes_all : (test : Row → Bool) (more plain modes : List Row) → AreBoth plain modes → AreRows (after test more plain modes) → in_one_list (with_rows (rows_off_modes more) (filter test plain)) (with_rows (rows_on_modes more) (filter test modes)) ≡ after test more plain modes
takes_all test more plain modes t a =
    ap (λ rows. in_one_list rows (with_rows (rows_on_modes more) (filter test modes))) (after_plain test more plain modes t a)
    ∙ ap (in_one_list (rows_off_modes (after test more plain modes))) (after_modes test more plain modes t a)
    ∙ both_parts (after test more plain modes) a.ordered

pub taken : (test : Row → Bool) (more plain modes : List Row) → AreBoth plain modes → AreRows (after test more plain modes) → AreBoth (with_rows (rows_off_modes more) (filter test plain)) (with_rows (rows_on_modes more) (filter test modes))
taken test more plain modes t a = (takes_plain test more plain modes t a, (takes_modes test more plain modes t a, subst AreRows (sym (takes_all test more plain modes t a)) a))

-- all or nothing
pub either_both : (r : Result (Unit {0}) Memory) (plain modes later_plain later_modes new_plain new_modes : List Row) → AreBoth plain modes → AreBoth later_plain later_modes → OnOk r (new_modes ≡ later_modes) → OnErr r (new_modes ≡ modes) → OnOk r (new_plain ≡ later_plain) → OnErr r (new_plain ≡ plain) → AreBoth new_plain new_modes
either_both (Ok u) plain modes later_plain later_modes new_plain new_modes old new p q s u' = rw (p, s) new
either_both (Err e) plain modes later_plain later_modes new_plain new_modes old new p q s u' = rw (q, u') old

pub ok_both : (r : Result (Unit {0}) Memory) (later_plain later_modes new_plain new_modes rows : List Row) → in_one_list later_plain later_modes ≡ rows → OnOk r (new_modes ≡ later_modes) → OnOk r (new_plain ≡ later_plain) → OnOk r (in_one_list new_plain new_modes ≡ rows)
ok_both (Ok u) later_plain later_modes new_plain new_modes rows e p s = rw (p, s) e
ok_both (Err x) later_plain later_modes new_plain new_modes rows e p s = tt
