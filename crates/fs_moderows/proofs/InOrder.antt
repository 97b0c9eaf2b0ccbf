-- Rows in order of number.
use Rattle.std.proofs.Common.{◌≡◌, ◌∷◌, Bool, true, false, not, List, [], refl, ap, cond, ◌∙◌}
use Rattle.std.specs.List.{filter, list_all}
use Rattle.fs_ident.specs.Ordered.{put_before}
use Rattle.fs_ident.specs.declared.actor.LeaseNo.{LeaseNo}
use Rattle.fs_ident.proofs.Booleans.{both, joined}
use Rattle.fs_ident.proofs.Passing.{all-In, In-all}
use Rattle.fs_field.specs.declared.row.Row.{Row}
use Rattle.fs_field.specs.Table.{has_no, no_before, is_ordered, with_row}
use Rattle.fs_field.proofs.Order.{before_trans}
use Rattle.fs_field.proofs.SameNo.{same_no_symm}
use Rattle.fs_rows.specs.Granted.{with_rows}
use Rattle.fs_rows.proofs.Seeking.{unlike}

abbrev Test : Type 0
Test = Row → Bool

-- the number comes before those of all rows
abbrev pub before_all : LeaseNo → List Row → Bool
before_all m rows = list_all (λ s. no_before m s.no) rows

pub farther : (a b : LeaseNo) (rows : List Row) → no_before a b ≡ true → before_all b rows ≡ true → before_all a rows ≡ true
farther a b rows h k = In-all (λ s. no_before a s.no) rows (λ x i. before_trans a b x.no h (all-In (λ s. no_before b s.no) rows k x i))

-- where the number comes before all none has it
pub all_stay : (m : LeaseNo) (rows : List Row) → before_all m rows ≡ true → filter (λ r. not (has_no m r)) rows ≡ rows
all_stay m [] h = refl
all_stay m (r ∷ rs) h =
    let q = both (no_before m r.no) (before_all m rs) h in
    ap (λ b. cond (not b) (r ∷ filter (λ x. not (has_no m x)) rs) (filter (λ x. not (has_no m x)) rs)) (same_no_symm r.no m ∙ unlike m r.no q.0) ∙ ap (λ xs. r ∷ xs) (all_stay m rs q.1)

all_before : (test first : Test) (r : Row) (rows : List Row) → list_all test (put_before first r rows) ≡ true → list_all test rows ≡ true
all_before test first r [] h = refl
all_before test first r (y ∷ ys) h = elim (first y) as (λ b. list_all test (cond b (r ∷ y ∷ ys) (y ∷ put_before first r ys)) ≡ true → list_all test (y ∷ ys) ≡ true) [
  | true ↦ λ k. (both (test r) (list_all test (y ∷ ys)) k).1
  | false ↦ λ k. let q = both (test y) (list_all test (put_before first r ys)) k in joined (test y) (list_all test ys) q.0 (all_before test first r ys q.1)
] h

ordered_put_back : (first : Test) (r : Row) (rows : List Row) → is_ordered (put_before first r rows) ≡ true → is_ordered rows ≡ true
ordered_put_back first r [] h = refl
ordered_put_back first r (y ∷ ys) h = elim (first y) as (λ b. is_ordered (cond b (r ∷ y ∷ ys) (y ∷ put_before first r ys)) ≡ true → is_ordered (y ∷ ys) ≡ true) [
  | true ↦ λ k. (both (before_all r.no (y ∷ ys)) (is_ordered (y ∷ ys)) k).1
  | false ↦ λ k. let q = both (before_all y.no (put_before first r ys)) (is_ordered (put_before first r ys)) k in joined (before_all y.no ys) (is_ordered ys) (all_before (λ s. no_before y.no s.no) first r ys q.0) (ordered_put_back first r ys q.1)
] h

-- rows that are in order with more put in were so before
pub ordered_before : (more rows : List Row) → is_ordered (with_rows more rows) ≡ true → is_ordered rows ≡ true
ordered_before [] rows h = h
ordered_before (m ∷ ms) rows h = ordered_put_back (λ r. no_before m.no r.no) m rows (ordered_before ms (with_row m rows) h)
