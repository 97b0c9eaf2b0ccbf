-- Two tables that make one list in order.
use Rattle.std.proofs.Common.{◌≡◌, not, ◌||◌, Bool, true, false, List, [], ◌∷◌, refl, ap, cond, sym, ◌∙◌, subst}
use Rattle.std.specs.List.{list_any}
use Rattle.fs_ident.specs.declared.actor.LeaseNo.{LeaseNo}
use Rattle.fs_ident.proofs.Booleans.{both as both_hold, first, joined}
use Rattle.fs_ident.proofs.Passing.{all-In}
use Rattle.fs_ident.proofs.Standing.{In-put_here}
use Rattle.fs_field.specs.declared.row.Row.{Row}
use Rattle.fs_field.specs.Conflict.{NoPlainConflict}
use Rattle.fs_field.specs.Table.{has_no, is_ordered, no_before, same_no, with_row}
use Rattle.fs_field.proofs.SameNo.{same_no_is, same_no_symm}
use Rattle.fs_moderows.specs.Table.{IsModeTable}
use Rattle.fs_rows.specs.Granted.{with_rows}
use Rattle.fs_rows.specs.Moving.{are_new, is_new, is_on_given, rows_given}
use Rattle.fs_rows.specs.Table.{IsTable}
use Rattle.fs_parcel.specs.Rows.{AreRows, are_one_list, in_one_list}
use Rattle.fs_parcel.proofs.Both.{all_pass, leads, not_back, plain_part, ordered_before}
use Rattle.fs_parcel.proofs.Coming.{plain_are_enough, ordered_more}

-- ## No number twice

differs : (a b : LeaseNo) → no_before a b ≡ true → same_no b a ≡ false
differs a b h =
    elim (same_no b a) as (λ t. same_no b a ≡ t → t ≡ false) [
      | true ↦ λ e.
          let w : no_before a a ≡ true = sym (ap (no_before a) (same_no_is b a e)) ∙ h in
          let wrong : true ≡ false = sym w ∙ not_back a a w in absurd (cc wrong)
      | false ↦ λ e. refl
    ] refl

-- a number that comes before those of all rows is new
leads_new : (r : Row) (rows : List Row) → leads r rows ≡ true → list_any (has_no r.no) rows ≡ false
leads_new r [] h = refl
leads_new r (y ∷ ys) h =
    let q : (no_before r.no y.no ≡ true) × (leads r ys ≡ true) = both_hold (no_before r.no y.no) (leads r ys) h in
    ap (λ b. b || list_any (has_no r.no) ys) (differs r.no y.no q.0) ∙ leads_new r ys q.1

-- where the rows are in order with one more, its number was new
new_number : (r : Row) (rows : List Row) → is_ordered (with_row r rows) ≡ true → list_any (has_no r.no) rows ≡ false
new_number r [] h = refl
new_number r (y ∷ ys) h =
    elim (no_before r.no y.no) as (λ b. is_ordered (cond b (r ∷ y ∷ ys) (y ∷ with_row r ys)) ≡ true → (has_no r.no y || list_any (has_no r.no) ys) ≡ false) [
      | true ↦ λ g. leads_new r (y ∷ ys) (first (leads r (y ∷ ys)) (is_ordered (y ∷ ys)) g)
      | false ↦ λ g.
          let q : (leads y (with_row r ys) ≡ true) × (is_ordered (with_row r ys) ≡ true) = both_hold (leads y (with_row r ys)) (is_ordered (with_row r ys)) g in
          let before : no_before y.no r.no ≡ true = all-In (λ (s : Row). no_before y.no s.no) (with_row r ys) q.0 r (In-put_here (λ s. no_before r.no s.no) r ys) in
          ap (λ b. b || list_any (has_no r.no) ys) (same_no_symm y.no r.no ∙ differs y.no r.no before) ∙ new_number r ys q.1
    ] h

were_new : (rows more : List Row) → is_ordered (with_rows more rows) ≡ true → are_new rows more ≡ true
were_new rows [] h = refl
were_new rows (m ∷ ms) h = joined (is_new rows m) (are_new (with_row m rows) ms) (ap not (new_number m rows (ordered_before ms (with_row m rows) h))) (were_new (with_row m rows) ms h)

same_test : (a b : Bool) → (a ≡ true → b ≡ true) → (b ≡ true → a ≡ true) → a ≡ b
same_test true b f g = sym (f refl)
same_test false true f g = g refl
same_test false false f g = refl

-- two tables make one list where the numbers of the second are new to the first
pub one_list : (plain modes : List Row) → is_ordered plain ≡ true → are_new plain modes ≡ are_one_list plain modes
one_list plain modes o = same_test (are_new plain modes) (are_one_list plain modes) (ordered_more plain modes o) (were_new plain modes)

-- the piece of the root that is one alone gives all rows
pub all_given : (rows : List Row) → rows_given [] (([], true) ∷ []) rows ≡ rows
all_given rows = all_pass (is_on_given [] (([], true) ∷ [])) rows (λ r i. refl)

-- ## What that makes of tables

-- no two rows of them conflict plainly
pub both_rows : (plain modes : List Row) → IsTable plain → IsModeTable modes → are_one_list plain modes ≡ true
    → AreRows (in_one_list plain modes)
both_rows plain modes t u o = record { ordered = o; free = plain_are_enough (in_one_list plain modes) (subst NoPlainConflict (sym (plain_part plain modes t u o)) t.free) }
