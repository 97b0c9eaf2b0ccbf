-- The rows of both tables are in order after a parcel has come or gone.
use Rattle.std.proofs.Common.{◌≡◌, List, sym, subst}
use Rattle.std.specs.Prelude.{Bool, Result, Ok, Err, OnOk, OnErr}
use Rattle.std.specs.List.{filter}
use Rattle.fs_field.specs.Table.{is_live}
use Rattle.fs_field.specs.declared.row.Row.{Row}
use Rattle.fs_rows.specs.Granted.{with_rows}
use Rattle.fs_rows.proofs.Goes.{all_live}
use Rattle.fs_parcel.specs.Rows.{AreRows, in_one_list, rows_off_modes, rows_on_modes}
use Rattle.fs_parcel.proofs.Both.{AreBoth, after, filtered_both, filtered_rows, taken}

-- what came stands in both tables
pub came_both : (more plain modes : List Row) → AreBoth plain modes → AreRows (with_rows more (in_one_list plain modes)) → AreRows (in_one_list (with_rows (rows_off_modes more) plain) (with_rows (rows_on_modes more) modes))
came_both more plain modes t a =
    let b : AreRows (after (is_live 0 1) more plain modes) =
    subst (λ rows. AreRows (with_rows more rows)) (sym (all_live (in_one_list plain modes))) a in
    let d : AreRows (in_one_list (with_rows (rows_off_modes more) (filter (is_live 0 1) plain)) (with_rows (rows_on_modes more) (filter (is_live 0 1) modes))) = (taken (is_live 0 1) more plain modes t b).1.1 in
    let e : AreRows (in_one_list (with_rows (rows_off_modes more) plain) (with_rows (rows_on_modes more) (filter (is_live 0 1) modes))) = subst (λ rows. AreRows (in_one_list (with_rows (rows_off_modes more) rows) (with_rows (rows_on_modes more) (filter (is_live 0 1) modes)))) (all_live plain) d in
    subst (λ rows. AreRows (in_one_list (with_rows (rows_off_modes more) plain) (with_rows (rows_on_modes more) rows))) (all_live modes) e

-- what passes a test stays in both tables
pub passed_both : (test : Row → Bool) (plain modes : List Row) → AreBoth plain modes
    → AreRows (in_one_list (filter test plain) (filter test modes))
passed_both test plain modes t = subst AreRows (sym (filtered_both test plain modes t)) (filtered_rows test (in_one_list plain modes) t.1.1)

-- what passes a test stays, or all does
pub either_passed : {A E : Type 0} (r : Result A E) (test : Row → Bool) (plain modes new_plain new_modes : List Row) → AreBoth plain modes → OnOk r (new_plain ≡ filter test plain) → OnErr r (new_plain ≡ plain) → OnOk r (new_modes ≡ filter test modes) → OnErr r (new_modes ≡ modes) → AreRows (in_one_list new_plain new_modes)
either_passed (Ok a) test plain modes new_plain new_modes t p q s u = rw (p, s) (passed_both test plain modes t)
either_passed (Err e) test plain modes new_plain new_modes t p q s u = rw (q, u) t.1.1
