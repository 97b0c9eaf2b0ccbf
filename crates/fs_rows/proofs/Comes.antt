-- Rows that come from another server: the last one stands beside all before it.
use Rattle.std.proofs.Common.{◌≡◌, not, ◌&&◌, ◌||◌, Bool, true, false, List, [], ◌∷◌, ◌++◌, refl, ap, ◌∙◌}
use Rattle.std.proofs.lemmas.Bool.{not-true}
use Rattle.std.specs.Prelude.{Result, Ok, Err, OnOk, OnErr}
use Rattle.std.specs.List.{list_any}
use Rattle.fs_ident.specs.declared.memory.Memory.{Memory}
use Rattle.fs_ident.proofs.Booleans.{both, and_regroup}
use Rattle.fs_ident.proofs.Standing.{none_any}
use Rattle.fs_field.specs.Conflict.{plain_conflict}
use Rattle.fs_field.specs.Field.{tells_no_mode}
use Rattle.fs_field.specs.declared.row.Row.{Row}
use Rattle.fs_field.specs.Table.{has_no, no_before, with_row}
pub use Rattle.fs_field.proofs.Named.{any_put}
use Rattle.fs_rows.specs.Granted.{with_rows}
use Rattle.fs_rows.specs.Moving.{is_new, stands_beside, fits, are_new, are_off_modes}
use Rattle.fs_rows.specs.Table.{IsTable}
use Rattle.fs_rows.proofs.Kept.{put_table}

-- what is said of the item and the first list goes over to the second
passed : (a r s : Bool) → (not (a || r) && not s) ≡ (not r && not (a || s))
passed true true s = refl
passed true false s = refl
passed false r s = refl

regroup_last : (a b c d : Bool) → c ≡ d → (a && (b && c)) ≡ ((a && b) && d)
regroup_last true b c d e = ap (λ x. b && x) e
regroup_last false b c d e = refl

new_more : (x m : Row) (xs rows : List Row) → (is_new (with_row x rows) m && is_new xs m) ≡ (is_new rows m && is_new (x ∷ xs) m)
new_more x m xs rows =
    ap (λ b. not b && is_new xs m) (any_put (has_no m.no) (λ r. no_before x.no r.no) x rows)
    ∙ passed (has_no m.no x) (list_any (has_no m.no) rows) (list_any (has_no m.no) xs)

-- none of these conflicts with the row, plainly
abbrev pub plainly_free : List Row → Row → Bool
plainly_free rows m = not (list_any (plain_conflict m) rows)

free_more : (x m : Row) (xs rows : List Row) → (plainly_free (with_row x rows) m && plainly_free xs m) ≡ (plainly_free rows m && plainly_free (x ∷ xs) m)
free_more x m xs rows =
    ap (λ b. not b && plainly_free xs m) (any_put (plain_conflict m) (λ r. no_before x.no r.no) x rows)
    ∙ passed (plain_conflict m x) (list_any (plain_conflict m) rows) (list_any (plain_conflict m) xs)

beside_more : (x m : Row) (xs rows : List Row) → (stands_beside (with_row x rows) m && stands_beside xs m) ≡ (stands_beside rows m && stands_beside (x ∷ xs) m)
beside_more x m xs rows =
    and_regroup (is_new (with_row x rows) m) (plainly_free (with_row x rows) m) (is_new xs m) (plainly_free xs m)
    ∙ ap (λ b. b && (plainly_free (with_row x rows) m && plainly_free xs m)) (new_more x m xs rows)
    ∙ ap (λ b. (is_new rows m && is_new (x ∷ xs) m) && b) (free_more x m xs rows)
    ∙ and_regroup (is_new rows m) (is_new (x ∷ xs) m) (plainly_free rows m) (plainly_free (x ∷ xs) m)

-- rows fit where those before the last do, and it stands beside all
pub fits_append : (rows ms : List Row) (m : Row) → fits rows (ms ++ m ∷ []) ≡ (fits rows ms && (stands_beside rows m && stands_beside ms m))
fits_append rows [] m = refl
fits_append rows (x ∷ xs) m =
    ap (λ b. stands_beside rows x && b) (fits_append (with_row x rows) xs m)
    ∙ regroup_last (stands_beside rows x) (fits (with_row x rows) xs) (stands_beside (with_row x rows) m && stands_beside xs m) (stands_beside rows m && stands_beside (x ∷ xs) m) (beside_more x m xs rows)

-- numbers are new where those before the last are, and its is
pub are_new_append : (rows ms : List Row) (m : Row) → are_new rows (ms ++ m ∷ []) ≡ (are_new rows ms && (is_new rows m && is_new ms m))
are_new_append rows [] m = refl
are_new_append rows (x ∷ xs) m =
    ap (λ b. is_new rows x && b) (are_new_append (with_row x rows) xs m)
    ∙ regroup_last (is_new rows x) (are_new (with_row x rows) xs) (is_new (with_row x rows) m && is_new xs m) (is_new rows m && is_new (x ∷ xs) m) (new_more x m xs rows)

-- rows that fit leave a table
pub came_table : (rows more : List Row) → IsTable rows → are_off_modes more ≡ true → fits rows more ≡ true → IsTable (with_rows more rows)
came_table rows [] t off fit = t
came_table rows (m ∷ ms) t off fit =
    let o : (tells_no_mode m.field ≡ true) × (are_off_modes ms ≡ true) = both (tells_no_mode m.field) (are_off_modes ms) off in
    let f : (stands_beside rows m ≡ true) × (fits (with_row m rows) ms ≡ true) = both (stands_beside rows m) (fits (with_row m rows) ms) fit in
    let b : (is_new rows m ≡ true) × (plainly_free rows m ≡ true) = both (is_new rows m) (plainly_free rows m) f.0 in
    let new : list_any (has_no m.no) rows ≡ false = not-true (list_any (has_no m.no) rows) b.0 in
    let quiet : list_any (plain_conflict m) rows ≡ false = not-true (list_any (plain_conflict m) rows) b.1 in
    came_table (with_row m rows) ms (put_table m rows new o.0 (none_any (plain_conflict m) rows quiet) t) o.1 f.1

pub joined_table : (result : Result (Unit {0}) Memory) (old new more : List Row) → OnOk result (new ≡ with_rows more old) → OnErr result (new ≡ old) → IsTable old → are_off_modes more ≡ true → fits old more ≡ true → IsTable new
joined_table (Ok u) old new more p q t off fit = rw p (came_table old more t off fit)
joined_table (Err m) old new more p q t off fit = rw q t

-- after a grant, whether it had room or not
pub granted_table : (result : Result (Unit {0}) Memory) (old new left more : List Row) → OnOk result (new ≡ with_rows more left) → OnErr result (new ≡ old) → IsTable (with_rows more left) → IsTable old → IsTable new
granted_table (Ok u) old new left more p q t s = rw p t
granted_table (Err m) old new left more p q t s = rw q s
