-- Steps of the loops over rows.
use Rattle.std.proofs.Common.{◌≡◌, ℕ, ◌+◌, ◌<◌, ◌&&◌, ◌||◌, Bool, true, false, List, [], ◌∷◌, ◌++◌, refl, ap, cond, zero, suc, length, get_or, take, drop, map, arith, add-one}
use Rattle.std.proofs.Math.ListN.{set}
use Rattle.std.proofs.lemmas.List.{drop_more}
use Rattle.std.specs.Prelude.{Option, Some, is_some}
use Rattle.std.specs.List.{find, list_any, cons_option}
use Rattle.fs_field.specs.declared.field.Field.{Field}
use Rattle.fs_field.specs.declared.row.Row.{Row}
use Rattle.fs_field.specs.Field.{same_field, file_of}
use Rattle.fs_field.specs.Table.{lock_on, rows_on, borne_numbers, child_number}

pub find_step : (test : Row → Bool) (rows : List Row) (i : ℕ) (d : Row) → i < length rows → find test (drop i rows) ≡ cond (test (get_or rows i d)) (Some (get_or rows i d)) (find test (drop (i + 1) rows))
find_step test rows i d h = rw (drop_more rows i d h)

pub any_step : (test : Row → Bool) (rows : List Row) (i : ℕ) (d : Row) → i < length rows → list_any test (drop i rows) ≡ (test (get_or rows i d) || list_any test (drop (i + 1) rows))
any_step test rows i d h = rw (drop_more rows i d h)

found_by : (b : Bool) (r : Row) (rest : Option Row) {any : Bool} → any ≡ is_some rest → (b || any) ≡ is_some (cond b (Some r) rest)
found_by true r rest e = refl
found_by false r rest e = e

-- a row passes the test exactly if the first that does is found
pub found : (test : Row → Bool) (rows : List Row) → list_any test rows ≡ is_some (find test rows)
found test [] = refl
found test (r ∷ rows) = found_by (test r) r (find test rows) (found test rows)

pub lock_step : (field : Field) (rows : List Row) (i : ℕ) (d : Row) → i < length rows → lock_on field (drop i rows) ≡ cond (same_field (get_or rows i d).field field && is_some (get_or rows i d).lock) (get_or rows i d).lock (lock_on field (drop (i + 1) rows))
lock_step field rows i d h = rw (drop_more rows i d h)

pub on_step : (field : Field) (rows : List Row) (i : ℕ) (d : Row) → i < length rows → rows_on field (drop i rows) ≡ cond (same_field (get_or rows i d).field field) (((get_or rows i d).no, (get_or rows i d).session) ∷ rows_on field (drop (i + 1) rows)) (rows_on field (drop (i + 1) rows))
on_step field rows i d h = rw (drop_more rows i d h)

pub borne_step : (dir : List ℕ) (rows : List Row) (i : ℕ) (d : Row) → i < length rows → borne_numbers dir (drop i rows) ≡ cons_option (child_number dir (file_of (get_or rows i d).field)) (borne_numbers dir (drop (i + 1) rows))
borne_step dir rows i d h = rw (drop_more rows i d h)

-- one more row is changed
pub mapped_step : (f : Row → Row) (rows : List Row) (i : ℕ) (d : Row) → i < length rows → take (i + 1) (set rows i (f (get_or rows i d))) ++ map f (drop (i + 1) (set rows i (f (get_or rows i d)))) ≡ take i rows ++ map f (drop i rows)
mapped_step f [] i d h = absurd (omega arith)
mapped_step f (r ∷ rows) zero d h = refl
mapped_step f (r ∷ rows) (suc i) d h = rw add-one (ap (λ rs. r ∷ rs) (rw add-one at (mapped_step f rows i d (omega arith))))
