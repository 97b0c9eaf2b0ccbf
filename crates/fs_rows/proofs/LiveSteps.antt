-- Steps of the loops over the rows that are not over.
use Rattle.std.proofs.Common.{◌≡◌, ℕ, ◌+◌, ◌<◌, ◌&&◌, ◌||◌, Bool, true, false, Bor, List, [], ◌∷◌, refl, ap, cond, ◌∙◌, length, get_or, drop}
use Rattle.std.proofs.lemmas.List.{drop_more}
use Rattle.std.specs.Prelude.{Option, Some, None, is_some, not}
use Rattle.std.specs.List.{filter, find, list_any, cons_option}
use Rattle.std.specs.Option.{option_copied}
use Rattle.fs_field.specs.declared.field.Field.{Field}
use Rattle.fs_field.specs.declared.row.Row.{Row}
use Rattle.fs_field.specs.Field.{same_field, file_of}
use Rattle.fs_field.specs.Table.{lock_on, borne_numbers, child_number}
use Rattle.fs_rows.specs.Live.{unlocked_on}

find_by : (b : Bool) (test : Row → Bool) (r : Row) (rs : List Row) → find test (cond b (r ∷ rs) rs) ≡ cond (b && test r) (Some r) (find test rs)
find_by true test r rs = refl
find_by false test r rs = refl

pub find_step : (test live : Row → Bool) (rows : List Row) (i : ℕ) (d : Row) → i < length rows → find test (filter live (drop i rows)) ≡ cond (live (get_or rows i d) && test (get_or rows i d)) (Some (get_or rows i d)) (find test (filter live (drop (i + 1) rows)))
find_step test live rows i d h = ap (λ rs. find test (filter live rs)) (drop_more rows i d h) ∙ find_by (live (get_or rows i d)) test (get_or rows i d) (filter live (drop (i + 1) rows))

some_by : (b : Bool) (o : Option Row) (r : Row) (any : Bool) → is_some o ≡ any → is_some (cond b (Some r) o) ≡ (b || any)
some_by true o r any e = refl
some_by false o r any e = e

-- a first row passes exactly if one passes
is_some-find : (test : Row → Bool) (rows : List Row) → is_some (find test rows) ≡ list_any test rows
is_some-find test [] = refl
is_some-find test (r ∷ rs) = some_by (test r) (find test rs) r (list_any test rs) (is_some-find test rs)

pub found : (o : Option (Bor Row)) (test : Row → Bool) (rows : List Row) → option_copied o ≡ find test rows → is_some o ≡ list_any test rows
found None test rows e = ap is_some e ∙ is_some-find test rows
found (Some x) test rows e = ap is_some e ∙ is_some-find test rows

lock_by : (b : Bool) (field : Field) (r : Row) (rs : List Row) → lock_on field (cond b (r ∷ rs) rs) ≡ cond ((b && same_field r.field field) && is_some r.lock) r.lock (lock_on field rs)
lock_by true field r rs = refl
lock_by false field r rs = refl

pub lock_step : (field : Field) (live : Row → Bool) (rows : List Row) (i : ℕ) (d : Row) → i < length rows → lock_on field (filter live (drop i rows)) ≡ cond ((live (get_or rows i d) && same_field (get_or rows i d).field field) && is_some (get_or rows i d).lock) (get_or rows i d).lock (lock_on field (filter live (drop (i + 1) rows)))
lock_step field live rows i d h = ap (λ rs. lock_on field (filter live rs)) (drop_more rows i d h) ∙ lock_by (live (get_or rows i d)) field (get_or rows i d) (filter live (drop (i + 1) rows))

borne_by : (b : Bool) (dir : List ℕ) (r : Row) (rs : List Row) → borne_numbers dir (cond b (r ∷ rs) rs) ≡ cond b (cons_option (child_number dir (file_of r.field)) (borne_numbers dir rs)) (borne_numbers dir rs)
borne_by true dir r rs = refl
borne_by false dir r rs = refl

pub borne_step : (dir : List ℕ) (live : Row → Bool) (rows : List Row) (i : ℕ) (d : Row) → i < length rows → borne_numbers dir (filter live (drop i rows)) ≡ cond (live (get_or rows i d)) (cons_option (child_number dir (file_of (get_or rows i d).field)) (borne_numbers dir (filter live (drop (i + 1) rows)))) (borne_numbers dir (filter live (drop (i + 1) rows)))
borne_step dir live rows i d h = ap (λ rs. borne_numbers dir (filter live rs)) (drop_more rows i d h) ∙ borne_by (live (get_or rows i d)) dir (get_or rows i d) (filter live (drop (i + 1) rows))

unlocked_by : (b c : Bool) (field : Field) (r : Row) (rs : List Row) → (same_field r.field field && not (is_some r.lock)) ≡ c → unlocked_on field (cond b (r ∷ rs) rs) ≡ cond (b && c) ((r.no, r.session) ∷ unlocked_on field rs) (unlocked_on field rs)
unlocked_by true true field r rs e = rw e refl
unlocked_by true false field r rs e = rw e refl
unlocked_by false c field r rs e = refl

pub unlocked_step : (field : Field) (live : Row → Bool) (rows : List Row) (i : ℕ) (d : Row) → i < length rows → unlocked_on field (filter live (drop i rows)) ≡ cond (live (get_or rows i d) && (same_field (get_or rows i d).field field && not (is_some (get_or rows i d).lock))) (((get_or rows i d).no, (get_or rows i d).session) ∷ unlocked_on field (filter live (drop (i + 1) rows))) (unlocked_on field (filter live (drop (i + 1) rows)))
unlocked_step field live rows i d h = ap (λ rs. unlocked_on field (filter live rs)) (drop_more rows i d h) ∙ unlocked_by (live (get_or rows i d)) (same_field (get_or rows i d).field field && not (is_some (get_or rows i d).lock)) field (get_or rows i d) (filter live (drop (i + 1) rows)) refl
