-- Rows that come from another server.
use Rattle.std.proofs.Common.{◌≡◌, ◌==◌, not, ◌&&◌, ◌||◌, Bool, true, false, List, [], ◌∷◌, refl, ap, sym, ◌∙◌, subst}
use Rattle.std.specs.List.{list_any}
use Rattle.std.proofs.lemmas.Bool.{not-true}
use Rattle.std.proofs.Math.Bool.{and-false}
use Rattle.fs_ident.proofs.Booleans.{both as both_hold}
use Rattle.fs_ident.proofs.Passing.{In-all}
use Rattle.fs_field.specs.Conflict.{NoPlainConflict, is_exclusive, names_over, one_shared, plain_conflict}
use Rattle.fs_field.specs.Field.{tells_no_mode}
use Rattle.fs_field.specs.Table.{has_no, is_ordered, no_before, with_row}
use Rattle.fs_field.specs.declared.field.Field.{Field}
use Rattle.fs_field.specs.declared.field.Field.TheVariants.{Names, SelfW, Other}
use Rattle.fs_field.specs.declared.row.Row.{Row}
use Rattle.fs_field.proofs.Conflicts.{plain_mutual}
use Rattle.fs_field.proofs.Order.{ordered_put}
use Rattle.fs_moderows.proofs.Witnesses.{In_filtered}
use Rattle.fs_rows.specs.Granted.{with_rows}
use Rattle.fs_rows.specs.Moving.{are_new, are_off_modes, fits, is_new}
use Rattle.fs_rows.specs.Table.{IsTable}
use Rattle.fs_rows.proofs.Comes.{any_put, came_table}
use Rattle.fs_parcel.specs.Rows.{AreRows, in_one_list, is_off_modes, rows_off_modes}
use Rattle.fs_parcel.proofs.Both.{filter_with_rows, plain_table, passing}

-- ## New numbers

pub ordered_more : (rows more : List Row) → is_ordered rows ≡ true → are_new rows more ≡ true → is_ordered (with_rows more rows) ≡ true
ordered_more rows [] o n = o
ordered_more rows (m ∷ ms) o n =
    let q : (is_new rows m ≡ true) × (are_new (with_row m rows) ms ≡ true) = both_hold (is_new rows m) (are_new (with_row m rows) ms) n in
    ordered_more (with_row m rows) ms (ordered_put m rows (not-true (list_any (has_no m.no) rows) q.0) o) q.1

-- with several rows more, one of them passes or one that was there
pub any_with_rows : (test : Row → Bool) (more rows : List Row) → list_any test (with_rows more rows) ≡ (list_any test rows || list_any test more)
any_with_rows test [] rows = alone (list_any test rows) where
  alone : (b : Bool) → b ≡ (b || false)
  alone true = refl
  alone false = refl
any_with_rows test (r ∷ rs) rows = any_with_rows test rs (with_row r rows) ∙ ap (λ b. b || list_any test rs) (any_put test (λ s. no_before r.no s.no) r rows) ∙ turned (test r) (list_any test rows) (list_any test rs) where
  turned : (a b c : Bool) → ((a || b) || c) ≡ (b || (a || c))
  turned true true c = refl
  turned true false c = refl
  turned false b c = refl

-- what is new to both tables
abbrev HasBoth : List Row → List Row → List Row → Type 0
HasBoth rows plain modes = (test : Row → Bool) → list_any test rows ≡ (list_any test plain || list_any test modes)

new_parts : (rows plain modes more : List Row) → HasBoth rows plain modes → are_new rows more ≡ (are_new plain more && are_new modes more)
new_parts rows plain modes [] h = refl
new_parts rows plain modes (m ∷ ms) h =
    ap (λ b. not b && are_new (with_row m rows) ms) (h (has_no m.no))
    ∙ ap (λ b. not (list_any (has_no m.no) plain || list_any (has_no m.no) modes) && b) (new_parts (with_row m rows) (with_row m plain) (with_row m modes) ms (λ test.
    any_put test (λ r. no_before m.no r.no) m rows
    ∙ ap (λ b. test m || b) (h test)
    ∙ twice (test m) (list_any test plain) (list_any test modes)
    ∙ sym (ap (λ b. b || list_any test (with_row m modes)) (any_put test (λ r. no_before m.no r.no) m plain) ∙ ap (λ b. (test m || list_any test plain) || b) (any_put test (λ r. no_before m.no r.no) m modes))))
    ∙ shared (list_any (has_no m.no) plain) (list_any (has_no m.no) modes) (are_new (with_row m plain) ms)
    (are_new (with_row m modes) ms) where
      twice : (a b c : Bool) → (a || (b || c)) ≡ ((a || b) || (a || c))
      twice true b c = refl
      twice false b c = refl

      shared : (a b c d : Bool) → (not (a || b) && (c && d)) ≡ ((not a && c) && (not b && d))
      shared true b c d = refl
      shared false true true d = refl
      shared false true false d = refl
      shared false false true d = refl
      shared false false false d = refl

-- a number is new to both tables where it is new to each
pub new_both : (plain modes more : List Row) → are_new (in_one_list plain modes) more ≡ (are_new plain more && are_new modes more)
new_both plain modes more = new_parts (in_one_list plain modes) plain modes more (λ test. any_with_rows test modes plain)

-- ## No conflict

one_never : (f g : Field) → tells_no_mode f ≡ false → one_shared f g ≡ false
one_never (SelfW a m) g h = refl
one_never (Other a m) g h = refl
one_never f g h = absurd (cc)

over_never : (f g : Field) → tells_no_mode f ≡ false → names_over f g ≡ false
over_never (SelfW a m) g h = refl
over_never (Other a m) g h = refl
over_never f g h = absurd (cc)

under_never : (g f : Field) → tells_no_mode f ≡ false → names_over g f ≡ false
under_never (Names a) (SelfW b m) h = refl
under_never (Names a) (Other b m) h = refl
under_never (Names a) f h = absurd (cc)
under_never g f h = refl

-- a row on what sessions tell of modes conflicts plainly with none
quiet_on : (a b : Row) → is_off_modes a ≡ false → plain_conflict a b ≡ false
quiet_on a b h =
    ap (λ x. not (a.session.0 == b.session.0) && ((x && (is_exclusive a.kind || is_exclusive b.kind)) || ((names_over a.field b.field && is_exclusive b.kind) || (names_over b.field a.field && is_exclusive a.kind)))) (one_never a.field b.field h)
    ∙ ap (λ x. not (a.session.0 == b.session.0) && ((x && is_exclusive b.kind) || (names_over b.field a.field && is_exclusive a.kind))) (over_never a.field b.field h)
    ∙ ap (λ x. not (a.session.0 == b.session.0) && (x && is_exclusive a.kind)) (under_never b.field a.field h)
    ∙ and-false (not (a.session.0 == b.session.0))

-- where no two of those off modes conflict plainly, no two at all do
pub plain_are_enough : (rows : List Row) → NoPlainConflict (rows_off_modes rows) → NoPlainConflict rows
plain_are_enough rows free a b i j =
    elim (is_off_modes a) as (λ p. is_off_modes a ≡ p → plain_conflict a b ≡ false) [
      | true ↦ λ e. elim (is_off_modes b) as (λ p. is_off_modes b ≡ p → plain_conflict a b ≡ false) [
        | true ↦ λ g. free a b (In_filtered is_off_modes rows a i e) (In_filtered is_off_modes rows b j g)
        | false ↦ λ g. plain_mutual a b ∙ quiet_on b a g
      ] refl
      | false ↦ λ e. quiet_on a b e
    ] refl

-- those off modes are
pub are_plain : (rows : List Row) → are_off_modes (rows_off_modes rows) ≡ true
are_plain rows = In-all is_off_modes (rows_off_modes rows) (λ r i. passing is_off_modes rows r i)

-- rows with new numbers, of which those off modes fit, leave all in order
pub came_rows : (rows more : List Row) → AreRows rows → are_new rows more ≡ true → fits (rows_off_modes rows) (rows_off_modes more) ≡ true → AreRows (with_rows more rows)
came_rows rows more t n f =
    let o : is_ordered (with_rows more rows) ≡ true = ordered_more rows more t.ordered n in
    let plain : IsTable (rows_off_modes (with_rows more rows)) = subst IsTable (sym (filter_with_rows is_off_modes more rows o)) (came_table (rows_off_modes rows) (rows_off_modes more) (plain_table rows t) (are_plain more) f) in
    record { ordered = o; free = plain_are_enough (with_rows more rows) plain.free }
