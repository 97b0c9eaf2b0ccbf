-- A parcel that fits, in its place.
use Rattle.std.proofs.Common.{◌≡◌, ℕ, true, false, not, ◌&&◌, List, [], ◌∷◌, refl, ap, sym, cond, ◌∙◌, inl, inr}
use Rattle.std.specs.Prelude.{Option, Some, None, is_some}
use Rattle.std.specs.Cmp.Lexicographic.{slice_cmp, nat_list_cmp_total}
use Rattle.std.specs.FinMap.{empty, get, get-empty, get-insert, insert}
use Rattle.std.specs.List.{list_all}
use Rattle.std.specs.Ordering.{eq_by_cmp, nat_cmp}
use Rattle.fs_ident.specs.In.{In}
use Rattle.fs_ident.specs.Ordered.{Keyed}
use Rattle.fs_ident.proofs.Booleans.{both as both_hold, first, second}
use Rattle.fs_ident.proofs.Passing.{all-In, In-all}
use Rattle.fs_field.specs.declared.row.Row.{Row}
use Rattle.fs_map.specs.Lists.{owns_given}
use Rattle.fs_map.specs.Map.{Owners, gives}
use Rattle.fs_model.specs.Step.{is_empty}
use Rattle.fs_moderows.specs.Moving.{selves_listed}
use Rattle.fs_moderows.specs.Moving as on_modes
use Rattle.fs_record.specs.Moving.{are_absent, records_given, with_records}
use Rattle.fs_record.specs.Records.{RecordMap}
use Rattle.fs_record.specs.declared.parcel.Parcel.{Parcel}
use Rattle.fs_record.specs.declared.record.Record.{Record}
use Rattle.fs_record.proofs.Coming.{goes}
use Rattle.fs_record.proofs.NodeValues.{key_is}
use Rattle.fs_rows.specs.Granted.{with_rows}
use Rattle.fs_rows.specs.Moving.{are_new, fits as off_fits, is_on_given}
use Rattle.fs_parcel.specs.Parcel.{selves_of_records}
use Rattle.fs_parcel.specs.Rows.{AreRows, rows_off_modes, rows_on_modes}
use Rattle.fs_parcel.proofs.Coming.{came_rows}
use Rattle.fs_parcel.proofs.Formed.{Fitting}

-- ## Records

pub empty_is : {X : Type 0} (xs : List X) → is_empty xs ≡ true → xs ≡ []
empty_is [] h = refl
empty_is (x ∷ xs) h = absurd (cc)

module _ (records : RecordMap) (rows : List Row) (map : Owners) (me : ℕ) (p : Parcel) (f : Fitting records rows map me p) where
  -- each record is of a file that is given
  pub record_given : (e : List ℕ × Record) → In e p.records → gives p.prefix p.piece.given e.0 ≡ true
  record_given e i = all-In (λ e. gives p.prefix p.piece.given e.0) p.records (first (list_all (λ e. gives p.prefix p.piece.given e.0) p.records) (list_all (is_on_given p.prefix p.piece.given) p.rows) f.of_given) e i

  -- and each row on one
  pub row_given : (r : Row) → In r p.rows → is_on_given p.prefix p.piece.given r ≡ true
  row_given r i = all-In (is_on_given p.prefix p.piece.given) p.rows (second (list_all (λ e. gives p.prefix p.piece.given e.0) p.records) (list_all (is_on_given p.prefix p.piece.given) p.rows) f.of_given) r i

  -- no file that is given has a record here
  pub none_here : (q : List ℕ) → gives p.prefix p.piece.given q ≡ true → get records q ≡ None
  none_here q h =
      let none : records_given p.prefix p.piece.given records ≡ [] = empty_is (records_given p.prefix p.piece.given records) (second (not (owns_given map me p.prefix p.piece.given)) (is_empty (records_given p.prefix p.piece.given records)) f.elsewhere) in
      sym (goes records p.prefix q p.piece.given h).1
      ∙ ap (λ es. get (with_records es empty) q) none
      ∙ get-empty (slice_cmp nat_cmp) q

  pub came_absent : are_absent records p.records ≡ true
  came_absent = In-all (λ e. not (is_some (get records e.0))) p.records (λ e i. ap (λ (o : Option Record). not (is_some o)) (none_here e.0 (record_given e i)))

  -- what comes is of no file that is not given
  other_stays : (q : List ℕ) → gives p.prefix p.piece.given q ≡ false → (es : Keyed Record) → ((e : List ℕ × Record) → In e es → gives p.prefix p.piece.given e.0 ≡ true) → (m : RecordMap) → get (with_records es m) q ≡ get m q
  other_stays q h [] k m = refl
  other_stays q h (e ∷ es) k m =
      other_stays q h es (λ x i. k x (inr i)) (insert m e.0 e.1)
      ∙ get-insert nat_list_cmp_total m e.0 e.1 q
      ∙ elim (eq_by_cmp (slice_cmp nat_cmp) q e.0) as (λ b. eq_by_cmp (slice_cmp nat_cmp) q e.0 ≡ b → cond b (Some e.1) (get m q) ≡ get m q) [
        | true ↦ λ t. let wrong : true ≡ false = sym (k e (inl refl)) ∙ ap (gives p.prefix p.piece.given) (sym (key_is q e.0 t)) ∙ h in absurd (cc)
        | false ↦ λ t. refl
      ] refl

  pub came_elsewhere : (q : List ℕ) → gives p.prefix p.piece.given q ≡ false → get (with_records p.records records) q ≡ get records q
  came_elsewhere q h = other_stays q h p.records record_given records

  -- ## Rows

  rows_parts : (are_new rows p.rows ≡ true) × ((off_fits (rows_off_modes rows) (rows_off_modes p.rows) ≡ true) × (on_modes.fits (selves_listed (selves_of_records p.records)) (rows_on_modes rows) (rows_on_modes p.rows) ≡ true))
  rows_parts =
      let a = both_hold (are_new rows p.rows) (off_fits (rows_off_modes rows) (rows_off_modes p.rows) && on_modes.fits (selves_listed (selves_of_records p.records)) (rows_on_modes rows) (rows_on_modes p.rows)) f.beside in
      (a.0, both_hold (off_fits (rows_off_modes rows) (rows_off_modes p.rows)) (on_modes.fits (selves_listed (selves_of_records p.records)) (rows_on_modes rows) (rows_on_modes p.rows)) a.1)

  pub new_rows : are_new rows p.rows ≡ true
  new_rows = rows_parts.0

  pub fit_on : on_modes.fits (selves_listed (selves_of_records p.records)) (rows_on_modes rows) (rows_on_modes p.rows) ≡ true
  fit_on = rows_parts.1.1

  pub all_rows : AreRows rows → AreRows (with_rows p.rows rows)
  all_rows t = came_rows rows p.rows t rows_parts.0 rows_parts.1.0
