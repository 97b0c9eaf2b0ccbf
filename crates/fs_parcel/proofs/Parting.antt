-- What goes, and what is left.
use Rattle.std.proofs.Common.{◌≡◌, ℕ, Bool, true, false, not, ◌&&◌, List, refl, ap, cond}
use Rattle.std.specs.Prelude.{◌↔◌, None}
use Rattle.std.specs.FinMap.{empty, entries, get}
use Rattle.std.specs.List.{list_all}
use Rattle.std.proofs.lemmas.Bool.{not-true}
use Rattle.fs_ident.specs.Ident.{same}
use Rattle.fs_ident.specs.In.{In}
use Rattle.fs_ident.specs.Ordered.{Keyed}
use Rattle.fs_ident.proofs.Booleans.{joined}
use Rattle.fs_ident.proofs.Passing.{In-all}
use Rattle.fs_ident.proofs.Standing.{In-filter}
use Rattle.fs_ident.proofs.Same.{same_self}
use Rattle.fs_field.specs.declared.row.Row.{Row}
use Rattle.fs_map.specs.Lists.{is_piece, piece_of}
use Rattle.fs_map.specs.Map.{Owners, gives, server_of}
use Rattle.fs_map.proofs.Owned.{piece_piece}
use Rattle.fs_map.proofs.Testing.{piece_test}
use Rattle.fs_moderows.proofs.Witnesses.{In_filtered}
use Rattle.fs_record.specs.Moving.{are_distinct, records_given, records_left, with_records}
use Rattle.fs_record.specs.Records.{AreRecords, RecordMap}
use Rattle.fs_record.proofs.Coming.{goes, stays}
use Rattle.fs_record.proofs.Returning.{given_distinct, given_each}
use Rattle.fs_record.proofs.Rising.{order_test}
use Rattle.fs_rows.specs.Moving.{is_on_given, rows_given, rows_left}
use Rattle.fs_parcel.specs.Parcel.{is_formed, is_in_order, is_of_given, parcel_of}
use Rattle.fs_parcel.proofs.Both.{passing}

-- ## Rows

pub rows_that_go : (prefix : List ℕ) (given : Keyed Bool) (rows : List Row) (row : Row) → In row (rows_given prefix given rows) ↔ (In row rows × (is_on_given prefix given row ≡ true))
rows_that_go prefix given rows row = (
  λ i. (In-filter (is_on_given prefix given) row rows i, passing (is_on_given prefix given) rows row i),
  λ q. In_filtered (is_on_given prefix given) rows row q.0 q.1,
)

pub rows_that_stay : (prefix : List ℕ) (given : Keyed Bool) (rows : List Row) (row : Row) → In row (rows_left prefix given rows) ↔ (In row rows × (is_on_given prefix given row ≡ false))
rows_that_stay prefix given rows row = (
  λ i. (In-filter (λ r. not (is_on_given prefix given r)) row rows i, not-true (is_on_given prefix given row) (passing (λ r. not (is_on_given prefix given r)) rows row i)),
  λ q. In_filtered (λ r. not (is_on_given prefix given r)) rows row q.0 (ap not q.1),
)

-- ## Records

pub records_that_go : (m : RecordMap) (prefix file : List ℕ) (given : Keyed Bool) → get (with_records (records_given prefix given m) empty) file ≡ cond (gives prefix given file) (get m file) None
records_that_go m prefix file given = elim (gives prefix given file) as (λ b. gives prefix given file ≡ b → get (with_records (records_given prefix given m) empty) file ≡ cond b (get m file) None) [
  | true ↦ λ h. (goes m prefix file given h).1
  | false ↦ λ h. (stays m prefix file given h).1
] refl

pub records_that_stay : (m : RecordMap) (prefix file : List ℕ) (given : Keyed Bool) → get (records_left prefix given m) file ≡ cond (gives prefix given file) None (get m file)
records_that_stay m prefix file given = elim (gives prefix given file) as (λ b. gives prefix given file ≡ b → get (records_left prefix given m) file ≡ cond b None (get m file)) [
  | true ↦ λ h. (goes m prefix file given h).0
  | false ↦ λ h. (stays m prefix file given h).0
] refl

-- ## Form

module _ (m : RecordMap) (map : Owners) (me : ℕ) (prefix : List ℕ) where
  ordered_records : AreRecords m → list_all (λ e. is_in_order e.1) (records_given prefix (piece_of map me prefix) m) ≡ true
  ordered_records s = In-all (λ e. is_in_order e.1) (records_given prefix (piece_of map me prefix) m) (λ e i. order_test e.1.node (given_each prefix (piece_of map me prefix) m s e i).in_order)

  pub parcel_formed : (rows : List Row) → server_of map prefix ≡ me → AreRecords m → is_formed (parcel_of m rows map me prefix) ≡ true
  parcel_formed rows mine s =
      let given = piece_of map me prefix in
      joined (same prefix prefix && is_piece prefix given) (are_distinct (records_given prefix given m) && list_all (λ e. is_in_order e.1) (records_given prefix given m))
      (joined (same prefix prefix) (is_piece prefix given) (same_self prefix) (piece_test prefix given (piece_piece map me prefix mine).0))
      (joined (are_distinct (records_given prefix given m)) (list_all (λ e. is_in_order e.1) (records_given prefix given m)) (given_distinct prefix given m) (ordered_records s))

  pub parcel_of_given : (rows : List Row) → is_of_given (parcel_of m rows map me prefix) ≡ true
  parcel_of_given rows =
      let given = piece_of map me prefix in
      joined (list_all (λ e. gives prefix given e.0) (records_given prefix given m)) (list_all (is_on_given prefix given) (rows_given prefix given rows))
      (In-all (λ e. gives prefix given e.0) (records_given prefix given m) (λ e i. passing (λ e. gives prefix given e.0) (entries m) e i))
      (In-all (is_on_given prefix given) (rows_given prefix given rows) (λ r i. passing (is_on_given prefix given) rows r i))
