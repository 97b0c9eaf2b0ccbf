-- What the tests of a parcel say.
use Rattle.std.proofs.Common.{◌≡◌, ℕ, Bool, true, ◌&&◌, List, sym, subst}
use Rattle.std.specs.Cmp.Lexicographic.{same_text}
use Rattle.std.specs.List.{list_all}
use Rattle.fs_ident.specs.Ident.{same}
use Rattle.fs_ident.specs.Ordered.{are_keys_in_order}
use Rattle.fs_ident.proofs.Booleans.{both as both_hold, first, second}
use Rattle.fs_ident.proofs.Passing.{all-In}
use Rattle.fs_field.specs.declared.row.Row.{Row}
use Rattle.fs_map.specs.Lists.{is_piece}
use Rattle.fs_map.specs.Map.{IsPiece, Owners}
use Rattle.fs_map.proofs.Testing.{test_piece}
use Rattle.fs_record.specs.Moving.{AreEachRecords, AreNumbersLeft, are_distinct}
use Rattle.fs_record.specs.Records.{RecordMap}
use Rattle.fs_record.specs.declared.parcel.Parcel.{Parcel}
use Rattle.fs_record.proofs.Rising.{test_order}
use Rattle.fs_parcel.specs.Parcel.{fits, is_elsewhere, is_formed, is_in_order, is_of_given, rows_fit}

-- ## Its form

-- its parts, where the parcel is formed
pub record Formed (p : Parcel) : Type 0 where
  pub prefix : p.piece.prefix ≡ p.prefix
  pub piece : is_piece p.prefix p.piece.given ≡ true
  pub distinct : are_distinct p.records ≡ true

pub formed : (p : Parcel) → is_formed p ≡ true → Formed p
formed p h =
    let a = both_hold (same p.piece.prefix p.prefix && is_piece p.prefix p.piece.given) (are_distinct p.records && list_all (λ e. is_in_order e.1) p.records) h in
    let b = both_hold (same p.piece.prefix p.prefix) (is_piece p.prefix p.piece.given) a.0 in
    record {
      prefix = same_text p.piece.prefix p.prefix (sym b.0);
      piece = b.1;
      distinct = first (are_distinct p.records) (list_all (λ e. is_in_order e.1) p.records) a.1;
    }

pub formed_piece : (p : Parcel) → is_formed p ≡ true → IsPiece p.piece.prefix p.piece.given
formed_piece p h =
    let f : Formed p = formed p h in
    subst (λ prefix. IsPiece prefix p.piece.given) (sym f.prefix) (test_piece p.prefix p.piece.given f.piece)

pub formed_order : (p : Parcel) → is_formed p ≡ true → are_keys_in_order p.piece.given ≡ true
formed_order p h = (formed_piece p h).ordered

-- its records are records, where each has a next number that there is
pub each_records : (p : Parcel) → AreNumbersLeft p.records → is_formed p ≡ true → AreEachRecords p.records
each_records p left h e i =
    let parts : Bool = list_all (λ x. is_in_order x.1) p.records in
    let sorted : parts ≡ true = second (are_distinct p.records) parts (second (same p.piece.prefix p.prefix && is_piece p.prefix p.piece.given) (are_distinct p.records && parts) h) in
    let n = left e i in
    record { in_order = test_order e.1.node (all-In (λ x. is_in_order x.1) p.records sorted e i); least = n.0; most = n.1 }

-- ## The tests

pub record Fitting (records : RecordMap) (rows : List Row) (map : Owners) (me : ℕ) (p : Parcel) : Type 0 where
  pub form : is_formed p ≡ true
  pub of_given : is_of_given p ≡ true
  pub elsewhere : is_elsewhere records map me p ≡ true
  pub beside : rows_fit rows p ≡ true

pub fitting : (records : RecordMap) (rows : List Row) (map : Owners) (me : ℕ) (p : Parcel) → fits records rows map me p ≡ true → Fitting records rows map me p
fitting records rows map me p h =
    let a = both_hold (is_formed p && is_of_given p) (is_elsewhere records map me p && rows_fit rows p) h in
    let b = both_hold (is_formed p) (is_of_given p) a.0 in
    let d = both_hold (is_elsewhere records map me p) (rows_fit rows p) a.1 in
    record { form = b.0; of_given = b.1; elsewhere = d.0; beside = d.1 }
