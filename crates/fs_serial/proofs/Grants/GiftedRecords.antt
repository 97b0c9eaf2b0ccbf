-- Records after a directory gave a number: its next number alone is another.
use Rattle.std.proofs.Common.{◌≡◌, ℕ, ◌+◌, ◌≤◌, Bool, true, false, List, refl, sym, ap, ◌∙◌, subst, cond, arith}
use Rattle.std.specs.Prelude.{Option, Some, None}
use Rattle.std.specs.Ordering.{nat_cmp, eq_by_cmp}
use Rattle.std.specs.Cmp.Lexicographic.{slice_cmp, nat_list_cmp_total}
use Rattle.std.specs.FinMap.{get, get-insert, same_map}
use Rattle.fs_ident.proofs.MapsOf.{anti}
use Rattle.fs_ident.specs.Ident.{same}
use Rattle.fs_ident.specs.declared.actor.Session.{Session}
use Rattle.fs_ident.proofs.Same.{same_is}
use Rattle.fs_field.specs.declared.field.Field.{Field}
use Rattle.fs_field.specs.Field.{file_of}
use Rattle.fs_model.specs.Sound.{kind_of, IsSound}
use Rattle.fs_model.specs.Namespace.{first_space}
use Rattle.fs_msg.specs.Journal.{IsSerialRun}
use Rattle.fs_msg.specs.declared.item.Item.{Item}
use Rattle.fs_record.specs.declared.record.Record.{Record}
use Rattle.fs_record.specs.Fresh.{fresh_number, is_directory, is_dir, records_after_gift, with_next}
use Rattle.fs_record.specs.Records.{RecordMap, AreRecords, node_of, next_of, nodes_of}
use Rattle.fs_record.specs.ValueOf.{value_of, value_at}
use Rattle.fs_record.proofs.Kept.{given_kept}
use Rattle.fs_record.proofs.NodeMaps.{node_there}
use Rattle.fs_record.proofs.NodeValues.{key_is}
use Rattle.fs_record.proofs.NumbersRise.{given_here, given_elsewhere}
use Rattle.fs_serial.specs.Fresh.{NodesMade}
use Rattle.fs_serial.specs.Serial.{JournalSerial, AreSound}

pub has_record : (o : Option Record) → is_dir (kind_of (node_of o)) ≡ true → (r : Record) × (o ≡ Some r)
has_record None h = absurd (cc)
has_record (Some r) h = (r, refl)

module _ (m : RecordMap) (dir : List ℕ) (k : ℕ) where
  node_by_key : (r : Record) (id : List ℕ) (b : Bool) → get m dir ≡ Some r → eq_by_cmp (slice_cmp nat_cmp) id dir ≡ b → node_of (cond b (Some (record { node = r.node; next = k + 1 })) (get m id)) ≡ node_of (get m id)
  node_by_key r id true e t = sym (ap node_of e) ∙ ap (λ x. node_of (get m x)) (sym (key_is id dir t))
  node_by_key r id false e t = refl

  node_by : (id : List ℕ) (o : Option Record) → get m dir ≡ o → node_of (get (with_next m dir (k + 1) o) id) ≡ node_of (get m id)
  node_by id None e = refl
  node_by id (Some r) e = ap node_of (get-insert nat_list_cmp_total m dir (record { node = r.node; next = k + 1 }) id) ∙ node_by_key r id (eq_by_cmp (slice_cmp nat_cmp) id dir) e refl

  pub node_stays : (id : List ℕ) → node_of (get (records_after_gift m dir (Some k)) id) ≡ node_of (get m id)
  node_stays id = node_by id (get m dir) refl

  pub nodes_stay : nodes_of (records_after_gift m dir (Some k)) ≡ nodes_of m
  nodes_stay = same_map nat_list_cmp_total anti _ _ (λ q. node_there (records_after_gift m dir (Some k)) q ∙ node_stays q ∙ sym (node_there m q))

  pub values_stay : (by : Session) (field : Field) → value_of (records_after_gift m dir (Some k)) by field ≡ value_of m by field
  values_stay by field = ap (value_at by field) (node_stays (file_of field))

  pub directories_stay : (id : List ℕ) → is_directory (records_after_gift m dir (Some k)) id ≡ is_directory m id
  directories_stay id = ap (λ o. is_dir (kind_of o)) (node_stays id)

  pub next_here : is_directory m dir ≡ true → next_of (get (records_after_gift m dir (Some k)) dir) ≡ k + 1
  next_here h = let r = has_record (get m dir) h in ap next_of (given_here m dir k r.0 r.1)

  pub next_rises : is_directory m dir ≡ true → next_of (get m dir) ≤ k → (id : List ℕ) → next_of (get m id) ≤ next_of (get (records_after_gift m dir (Some k)) id)
  next_rises h low id = by (same id dir) refl
    where
      by : (b : Bool) → same id dir ≡ b → next_of (get m id) ≤ next_of (get (records_after_gift m dir (Some k)) id)
      by true e = subst (λ x. next_of (get m x) ≤ next_of (get (records_after_gift m dir (Some k)) x)) (sym (same_is id dir e)) (let n = next_here h in omega arith)
      by false e = let n = ap next_of (given_elsewhere m dir id (Some k) e) in omega arith

  pub made_still : (journal : List Item) → NodesMade m journal → NodesMade (records_after_gift m dir (Some k)) journal
  made_still journal h id kind e = h id kind (sym (ap kind_of (node_stays id)) ∙ e)

  pub serial_still : (journal : List Item) → JournalSerial journal m → JournalSerial journal (records_after_gift m dir (Some k))
  serial_still journal h = subst (λ n. IsSerialRun first_space journal n) (sym nodes_stay) h

  pub sound_still : (borne : List ℕ) → fresh_number m dir borne ≡ Some k → AreSound m → AreSound (records_after_gift m dir (Some k))
  sound_still borne e h = record {
    space = subst IsSound (sym nodes_stay) h.space;
    records = subst (λ o. AreRecords (records_after_gift m dir o)) e (given_kept m dir borne h.records);
  }
