-- What a server keeps when it hands over what it has below a prefix, and what goes, are its two parts.
use Rattle.std.proofs.Common.{◌≡◌, ◌⊎◌, ◌==◌, ◌+◌, ◌&&◌, not, ℕ, Bool, true, false, List, refl, ap, sym, ◌∙◌, inl, inr, cond, arith}
use Rattle.std.specs.Prelude.{Option, Some, None}
use Rattle.std.specs.FinMap.{get}
use Rattle.fs_ident.specs.In.{In}
use Rattle.fs_ident.specs.Ordered.{Keyed}
use Rattle.fs_ident.proofs.Standing.{In-filter}
use Rattle.fs_field.specs.declared.row.Row.{Row}
use Rattle.fs_map.specs.Lists.{map_after_give, piece_of}
use Rattle.fs_map.specs.Map.{begins, gives, server_of}
use Rattle.fs_map.proofs.Owned.{piece_piece, taken_map}
use Rattle.fs_moderows.proofs.Witnesses.{In_filtered}
use Rattle.fs_parcel.specs.Parcel.{parcel_of}
use Rattle.fs_msg.specs.declared.peer_msg.PeerMsg.TheVariants.{Parcel as OfParcel}
use Rattle.fs_record.specs.Moving.{records_given, records_left}
use Rattle.fs_record.specs.declared.parcel.Parcel.{Parcel}
use Rattle.fs_record.specs.declared.record.Record.{Record}
use Rattle.fs_record.proofs.Parting.{left_at}
use Rattle.fs_record.proofs.Returning.{there}
use Rattle.fs_rows.specs.Moving.{is_on_given, rows_given, rows_left}
use Rattle.fs_server.specs.Moves.{without_given}
use Rattle.fs_server.specs.Server.{is_mine}
use Rattle.fs_server.specs.declared.state.Server.{Server}
use Rattle.fs_serial.specs.Cluster.{InFlight}
use Rattle.fs_serial.proofs.Lists.Counted.{one_if}
use Rattle.fs_serial.proofs.Places.HeldRecords.{entry_of}
use Rattle.fs_serial.proofs.Moves.Parted.{AreManaged, ArePartsOf}
use Rattle.fs_serial.proofs.Lists.Times.{times_parts}

choose : {X : Type 0} (b : Bool) (o : Option X) (r : X) → o ≡ Some r → (cond (not b) o None ≡ Some r) ⊎ (b ≡ true)
choose true o r h = inr refl
choose false o r h = inl h

chosen : {X : Type 0} (b : Bool) (o : Option X) (r : X) → cond (not b) o None ≡ Some r → (o ≡ Some r) × (b ≡ false)
chosen true o r h = absurd (cc)
chosen false o r h = (h, refl)

-- the parcel, and its message
abbrev pub parted : List ℕ → Server → Parcel
parted prefix s = parcel_of s.records s.rows s.map s.me prefix

abbrev pub going : ℕ → List ℕ → ℕ → Server → InFlight
going k prefix to s = record { from = k; to = to; message = OfParcel (parted prefix s) }

module _ (prefix : List ℕ) (to : ℕ) (s : Server) where
  abbrev given : Keyed Bool
  given = piece_of s.map s.me prefix

  row_either : (r : Row) → In r s.rows → In r (rows_left prefix given s.rows) ⊎ In r (rows_given prefix given s.rows)
  row_either r i = elim (is_on_given prefix given r) as (λ b. is_on_given prefix given r ≡ b → In r (rows_left prefix given s.rows) ⊎ In r (rows_given prefix given s.rows)) [
    | true ↦ λ e. inr (In_filtered (is_on_given prefix given) s.rows r i e)
    | false ↦ λ e. inl (In_filtered (λ r. not (is_on_given prefix given r)) s.rows r i (ap not e))
  ] refl

  record_either : (id : List ℕ) (r : Record) → get s.records id ≡ Some r → (get (records_left prefix given s.records) id ≡ Some r) ⊎ In (id, r) (records_given prefix given s.records)
  record_either id r h = elim (choose (gives prefix given id) (get s.records id) r h) as (λ _. (get (records_left prefix given s.records) id ≡ Some r) ⊎ In (id, r) (records_given prefix given s.records)) [
    | inl e ↦ inl (left_at prefix given s.records id ∙ e)
    | inr e ↦ inr (In_filtered (λ (x : List ℕ × Record). gives prefix given x.0) _ (id, r) (entry_of s.records id r h) e)
  ]

  pub parts : ArePartsOf s (without_given prefix to s) (parted prefix s)
  parts = record {
    rows_part = row_either;
    rows_left = λ r i. In-filter (λ r. not (is_on_given prefix given r)) r s.rows i;
    rows_gone = λ r i. In-filter (is_on_given prefix given) r s.rows i;
    times = λ n. sym (times_parts n (is_on_given prefix given) s.rows);
    records_part = record_either;
    records_left = λ id r h. (chosen (gives prefix given id) (get s.records id) r (sym (left_at prefix given s.records id) ∙ h)).0;
    records_gone = λ id r i. (there prefix given s.records (id, r) i).0;
  }

  module _ (mine : server_of s.map prefix ≡ s.me) where
    -- the server's map tells what it told, but that what goes is with the other
    pub tells : (id : List ℕ) → server_of (map_after_give s.map s.me prefix to) id ≡ cond (gives prefix given id) to (server_of s.map id)
    tells id = (taken_map s.map to prefix given (piece_piece s.map s.me prefix mine).0).1 id

    -- what does not go is managed as it was
    pub still_mine : (id : List ℕ) → gives prefix given id ≡ false → is_mine (without_given prefix to s) id ≡ is_mine s id
    still_mine id h = ap (λ j. j == s.me) (tells id ∙ ap (λ b. cond b to (server_of s.map id)) h)

    split : (own below gone : Bool) (then now : ℕ) → (to == s.me) ≡ false → (now == s.me) ≡ own → gone ≡ (below && own) → then ≡ cond gone to now → one_if own ≡ one_if gone + one_if (then == s.me)
    split true true gone then now a o g t = let e : one_if (to == s.me) ≡ 0 = ap one_if a in rw (t, g) (omega arith)
    split true false gone then now a o g t = let e : one_if (now == s.me) ≡ 1 = ap one_if o in rw (t, g) (omega arith)
    split false true gone then now a o g t = let e : one_if (now == s.me) ≡ 0 = ap one_if o in rw (t, g) (omega arith)
    split false false gone then now a o g t = let e : one_if (now == s.me) ≡ 0 = ap one_if o in rw (t, g) (omega arith)

    pub managed : (to == s.me) ≡ false → AreManaged s (without_given prefix to s) (parted prefix s)
    managed other id = split (server_of s.map id == s.me) (begins prefix id) (gives prefix given id) (server_of (map_after_give s.map s.me prefix to) id) (server_of s.map id) other refl ((piece_piece s.map s.me prefix mine).1 id) (tells id)
