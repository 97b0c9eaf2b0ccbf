-- A parcel on its way fits where it comes.
use Rattle.std.proofs.Common.{◌≡◌, ◌⊎◌, ◌==◌, ◌+◌, ◌≤◌, ◌&&◌, ◌||◌, not, ℕ, Bool, true, false, List, [], ◌∷◌, refl, ap, sym, ◌∙◌, subst, inl, inr, cond, arith}
use Rattle.std.specs.Prelude.{Option, nat_le}
use Rattle.std.specs.FinMap.{empty, get, get-empty}
use Rattle.std.specs.List.{filter, list_all, list_any}
use Rattle.std.specs.Cmp.{nat_eq_equiv}
use Rattle.std.specs.Cmp.Lexicographic.{slice_cmp}
use Rattle.std.specs.Ordering.{nat_cmp}
use Rattle.std.proofs.lemmas.Bool.Decides.{nat_tests}
use Rattle.std.proofs.lemmas.Bool.{or_from}
use Rattle.fs_ident.specs.In.{In}
use Rattle.fs_ident.specs.declared.actor.Session.{Session}
use Rattle.fs_ident.proofs.Booleans.{joined}
use Rattle.fs_ident.proofs.Passing.{In-all}
use Rattle.fs_ident.proofs.Standing.{In-filter}
use Rattle.fs_field.specs.Conflict.{Selves, conflicts, has_fixed, mode_conflict, plain_conflict}
use Rattle.fs_field.specs.Field.{file_of}
use Rattle.fs_field.specs.Table.{with_row}
use Rattle.fs_field.specs.declared.row.Row.{Row}
use Rattle.fs_field.proofs.Conflicts.{self_file}
use Rattle.fs_map.specs.Lists.{owns_given}
use Rattle.fs_map.specs.Map.{gives}
use Rattle.fs_map.proofs.Owned.{owned}
use Rattle.fs_model.specs.Step.{is_empty}
use Rattle.fs_modes.specs.declared.modes.Mode.{Mode}
use Rattle.fs_moderows.specs.Moving.{is_free, selves_listed}
use Rattle.fs_moderows.specs.Moving as on_modes
use Rattle.fs_moderows.proofs.Free.{apart_goes, goes_apart}
use Rattle.fs_moderows.proofs.Moves.{came_or_was}
use Rattle.fs_moderows.proofs.Promises.{kept_apart}
use Rattle.fs_moderows.proofs.Witnesses.{In_none, Witness, fixed_from, fixed_row, witness, witnessed}
use Rattle.fs_parcel.specs.Parcel.{fits, is_elsewhere, is_formed, is_of_given, rows_fit, selves_of_records}
use Rattle.fs_parcel.specs.Rows.{is_off_modes, rows_off_modes, rows_on_modes}
use Rattle.fs_parcel.proofs.Both.{passing}
use Rattle.fs_parcel.proofs.Formed.{formed}
use Rattle.fs_parcel.proofs.Quiet.{listed_at}
use Rattle.fs_record.specs.Moving.{records_given, with_records}
use Rattle.fs_record.specs.Records.{RecordMap, node_of}
use Rattle.fs_record.specs.ValueOf.{handles_of, selves_in, selves_of}
use Rattle.fs_record.specs.declared.parcel.Parcel.{Parcel}
use Rattle.fs_record.specs.declared.record.Record.{Record}
use Rattle.fs_record.proofs.Returning.{there}
use Rattle.fs_rows.specs.Granted.{with_rows}
use Rattle.fs_rows.specs.Moving.{are_new, is_new, stands_beside}
use Rattle.fs_rows.specs.Moving as off_modes
use Rattle.fs_server.specs.Moves.{fits_here, was_given}
use Rattle.fs_server.specs.Server.{is_mine}
use Rattle.fs_server.specs.declared.state.Server.{Server}
use Rattle.fs_serial.specs.Cluster.{Cluster, parcels_of}
use Rattle.fs_serial.specs.Rows.{NoRowsConflict, PromisesKept, RowsCounted, RowsGiven}
use Rattle.fs_serial.specs.Places.{PlacesHold, gives_it}
use Rattle.fs_serial.specs.Refusals.{rows_in}
use Rattle.fs_serial.specs.Runs.{records_in}
use Rattle.fs_serial.specs.Seen.{with_all}
use Rattle.fs_serial.specs.Sight.{Counts, count_with}
use Rattle.fs_serial.proofs.Moves.ComingParts.{once}
use Rattle.fs_serial.proofs.Places.HeldRecords.{HasRecord, IsOneOf, one_alone, put_all, record_of_all}
use Rattle.fs_serial.proofs.Places.HeldRows.{row_of_all}
use Rattle.fs_serial.proofs.Grants.Leased.{In-with_row}
use Rattle.fs_serial.proofs.Places.OnePlaces.{not_both, one_parcel, one_record, record_flies, record_home, row_sent}
use Rattle.fs_serial.proofs.Lists.Times.{AreOnce, new_once, once_behind, once_new, times, times_parts}

-- what a parcel needs to hold of the rows of all
pub record RowsStand (count : ℕ → ℕ) (m : RecordMap) (rows : List Row) : Type 0 where
  pub apart : NoRowsConflict rows
  pub promises : PromisesKept m rows
  pub counted : RowsCounted rows
  pub given : RowsGiven count rows

-- ## Rows off modes

-- rows with new numbers of which none conflicts with any stand beside them
quiet_fits : (more rows : List Row) → AreOnce more rows → ((a b : Row) → In a more → In b more ⊎ In b rows → plain_conflict a b ≡ false) → off_modes.fits rows more ≡ true
quiet_fits [] rows o q = refl
quiet_fits (m ∷ ms) rows o q = joined (stands_beside rows m) (off_modes.fits (with_row m rows) ms)
    (joined (is_new rows m) (not (list_any (plain_conflict m) rows)) (ap not (new_once m ms rows (o m.no))) (ap not (In_none (plain_conflict m) rows (λ x i. q m x (inl refl) (inr i)))))
    (quiet_fits ms (with_row m rows) (once_behind m ms rows o) (λ a b i j. q a b (inr i) (elim j as (λ _. In b (m ∷ ms) ⊎ In b rows) [
      | inl k ↦ inl (inr k)
      | inr k ↦ elim (In-with_row b m rows k) as (λ _. In b (m ∷ ms) ⊎ In b rows) [ inl e ↦ inl (inl e) | inr l ↦ inr l ]
    ])))

-- of rows that are there once each part is
once_parts : (test : Row → Bool) (more rows : List Row) → AreOnce more rows → AreOnce (filter test more) (filter test rows)
once_parts test more rows o n =
    let a : times n (filter test more) + times n (filter (λ r. not (test r)) more) ≡ times n more = times_parts n test more in
    let b : times n (filter test rows) + times n (filter (λ r. not (test r)) rows) ≡ times n rows = times_parts n test rows in
    let e : times n more + times n rows ≤ 1 = o n in
    omega arith

-- ## Rows on modes

-- ## Numbers

given_here : (me given server count at : ℕ) → 1 ≤ count → (server ≡ me → at ≡ given) → count ≤ at → (not (server == me) || (nat_le 1 count && nat_le count given)) ≡ true
given_here me given server count at least own most = go (server == me) refl
  where
    is : (server == me) ≡ true → server ≡ me
    is e = grind (arith, nat_tests)

    one : nat_le 1 count ≡ true
    one = grind (arith, nat_tests)

    within : at ≡ given → nat_le count given ≡ true
    within e = grind (arith, nat_tests)

    go : (b : Bool) → (server == me) ≡ b → (not b || (nat_le 1 count && nat_le count given)) ≡ true
    go false e = refl
    go true e = joined (nat_le 1 count) (nat_le count given) one (within (own (is e)))

no_items : {X : Type 0} (xs : List X) → ((x : X) → In x xs → ⊥) → is_empty xs ≡ true
no_items [] h = refl
no_items (x ∷ xs) h = absurd (h x (inl refl))

module _ (c : Cluster) (h : PlacesHold c) (s : Server) (i : In s c.servers) (p : Parcel) (j : In p (parcels_of c.in_flight)) where
  abbrev all : List Row
  all = rows_in c

  abbrev records : RecordMap
  records = records_in c

  -- nothing that it gives is here
  apart : (id : List ℕ) → is_mine s id ≡ true → gives_it id p ≡ true → ⊥
  apart id a b = not_both c.servers (parcels_of c.in_flight) h.one id s p i j a b

  none_owned : owns_given s.map s.me p.prefix p.piece.given ≡ false
  none_owned = go (owns_given s.map s.me p.prefix p.piece.given) refl
    where
      go : (b : Bool) → owns_given s.map s.me p.prefix p.piece.given ≡ b → b ≡ false
      go false e = refl
      go true e =
          let q = owned s.map s.me p.prefix p.piece.given e in
          absurd (apart q.0 (ap (λ n. n == s.me) q.1.1 ∙ nat_eq_equiv.refl s.me) q.1.0)

  none_had : is_empty (records_given p.prefix p.piece.given s.records) ≡ true
  none_had = no_items (records_given p.prefix p.piece.given s.records) (λ e k.
      apart e.0 (record_home c h s i e.0 e.1 (there p.prefix p.piece.given s.records e k).0) (passing (λ (x : List ℕ × Record). gives p.prefix p.piece.given x.0) _ e k))

  elsewhere : is_elsewhere s.records s.map s.me p ≡ true
  elsewhere = joined (not (owns_given s.map s.me p.prefix p.piece.given)) (is_empty (records_given p.prefix p.piece.given s.records)) (ap not none_owned) none_had

  -- ## Its rows among all

  row_came : (r : Row) → In r p.rows → In r all
  row_came r k = row_of_all c.servers (parcels_of c.in_flight) r (inr (p, j, k))

  row_here : (r : Row) → In r s.rows → In r all
  row_here r k = row_of_all c.servers (parcels_of c.in_flight) r (inl (s, i, k))

  either_row : (r : Row) → In r p.rows ⊎ In r s.rows → In r all
  either_row r (inl k) = row_came r k
  either_row r (inr k) = row_here r k

  module _ (o : Counts) (stand : RowsStand (count_with s.me s.given o.given) (with_all s c).records (with_all s c).rows) where
    off_fit : off_modes.fits (rows_off_modes s.rows) (rows_off_modes p.rows) ≡ true
    off_fit = quiet_fits (rows_off_modes p.rows) (rows_off_modes s.rows) (once_parts is_off_modes p.rows s.rows (once c h s i p j))
        (λ a b k l. stand.apart a b (row_came a (In-filter is_off_modes a p.rows k)) (either_row b (elim l as (λ _. In b p.rows ⊎ In b s.rows) [
          | inl m ↦ inl (In-filter is_off_modes b p.rows m)
          | inr m ↦ inr (In-filter is_off_modes b s.rows m)
        ])))

    free : (a b : Row) → In a all → In b all → conflicts (selves_in records) all a b ≡ false
    free a b k l = or_from (plain_conflict a b) (mode_conflict (selves_in records) all a b) (stand.apart a b k l) (kept_apart (selves_in records) all stand.promises a b k l)

    -- ## Handles

    abbrev listed : Selves
    listed = selves_listed (selves_of_records p.records)

    -- the record of a file that it gives is in it, if there is one
    its_record : (id : List ℕ) → gives_it id p ≡ true → get (with_records p.records empty) id ≡ get records id
    its_record id g =
        let nothing : RecordMap = empty in
        let none : IsOneOf (λ r. ⊥) (get nothing id) = subst (IsOneOf (λ r. ⊥)) (sym (get-empty (slice_cmp nat_cmp) id)) (λ r z. z) in
        let own : IsOneOf (λ r. ⊥ ⊎ In (id, r) p.records) (get (with_records p.records empty) id) = put_all (λ r. ⊥) p.records empty id none in
        sym (one_alone (HasRecord c.servers (parcels_of c.in_flight) id) (λ r. ⊥ ⊎ In (id, r) p.records) (get records id) (get (with_records p.records empty) id) back forth alone (record_of_all c.servers (parcels_of c.in_flight) id) own)
      where
        back : (r : Record) → HasRecord c.servers (parcels_of c.in_flight) id r → ⊥ ⊎ In (id, r) p.records
        back r (inl a) = absurd (not_both c.servers (parcels_of c.in_flight) h.one id a.0 p a.1 j (record_home c h a.0 a.1 id r a.2) g)
        back r (inr a) =
            let e : a.0 ≡ p = one_parcel c.servers (parcels_of c.in_flight) h.one id a.0 p a.1 j (record_flies c h a.0 a.1 id r a.2) g in
            inr (subst (λ (x : Parcel). In (id, r) x.records) e a.2)

        forth : (r : Record) → ⊥ ⊎ In (id, r) p.records → HasRecord c.servers (parcels_of c.in_flight) id r
        forth r (inl z) = absurd z
        forth r (inr k) = inr (p, j, k)

        alone : (r t : Record) → HasRecord c.servers (parcels_of c.in_flight) id r → HasRecord c.servers (parcels_of c.in_flight) id t
            → r ≡ t
        alone r t a b = one_record c h id r t a b

    its_selves : (id : List ℕ) → gives_it id p ≡ true → selves_in records id ≡ listed id
    its_selves id g =
        ap (λ (o : Option Record). selves_of (handles_of (node_of o))) (sym (its_record id g))
        ∙ listed_at p.records id (formed p (h.sent p j).formed).distinct empty (get-empty (slice_cmp nat_cmp) id)

    abbrev of_modes : List Row
    of_modes = with_rows (rows_on_modes p.rows) (rows_on_modes s.rows)

    of_all : (r : Row) → In r of_modes → In r all
    of_all r k = either_row r (elim (came_or_was r (rows_on_modes p.rows) (rows_on_modes s.rows) k) as (λ _. In r p.rows ⊎ In r s.rows) [
      | inl l ↦ inl (In-filter (λ r. not (is_off_modes r)) r p.rows l)
      | inr l ↦ inr (In-filter (λ r. not (is_off_modes r)) r s.rows l)
    ])

    -- who is fixed among all is fixed among these
    its_fixed : (id : List ℕ) (m : Mode) (x y : Session) → gives_it id p ≡ true → has_fixed (selves_in records) all id m x y ≡ true → has_fixed listed of_modes id m x y ≡ true
    its_fixed id m x y g k =
        let w : Witness (selves_in records) all id m x y = witness (selves_in records) all id m x y k in
        witnessed listed of_modes id m x y (record {
          entry = w.entry;
          listed = subst (In w.entry) (its_selves id g) w.listed;
          not_x = w.not_x;
          not_y = w.not_y;
          told = w.told;
          fixed = fixed_from of_modes id m w.entry.0 (λ r l e. fixed_row all id m w.entry.0 r w.fixed (of_all r l) e);
        })

    gives_row : (r : Row) → In r p.rows → gives_it (file_of r.field) p ≡ true
    gives_row r k = row_sent c.journal p (h.sent p j) r k

    pair_free : (r x : Row) → In r p.rows → In x all → conflicts listed of_modes r x ≡ false
    pair_free r x k l = or_from (plain_conflict r x) (mode_conflict listed of_modes r x) (stand.apart r x (row_came r k) l) (goes_apart listed of_modes r x
        (λ d id n e t.
        let q = apart_goes (selves_in records) all r x (free r x (row_came r k) l) d id n e t in
        (q.0, its_fixed id n r.session x.session (subst (λ z. gives_it z p ≡ true) (ap file_of e) (gives_row r k)) q.1))
        (λ d id n e t.
        let q = apart_goes (selves_in records) all x r (free x r l (row_came r k)) d id n e t in
        (q.0, its_fixed id n x.session r.session (subst (λ z. gives_it z p ≡ true) (self_file id n r.field t) (gives_row r k)) q.1)))

    on_fit : on_modes.fits listed (rows_on_modes s.rows) (rows_on_modes p.rows) ≡ true
    on_fit = joined (are_new (rows_on_modes s.rows) (rows_on_modes p.rows)) (list_all (is_free listed of_modes) (rows_on_modes p.rows))
        (once_new (rows_on_modes p.rows) (rows_on_modes s.rows) (once_parts (λ r. not (is_off_modes r)) p.rows s.rows (once c h s i p j)))
        (In-all (is_free listed of_modes) (rows_on_modes p.rows) (λ r k. ap not (In_none (conflicts listed of_modes r) of_modes (λ x l. pair_free r x (In-filter (λ r. not (is_off_modes r)) r p.rows k) (of_all x l)))))

    rows_fit_here : rows_fit s.rows p ≡ true
    rows_fit_here = joined (are_new s.rows p.rows) (off_modes.fits (rows_off_modes s.rows) (rows_off_modes p.rows) && on_modes.fits listed (rows_on_modes s.rows) (rows_on_modes p.rows))
        (once_new p.rows s.rows (once c h s i p j))
        (joined (off_modes.fits (rows_off_modes s.rows) (rows_off_modes p.rows)) (on_modes.fits listed (rows_on_modes s.rows) (rows_on_modes p.rows)) off_fit on_fit)

    it_fits : fits s.records s.rows s.map s.me p ≡ true
    it_fits = joined (is_formed p && is_of_given p) (is_elsewhere s.records s.map s.me p && rows_fit s.rows p)
        (joined (is_formed p) (is_of_given p) (h.sent p j).formed (h.sent p j).given)
        (joined (is_elsewhere s.records s.map s.me p) (rows_fit s.rows p) elsewhere rows_fit_here)

    -- ## Its numbers

    own_count : (server : ℕ) → server ≡ s.me → count_with s.me s.given o.given server ≡ s.given
    own_count server e = ap (λ b. cond b s.given (o.given server)) (ap (λ n. n == s.me) e ∙ nat_eq_equiv.refl s.me)

    row_given : (r : Row) → In r p.rows → was_given s.me s.given r ≡ true
    row_given r k = given_here s.me s.given r.no.server r.no.count (count_with s.me s.given o.given r.no.server) (stand.counted r (row_came r k)) (own_count r.no.server) (stand.given r (row_came r k))

    pub flying_fits : fits_here p s ≡ true
    flying_fits = joined (fits s.records s.rows s.map s.me p) (list_all (was_given s.me s.given) p.rows) it_fits (In-all (was_given s.me s.given) p.rows row_given)
