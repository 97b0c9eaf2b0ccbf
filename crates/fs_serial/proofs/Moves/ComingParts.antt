-- A server that installed a parcel: what it had, and what the parcel has, are its two parts.
use Rattle.std.proofs.Common.{◌≡◌, ◌⊎◌, ◌==◌, ◌+◌, ◌≤◌, ℕ, Bool, true, false, List, refl, ap, sym, ◌∙◌, subst, inl, inr, cond, arith, ◌<◌, length}
use Rattle.std.specs.Prelude.{Option, Some, None, is_some}
use Rattle.std.specs.FinMap.{get}
use Rattle.std.specs.Cmp.{nat_eq_equiv}
use Rattle.fs_ident.specs.In.{In}
use Rattle.fs_field.specs.Field.{file_of}
use Rattle.fs_field.specs.declared.row.Row.{Row}
use Rattle.fs_map.specs.Lists.{map_after_take}
use Rattle.fs_map.specs.Map.{IsPiece, gives, server_of}
use Rattle.fs_map.proofs.Owned.{taken_map}
use Rattle.fs_map.proofs.Testing.{test_piece}
use Rattle.fs_moderows.proofs.Moves.{came_or_was}
use Rattle.fs_parcel.proofs.Formed.{formed}
use Rattle.fs_record.specs.Moving.{with_records}
use Rattle.fs_record.specs.declared.parcel.Parcel.{Parcel}
use Rattle.fs_record.specs.declared.record.Record.{Record}
use Rattle.fs_rows.specs.Granted.{with_rows}
use Rattle.fs_server.specs.Moves.{installed}
use Rattle.fs_server.specs.Server.{is_mine}
use Rattle.fs_server.specs.declared.state.Server.{Server}
use Rattle.fs_serial.specs.Cluster.{Cluster, parcels_of}
use Rattle.fs_serial.specs.Places.{IsHome, PlacesHold, gives_it}
use Rattle.fs_serial.proofs.Lists.Counted.{at_least, one_if, total}
use Rattle.fs_serial.proofs.Lists.Journals.{there_is}
use Rattle.fs_serial.proofs.Places.HeldRecords.{HasRecord, IsOneOf, put_all}
use Rattle.fs_serial.proofs.Lists.Listed.{map_made}
use Rattle.fs_serial.proofs.Places.OnePlaces.{not_both, one_record, record_sent, row_sent}
use Rattle.fs_serial.proofs.Moves.Parted.{AreManaged, ArePartsOf}
use Rattle.fs_serial.proofs.Places.PutRows.{In-puts_here, In-puts_still}
use Rattle.fs_serial.proofs.Lists.Times.{AreOnce, all_once, once_ordered, times, times_in, times_with}

itself : (o : Option Record) → IsOneOf (λ r. o ≡ Some r) o
itself None = λ r e. absurd (cc e)
itself (Some r) = refl

only_then : (P : Record → Type 0) (o : Option Record) (r : Record) → ((t : Record) → P r → P t → r ≡ t) → P r → IsOneOf P o → o ≡ Some r
only_then P None r one p k = absurd (k r p)
only_then P (Some t) r one p k = ap Some (sym (one t p k))

module _ (c : Cluster) (h : PlacesHold c) (s : Server) (i : In s c.servers) (f : Parcel) (j : In f (parcels_of c.in_flight)) where
  abbrev all_of : Server
  all_of = installed f s

  abbrev gone : List ℕ → Bool
  gone id = gives f.prefix f.piece.given id

  pub home : IsHome c.journal s
  home = h.homes s i

  -- ## Records

  -- the server or the parcel has the record
  abbrev Had : List ℕ → Record → Type 0
  Had id r = (get s.records id ≡ Some r) ⊎ In (id, r) f.records

  held : (id : List ℕ) (r : Record) → Had id r → HasRecord c.servers (parcels_of c.in_flight) id r
  held id r (inl e) = inl (s, i, e)
  held id r (inr k) = inr (f, j, k)

  came : (id : List ℕ) → IsOneOf (Had id) (get (with_records f.records s.records) id)
  came id = put_all (λ r. get s.records id ≡ Some r) f.records s.records id (itself (get s.records id))

  had : (id : List ℕ) (r : Record) → get (with_records f.records s.records) id ≡ Some r → Had id r
  had id r e = let P : Record → Type 0 = Had id in subst (IsOneOf P) e (came id)

  has : (id : List ℕ) (r : Record) → Had id r → get (with_records f.records s.records) id ≡ Some r
  has id r k = only_then (Had id) (get (with_records f.records s.records) id) r (λ t a b. one_record c h id r t (held id r a) (held id t b)) k (came id)

  -- ## Rows

  row_had : (r : Row) → In r (with_rows f.rows s.rows) → In r s.rows ⊎ In r f.rows
  row_had r k = elim (came_or_was r f.rows s.rows k) as (λ _. In r s.rows ⊎ In r f.rows) [ inl a ↦ inr a | inr a ↦ inl a ]

  -- no number is there twice
  pub once : AreOnce f.rows s.rows
  once n =
      let all : times_in n c.servers (parcels_of c.in_flight) ≤ 1 = all_once c.servers (parcels_of c.in_flight) h.ordered n in
      let here : times n s.rows ≤ total (λ (x : Server). times n x.rows) c.servers = at_least (λ (x : Server). times n x.rows) c.servers s i in
      let there : times n f.rows ≤ total (λ (x : Parcel). times n x.rows) (parcels_of c.in_flight) = at_least (λ (x : Parcel). times n x.rows) (parcels_of c.in_flight) f j in
      omega arith

  pub came_parts : ArePartsOf all_of s f
  came_parts = record {
    rows_part = row_had;
    rows_left = λ r k. In-puts_still r f.rows s.rows k;
    rows_gone = λ r k. In-puts_here r f.rows s.rows k;
    times = λ n. times_with n f.rows s.rows;
    records_part = had;
    records_left = λ id r e. has id r (inl e);
    records_gone = λ id r k. has id r (inr k);
  }

  -- ## What is managed

  piece : IsPiece f.prefix f.piece.given
  piece = test_piece f.prefix f.piece.given (formed f (h.sent f j).formed).piece

  tells : (id : List ℕ) → server_of (map_after_take s.map s.me f.prefix f.piece.given) id ≡ cond (gone id) s.me (server_of s.map id)
  tells id = (taken_map s.map s.me f.prefix f.piece.given piece).1 id

  split : (g own : Bool) (then now : ℕ) → then ≡ cond g s.me now → (now == s.me) ≡ own → (own ≡ true → g ≡ true → ⊥) → one_if (then == s.me) ≡ one_if g + one_if (now == s.me)
  split true true then now t o n = absurd (n refl refl)
  split true false then now t o n =
      let own : one_if (s.me == s.me) ≡ 1 = ap one_if (nat_eq_equiv.refl s.me) in
      let other : one_if (now == s.me) ≡ 0 = ap one_if o in
      rw t (omega arith)
  split false own then now t o n = rw t (omega arith)

  pub came_named : s.me < length c.servers → (id : List ℕ) → server_of (map_after_take s.map s.me f.prefix f.piece.given) id < length c.servers
  came_named mine id = subst (λ n. n < length c.servers) (sym (tells id)) (either (gone id))
    where
      either : (b : Bool) → cond b s.me (server_of s.map id) < length c.servers
      either true = mine
      either false = h.named s i id

  pub came_managed : AreManaged all_of s f
  came_managed id = split (gone id) (is_mine s id) (server_of (map_after_take s.map s.me f.prefix f.piece.given) id) (server_of s.map id) (tells id) refl (λ a b. not_both c.servers (parcels_of c.in_flight) h.one id s f i j a b)

  -- what comes is managed then
  given_mine : (id : List ℕ) → gives_it id f ≡ true → is_mine all_of id ≡ true
  given_mine id g = ap (λ n. n == s.me) (tells id ∙ ap (λ b. cond b s.me (server_of s.map id)) g) ∙ nat_eq_equiv.refl s.me

  -- and what was managed
  was_mine : (id : List ℕ) → is_mine s id ≡ true → is_mine all_of id ≡ true
  was_mine id m = elim (gives_it id f) as (λ b. gives_it id f ≡ b → is_mine all_of id ≡ true) [
    | true ↦ λ g. given_mine id g
    | false ↦ λ g. ap (λ n. n == s.me) (tells id ∙ ap (λ b. cond b s.me (server_of s.map id)) g) ∙ m
  ] refl

  row_mine : (r : Row) → In r (with_rows f.rows s.rows) → is_mine all_of (file_of r.field) ≡ true
  row_mine r k = elim (row_had r k) as (λ _. is_mine all_of (file_of r.field) ≡ true) [
    | inl a ↦ was_mine (file_of r.field) (home.rows r a)
    | inr a ↦ given_mine (file_of r.field) (row_sent c.journal f (h.sent f j) r a)
  ]

  record_mine : (id : List ℕ) → is_some (get (with_records f.records s.records) id) ≡ true → is_mine all_of id ≡ true
  record_mine id e =
      let q : (r : Record) × (get (with_records f.records s.records) id ≡ Some r) = there_is (get (with_records f.records s.records) id) e in
      elim (had id q.0 q.1) as (λ _. is_mine all_of id ≡ true) [
        | inl a ↦ was_mine id (home.records id (ap (λ (o : Option Record). is_some o) a))
        | inr a ↦ given_mine id (record_sent c.journal f (h.sent f j) (id, q.0) a)
      ]

  pub came_home : IsHome c.journal all_of
  came_home = record {
    map = (taken_map s.map s.me f.prefix f.piece.given piece).0;
    listed = map_made c.journal s.map s.me f.prefix f.piece.given home.listed (h.sent f j).listed;
    rows = row_mine;
    records = record_mine;
    ordered = once_ordered f.rows s.rows home.ordered once;
  }
