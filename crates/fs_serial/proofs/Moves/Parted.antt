-- A server, and in its place one that has a part of it and a parcel that has the rest: all is as before.
use Rattle.std.proofs.Common.{◌≡◌, ◌⊎◌, ◌+◌, ℕ, List, ap, sym, ◌∙◌, subst, inl, inr, arith}
use Rattle.std.specs.Prelude.{Some}
use Rattle.std.specs.FinMap.{get}
use Rattle.fs_ident.specs.In.{In}
use Rattle.fs_ident.specs.declared.actor.LeaseNo.{LeaseNo}
use Rattle.fs_field.specs.declared.row.Row.{Row}
use Rattle.fs_record.specs.declared.parcel.Parcel.{Parcel}
use Rattle.fs_record.specs.declared.record.Record.{Record}
use Rattle.fs_server.specs.Server.{is_mine}
use Rattle.fs_server.specs.declared.state.Server.{Server}
use Rattle.fs_serial.specs.Places.{OnePlace, gives_it}
use Rattle.fs_serial.proofs.Lists.Counted.{one_if, total}
use Rattle.fs_serial.proofs.Places.HeldRecords.{HasRecord}
use Rattle.fs_serial.proofs.Places.HeldRows.{HasRow}
use Rattle.fs_serial.proofs.Places.OnePlaces.{at_servers, in_flight, places_counted}
use Rattle.fs_serial.proofs.Lists.Times.{times, times_in}

-- the second server stands in place of the first, and the parcel is on its way besides
pub record IsInPlace (s t : Server) (f : Parcel) (whole parted : List Server) (less more : List Parcel) : Type 0 where
  pub there : In s whole
  pub here : In t parted
  pub whole_kept : (x : Server) → In x whole → (x ≡ s) ⊎ In x parted
  pub parted_kept : (x : Server) → In x parted → (x ≡ t) ⊎ In x whole
  pub servers : (g : Server → ℕ) → total g whole + g t ≡ total g parted + g s
  pub flies : In f more
  pub less_kept : (x : Parcel) → In x less → In x more
  pub more_kept : (x : Parcel) → In x more → (x ≡ f) ⊎ In x less
  pub in_flight : (g : Parcel → ℕ) → total g more ≡ g f + total g less

-- it has a part of what the first had, and the parcel has the rest
pub record ArePartsOf (s t : Server) (f : Parcel) : Type 0 where
  pub rows_part : (r : Row) → In r s.rows → In r t.rows ⊎ In r f.rows
  pub rows_left : (r : Row) → In r t.rows → In r s.rows
  pub rows_gone : (r : Row) → In r f.rows → In r s.rows
  pub times : (n : LeaseNo) → times n s.rows ≡ times n f.rows + times n t.rows
  pub records_part : (id : List ℕ) (r : Record) → get s.records id ≡ Some r → (get t.records id ≡ Some r) ⊎ In (id, r) f.records
  pub records_left : (id : List ℕ) (r : Record) → get t.records id ≡ Some r → get s.records id ≡ Some r
  pub records_gone : (id : List ℕ) (r : Record) → In (id, r) f.records → get s.records id ≡ Some r

-- the server that was there managed what the other manages, and what the parcel gives
abbrev pub AreManaged : Server → Server → Parcel → Type 0
AreManaged s t f = (id : List ℕ) → one_if (is_mine s id) ≡ one_if (gives_it id f) + one_if (is_mine t id)

module _ (s t : Server) (f : Parcel) (whole parted : List Server) (less more : List Parcel) (p : IsInPlace s t f whole parted less more) where
  module _ (a : ArePartsOf s t f) where
    -- ## Rows

    pub row_parted : (r : Row) → HasRow whole less r → HasRow parted more r
    row_parted r (inl h) = elim (p.whole_kept h.0 h.1) as (λ _. HasRow parted more r) [
      | inl e ↦ elim (a.rows_part r (subst (λ (x : Server). In r x.rows) e h.2)) as (λ _. HasRow parted more r) [
        | inl j ↦ inl (t, p.here, j)
        | inr j ↦ inr (f, p.flies, j)
      ]
      | inr i ↦ inl (h.0, i, h.2)
    ]
    row_parted r (inr h) = inr (h.0, p.less_kept h.0 h.1, h.2)

    pub row_whole : (r : Row) → HasRow parted more r → HasRow whole less r
    row_whole r (inl h) = elim (p.parted_kept h.0 h.1) as (λ _. HasRow whole less r) [
      | inl e ↦ inl (s, p.there, a.rows_left r (subst (λ (x : Server). In r x.rows) e h.2))
      | inr i ↦ inl (h.0, i, h.2)
    ]
    row_whole r (inr h) = elim (p.more_kept h.0 h.1) as (λ _. HasRow whole less r) [
      | inl e ↦ inl (s, p.there, a.rows_gone r (subst (λ (x : Parcel). In r x.rows) e h.2))
      | inr i ↦ inr (h.0, i, h.2)
    ]

    pub times_same : (n : LeaseNo) → times_in n parted more ≡ times_in n whole less
    times_same n =
        let one : total (λ (x : Server). times n x.rows) whole + times n t.rows ≡ total (λ (x : Server). times n x.rows) parted + times n s.rows = p.servers (λ (x : Server). times n x.rows) in
        let two : total (λ (x : Parcel). times n x.rows) more ≡ times n f.rows + total (λ (x : Parcel). times n x.rows) less = p.in_flight (λ (x : Parcel). times n x.rows) in
        let three : times n s.rows ≡ times n f.rows + times n t.rows = a.times n in
        omega arith

    -- ## Records

    pub record_parted : (id : List ℕ) (r : Record) → HasRecord whole less id r → HasRecord parted more id r
    record_parted id r (inl h) = elim (p.whole_kept h.0 h.1) as (λ _. HasRecord parted more id r) [
      | inl e ↦ elim (a.records_part id r (ap (λ (x : Server). get x.records id) (sym e) ∙ h.2)) as (λ _. HasRecord parted more id r) [
        | inl j ↦ inl (t, p.here, j)
        | inr j ↦ inr (f, p.flies, j)
      ]
      | inr i ↦ inl (h.0, i, h.2)
    ]
    record_parted id r (inr h) = inr (h.0, p.less_kept h.0 h.1, h.2)

    pub record_whole : (id : List ℕ) (r : Record) → HasRecord parted more id r → HasRecord whole less id r
    record_whole id r (inl h) = elim (p.parted_kept h.0 h.1) as (λ _. HasRecord whole less id r) [
      | inl e ↦ inl (s, p.there, a.records_left id r (ap (λ (x : Server). get x.records id) (sym e) ∙ h.2))
      | inr i ↦ inl (h.0, i, h.2)
    ]
    record_whole id r (inr h) = elim (p.more_kept h.0 h.1) as (λ _. HasRecord whole less id r) [
      | inl e ↦ inl (s, p.there, a.records_gone id r (subst (λ (x : Parcel). In (id, r) x.records) e h.2))
      | inr i ↦ inr (h.0, i, h.2)
    ]

  -- ## Places

  module _ (m : AreManaged s t f) where
    counted_same : (id : List ℕ) → at_servers id parted + in_flight id more ≡ at_servers id whole + in_flight id less
    counted_same id =
        let one : at_servers id whole + one_if (is_mine t id) ≡ at_servers id parted + one_if (is_mine s id) = p.servers (λ (x : Server). one_if (is_mine x id)) in
        let two : in_flight id more ≡ one_if (gives_it id f) + in_flight id less = p.in_flight (λ (x : Parcel). one_if (gives_it id x)) in
        let three : one_if (is_mine s id) ≡ one_if (gives_it id f) + one_if (is_mine t id) = m id in
        omega arith

    pub one_parted : OnePlace whole less → OnePlace parted more
    one_parted h id = places_counted id parted more ∙ counted_same id ∙ sym (places_counted id whole less) ∙ h id

    pub one_whole : OnePlace parted more → OnePlace whole less
    one_whole h id = places_counted id whole less ∙ sym (counted_same id) ∙ sym (places_counted id parted more) ∙ h id
