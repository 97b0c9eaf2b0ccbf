-- What there is one place for: no two servers or parcels have rows or records of one file.
use Rattle.std.proofs.Common.{◌≡◌, ◌+◌, ◌≤◌, not, ℕ, true, false, List, [], ◌∷◌, ap, ap₂, sym, ◌∙◌, subst, inl, inr, arith}
use Rattle.std.specs.Prelude.{Option, Some, is_some}
use Rattle.std.specs.FinMap.{get}
use Rattle.std.specs.List.{list_all, list_any}
use Rattle.std.proofs.lemmas.Bool.{not-true}
use Rattle.fs_ident.specs.Ident.{same}
use Rattle.fs_ident.specs.In.{In}
use Rattle.fs_ident.specs.Ordered.{Keyed}
use Rattle.fs_ident.proofs.Booleans.{first, second}
use Rattle.fs_ident.proofs.Passing.{all-In}
use Rattle.fs_ident.proofs.Standing.{none_any}
use Rattle.fs_ident.proofs.Same.{same_self}
use Rattle.fs_field.specs.Field.{file_of}
use Rattle.fs_field.specs.declared.row.Row.{Row}
use Rattle.fs_map.specs.Map.{gives}
use Rattle.fs_msg.specs.declared.item.Item.{Item}
use Rattle.fs_parcel.proofs.Formed.{formed}
use Rattle.fs_record.specs.Moving.{are_distinct}
use Rattle.fs_record.specs.declared.parcel.Parcel.{Parcel}
use Rattle.fs_record.specs.declared.record.Record.{Record}
use Rattle.fs_rows.specs.Moving.{is_on_given}
use Rattle.fs_server.specs.Server.{is_mine}
use Rattle.fs_server.specs.declared.state.Server.{Server}
use Rattle.fs_serial.specs.Cluster.{Cluster, parcels_of}
use Rattle.fs_serial.specs.Places.{IsSent, OnePlace, PlacesHold, gives_it, places_for}
use Rattle.fs_serial.proofs.Lists.Counted.{how_many, one_if, one_of, only_one, total}
use Rattle.fs_serial.proofs.Places.HeldRecords.{IsOneRecord}

-- ## Counted

abbrev pub at_servers : List ℕ → List Server → ℕ
at_servers id servers = total (λ (s : Server). one_if (is_mine s id)) servers

abbrev pub in_flight : List ℕ → List Parcel → ℕ
in_flight id parcels = total (λ (p : Parcel). one_if (gives_it id p)) parcels

pub places_counted : (id : List ℕ) (servers : List Server) (parcels : List Parcel) → places_for id servers parcels ≡ at_servers id servers + in_flight id parcels
places_counted id servers parcels = ap₂ (λ (a b : ℕ). a + b) (how_many (λ (s : Server). is_mine s id) servers) (how_many (gives_it id) parcels)

module _ (servers : List Server) (parcels : List Parcel) (one : OnePlace servers parcels) (id : List ℕ) where
  pub one_counted : at_servers id servers + in_flight id parcels ≡ 1
  one_counted = sym (places_counted id servers parcels) ∙ one id

  pub one_server : (s t : Server) → In s servers → In t servers → is_mine s id ≡ true → is_mine t id ≡ true → s ≡ t
  one_server s t i j a b = let e = one_counted in only_one (λ (x : Server). is_mine x id) servers s t (omega arith) i j a b

  pub one_parcel : (p q : Parcel) → In p parcels → In q parcels → gives_it id p ≡ true → gives_it id q ≡ true → p ≡ q
  one_parcel p q i j a b = let e = one_counted in only_one (gives_it id) parcels p q (omega arith) i j a b

  pub not_both : (s : Server) (p : Parcel) → In s servers → In p parcels → is_mine s id ≡ true → gives_it id p ≡ true → ⊥
  not_both s p i j a b =
      let e = one_counted in
      let x : 1 ≤ at_servers id servers = one_of (λ (x : Server). is_mine x id) servers s i a in
      let y : 1 ≤ in_flight id parcels = one_of (gives_it id) parcels p j b in
      absurd (omega arith)

-- ## What a parcel has

-- is of what it gives
pub record_sent : (journal : List Item) (p : Parcel) → IsSent journal p → (e : List ℕ × Record) → In e p.records → gives_it e.0 p ≡ true
record_sent journal p h e i =
    all-In (λ (e : List ℕ × Record). gives p.prefix p.piece.given e.0) p.records (first (list_all (λ (e : List ℕ × Record). gives p.prefix p.piece.given e.0) p.records) (list_all (is_on_given p.prefix p.piece.given) p.rows) h.given) e i

pub row_sent : (journal : List Item) (p : Parcel) → IsSent journal p → (r : Row) → In r p.rows → gives_it (file_of r.field) p ≡ true
row_sent journal p h r i =
    all-In (is_on_given p.prefix p.piece.given) p.rows (second (list_all (λ (e : List ℕ × Record). gives p.prefix p.piece.given e.0) p.records) (list_all (is_on_given p.prefix p.piece.given) p.rows) h.given) r i

another : (e : List ℕ × Record) (es : Keyed Record) (id : List ℕ) (r t : Record) → are_distinct (e ∷ es) ≡ true → (id, r) ≡ e → In (id, t) es → ⊥
another e es id r t d a j =
    let none : list_any (λ (f : List ℕ × Record). same f.0 e.0) es ≡ false = not-true (list_any (λ (f : List ℕ × Record). same f.0 e.0) es) (first (not (list_any (λ (f : List ℕ × Record). same f.0 e.0) es)) (are_distinct es) d) in
    let here : same id e.0 ≡ true = ap (λ (x : List ℕ × Record). same id x.0) (sym a) ∙ same_self id in
    let wrong : true ≡ false = sym here ∙ none_any (λ (f : List ℕ × Record). same f.0 e.0) es none (id, t) j in
    absurd (cc)

-- no two of its records are of one file
pub one_entry : (es : Keyed Record) (id : List ℕ) (r t : Record) → are_distinct es ≡ true → In (id, r) es → In (id, t) es → r ≡ t
one_entry [] id r t d i j = absurd i
one_entry (e ∷ es) id r t d (inl a) (inl b) = ap (λ (x : List ℕ × Record). x.1) (a ∙ sym b)
one_entry (e ∷ es) id r t d (inl a) (inr j) = absurd (another e es id r t d a j)
one_entry (e ∷ es) id r t d (inr i) (inl b) = absurd (another e es id t r d b i)
one_entry (e ∷ es) id r t d (inr i) (inr j) = one_entry es id r t (second (not (list_any (λ (f : List ℕ × Record). same f.0 e.0) es)) (are_distinct es) d) i j

-- ## In a cluster

module _ (c : Cluster) (h : PlacesHold c) where
  abbrev parcels_there : List Parcel
  parcels_there = parcels_of c.in_flight

  -- a record is at its place
  pub record_home : (s : Server) → In s c.servers → (id : List ℕ) (r : Record) → get s.records id ≡ Some r → is_mine s id ≡ true
  record_home s i id r e = (h.homes s i).records id (ap (λ (o : Option Record). is_some o) e)

  pub record_flies : (p : Parcel) → In p (parcels_of c.in_flight) → (id : List ℕ) (r : Record) → In (id, r) p.records → gives_it id p ≡ true
  record_flies p i id r j = record_sent c.journal p (h.sent p i) (id, r) j

  one_of_two : (s : Server) → In s c.servers → (p : Parcel) → In p parcels_there → (id : List ℕ) (r t : Record) → get s.records id ≡ Some r → In (id, t) p.records → ⊥
  one_of_two s i p j id r t a b = not_both c.servers parcels_there h.one id s p i j (record_home s i id r a) (record_flies p j id t b)

  in_parcels : (p q : Parcel) → In p parcels_there → In q parcels_there → (id : List ℕ) (r t : Record) → In (id, r) p.records → In (id, t) q.records → r ≡ t
  in_parcels p q i j id r t a b =
      let e : q ≡ p = one_parcel c.servers parcels_there h.one id q p j i (record_flies q j id t b) (record_flies p i id r a) in
      one_entry p.records id r t (formed p (h.sent p i).formed).distinct a (subst (λ (x : Parcel). In (id, t) x.records) e b)

  at_one : (s u : Server) → In s c.servers → In u c.servers → (id : List ℕ) (r t : Record) → get s.records id ≡ Some r → get u.records id ≡ Some t → r ≡ t
  at_one s u i j id r t a b =
      let e : s ≡ u = one_server c.servers parcels_there h.one id s u i j (record_home s i id r a) (record_home u j id t b) in
      let q : Some r ≡ Some t = sym a ∙ ap (λ (x : Server). get x.records id) e ∙ b in
      cc

  -- nobody has another
  pub one_record : IsOneRecord c.servers (parcels_of c.in_flight)
  one_record id r t (inl a) (inl b) = at_one a.0 b.0 a.1 b.1 id r t a.2 b.2
  one_record id r t (inl a) (inr b) = absurd (one_of_two a.0 a.1 b.0 b.1 id r t a.2 b.2)
  one_record id r t (inr a) (inl b) = absurd (one_of_two b.0 b.1 a.0 a.1 id t r b.2 a.2)
  one_record id r t (inr a) (inr b) = in_parcels a.0 b.0 a.1 b.1 id r t a.2 b.2
