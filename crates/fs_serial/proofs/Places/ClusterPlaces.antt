-- Of a cluster where everything is at its place: a server, and what stands at all other places.
use Rattle.std.proofs.Common.{◌≡◌, ℕ, zero, suc, ◌+◌, ◌≤◌, Bool, true, false, List, [], ◌∷◌, ◌++◌, length, length-append, refl, ap, ap₂, cond, subst, sym, ◌∙◌, inl, inr, arith}
use Rattle.std.specs.Prelude.{Some, slice_get, slice_set}
use Rattle.std.specs.List.{filter, list_all}
use Rattle.std.specs.FinMap.{empty, entries}
use Rattle.std.proofs.lemmas.List.Elements.{filter-append}
use Rattle.std.proofs.lemmas.Bool.{false_from_ne_true}
use Rattle.fs_ident.specs.In.{In}
use Rattle.fs_ident.specs.Ordered.{Keyed}
use Rattle.fs_ident.proofs.Booleans.{both}
use Rattle.fs_ident.proofs.Passing.{all-In}
use Rattle.fs_ident.proofs.Standing.{In-append, In-front, In-behind}
use Rattle.fs_field.specs.declared.row.Row.{Row}
use Rattle.fs_field.specs.Field.{file_of}
use Rattle.fs_field.specs.Table.{is_ordered}
use Rattle.fs_field.proofs.SameNo.{same_no_symm}
use Rattle.fs_map.specs.Map.{gives}
use Rattle.fs_parcel.proofs.Both.{ordered_before, alone}
use Rattle.fs_record.specs.Moving.{with_records}
use Rattle.fs_record.specs.Records.{RecordMap}
use Rattle.fs_record.specs.declared.parcel.Parcel.{Parcel}
use Rattle.fs_record.specs.declared.record.Record.{Record}
use Rattle.fs_rows.specs.Granted.{with_rows}
use Rattle.fs_rows.specs.Moving.{is_on_given}
use Rattle.fs_server.specs.Server.{is_mine}
use Rattle.fs_server.specs.declared.state.Server.{Server}
use Rattle.fs_serial.specs.Cluster.{Cluster, parcels_of}
use Rattle.fs_serial.specs.Joined.{records_of_all, rows_of_all, with_all_of, with_parcels, with_rows_in, with_rows_of}
use Rattle.fs_serial.specs.Places.{IsHome, PlacesHold, gives_it, places_for}
use Rattle.fs_serial.specs.Seen.{with_all}
use Rattle.fs_serial.proofs.Places.PutRecords.{AreOther, entry_has, records-append, records_alone, records_swap}
use Rattle.fs_serial.proofs.Places.PutRows.{In-puts_here, IsOther, puts-append, puts_other, puts_swap}
use Rattle.fs_serial.proofs.Places.OtherPlaces.{IsApart, Rest, joined}

-- ## A server among the others

pub record IsBetween (servers : List Server) (k : ℕ) (s : Server) : Type 0 where
  pub front : List Server
  pub back : List Server
  pub is : servers ≡ front ++ s ∷ back
  pub set : (t : Server) → slice_set servers k t ≡ front ++ t ∷ back

pub between : (servers : List Server) (k : ℕ) (s : Server) → slice_get servers k ≡ Some s → IsBetween servers k s
between [] k s h = absurd (cc)
between (x ∷ xs) zero s h = let same : x ≡ s = cc in record { front = []; back = xs; is = ap (λ y. y ∷ xs) same; set = λ t. refl }
between (x ∷ xs) (suc k) s h =
    let q : IsBetween xs k s = between xs k s h in
    record { front = x ∷ q.front; back = q.back; is = ap (λ ys. x ∷ ys) q.is; set = λ t. ap (λ ys. x ∷ ys) (q.set t) }

-- ## What they have

abbrev pub rows_of_servers : List Server → List Row
rows_of_servers [] = []
rows_of_servers (s ∷ ss) = s.rows ++ rows_of_servers ss

abbrev pub rows_of_parcels : List Parcel → List Row
rows_of_parcels [] = []
rows_of_parcels (p ∷ ps) = p.rows ++ rows_of_parcels ps

abbrev pub records_of_servers : List Server → Keyed Record
records_of_servers [] = []
records_of_servers (s ∷ ss) = entries s.records ++ records_of_servers ss

abbrev pub records_of_parcels : List Parcel → Keyed Record
records_of_parcels [] = []
records_of_parcels (p ∷ ps) = p.records ++ records_of_parcels ps

-- all that is beside a server between these
abbrev pub rest_of : List Server → List Server → List Parcel → Rest
rest_of front back parcels = record {
  rows = rows_of_servers front ++ (rows_of_servers back ++ rows_of_parcels parcels);
  records = records_of_servers front ++ (records_of_servers back ++ records_of_parcels parcels);
}

servers_rows : (ss : List Server) (rows : List Row) → with_rows_of ss rows ≡ with_rows (rows_of_servers ss) rows
servers_rows [] rows = refl
servers_rows (s ∷ ss) rows = servers_rows ss (with_rows s.rows rows) ∙ sym (puts-append s.rows (rows_of_servers ss) rows)

parcels_rows : (ps : List Parcel) (rows : List Row) → with_rows_in ps rows ≡ with_rows (rows_of_parcels ps) rows
parcels_rows [] rows = refl
parcels_rows (p ∷ ps) rows = parcels_rows ps (with_rows p.rows rows) ∙ sym (puts-append p.rows (rows_of_parcels ps) rows)

front_rows : (front back : List Server) (rows : List Row) → with_rows_of (front ++ back) rows ≡ with_rows_of back (with_rows_of front rows)
front_rows [] back rows = refl
front_rows (s ∷ ss) back rows = front_rows ss back (with_rows s.rows rows)

servers_records : (ss : List Server) (m : RecordMap) → with_all_of ss m ≡ with_records (records_of_servers ss) m
servers_records [] m = refl
servers_records (s ∷ ss) m = servers_records ss (with_records (entries s.records) m) ∙ sym (records-append (entries s.records) (records_of_servers ss) m)

parcels_records : (ps : List Parcel) (m : RecordMap) → with_parcels ps m ≡ with_records (records_of_parcels ps) m
parcels_records [] m = refl
parcels_records (p ∷ ps) m = parcels_records ps (with_records p.records m) ∙ sym (records-append p.records (records_of_parcels ps) m)

front_records : (front back : List Server) (m : RecordMap) → with_all_of (front ++ back) m ≡ with_all_of back (with_all_of front m)
front_records [] back m = refl
front_records (s ∷ ss) back m = front_records ss back (with_records (entries s.records) m)

-- ## The server that has all

module _ (front back : List Server) (parcels : List Parcel) (t : Server) where
  -- all rows, those of the server put in third
  in_order : rows_of_all (front ++ t ∷ back) parcels ≡ with_rows (rows_of_parcels parcels) (with_rows (rows_of_servers back) (with_rows t.rows (with_rows (rows_of_servers front) [])))
  in_order =
      ap (with_rows_in parcels) (front_rows front (t ∷ back) [] ∙ ap (λ rows. with_rows_of back (with_rows t.rows rows)) (servers_rows front []) ∙ servers_rows back (with_rows t.rows (with_rows (rows_of_servers front) [])))
      ∙ parcels_rows parcels (with_rows (rows_of_servers back) (with_rows t.rows (with_rows (rows_of_servers front) [])))

  pub rows_joined : is_ordered t.rows ≡ true → ((x : Row) → In x (rows_of_servers front) → IsOther x t.rows) → rows_of_all (front ++ t ∷ back) parcels ≡ with_rows (rest_of front back parcels).rows t.rows
  rows_joined o h =
      in_order
      ∙ ap (λ rows. with_rows (rows_of_parcels parcels) (with_rows (rows_of_servers back) rows)) (sym (puts_swap (rows_of_servers front) t.rows [] h) ∙ ap (with_rows (rows_of_servers front)) (alone t.rows o))
      ∙ sym (puts-append (rows_of_servers front) (rows_of_servers back ++ rows_of_parcels parcels) t.rows ∙ puts-append (rows_of_servers back) (rows_of_parcels parcels) (with_rows (rows_of_servers front) t.rows))

  -- where all rows are in order, those of the server have other numbers than those before it
  pub front_other : is_ordered (rows_of_all (front ++ t ∷ back) parcels) ≡ true → (x : Row) → In x (rows_of_servers front) → IsOther x t.rows
  front_other o x i r j =
      let all : is_ordered (with_rows (rows_of_parcels parcels) (with_rows (rows_of_servers back) (with_rows t.rows (with_rows (rows_of_servers front) [])))) ≡ true = subst (λ rows. is_ordered rows ≡ true) in_order o in
      let here : is_ordered (with_rows t.rows (with_rows (rows_of_servers front) [])) ≡ true = ordered_before (rows_of_servers back) (with_rows t.rows (with_rows (rows_of_servers front) [])) (ordered_before (rows_of_parcels parcels) (with_rows (rows_of_servers back) (with_rows t.rows (with_rows (rows_of_servers front) []))) all) in
      same_no_symm r.no x.no ∙ puts_other t.rows (with_rows (rows_of_servers front) []) here r j x (In-puts_here x (rows_of_servers front) [] i)

  records_in_order : records_of_all (front ++ t ∷ back) parcels ≡ with_records (records_of_parcels parcels) (with_records (records_of_servers back) (with_records (entries t.records) (with_records (records_of_servers front) empty)))
  records_in_order =
      ap (with_parcels parcels) (front_records front (t ∷ back) empty ∙ ap (λ m. with_all_of back (with_records (entries t.records) m)) (servers_records front empty) ∙ servers_records back (with_records (entries t.records) (with_records (records_of_servers front) empty)))
      ∙ parcels_records parcels (with_records (records_of_servers back) (with_records (entries t.records) (with_records (records_of_servers front) empty)))

  pub records_joined : ((e : List ℕ × Record) → In e (records_of_servers front) → AreOther e.0 (entries t.records)) → records_of_all (front ++ t ∷ back) parcels ≡ with_records (rest_of front back parcels).records t.records
  records_joined h =
      records_in_order
      ∙ ap (λ m. with_records (records_of_parcels parcels) (with_records (records_of_servers back) m)) (sym (records_swap (records_of_servers front) (entries t.records) empty h) ∙ ap (with_records (records_of_servers front)) (records_alone t.records))
      ∙ sym (records-append (records_of_servers front) (records_of_servers back ++ records_of_parcels parcels) t.records ∙ records-append (records_of_servers back) (records_of_parcels parcels) (with_records (records_of_servers front) t.records))

  -- where the rest is apart, the server that has all is the server with the rest
  module _ (a : IsApart (rest_of front back parcels) t) where
    own_ordered : is_ordered t.rows ≡ true
    own_ordered = ordered_before (rest_of front back parcels).rows t.rows a.ordered

    rest_other : (x : Row) → In x (rows_of_servers front) → IsOther x t.rows
    rest_other x i = puts_other (rest_of front back parcels).rows t.rows a.ordered x (In-front x (rows_of_servers front) (rows_of_servers back ++ rows_of_parcels parcels) i)

    rest_files : (e : List ℕ × Record) → In e (records_of_servers front) → AreOther e.0 (entries t.records)
    rest_files e i d j q =
        let wrong : true ≡ false = sym (a.own_records d.0 (entry_has t.records d j)) ∙ ap (is_mine t) q ∙ a.records e (In-front e (records_of_servers front) (records_of_servers back ++ records_of_parcels parcels) i) in
        absurd (cc)

    pub all_joined : (let u : Server = record t { rows = rows_of_all (front ++ t ∷ back) parcels; records = records_of_all (front ++ t ∷ back) parcels } in u) ≡ joined (rest_of front back parcels) t
    all_joined = ap₂ (λ rows records. let u : Server = record t { rows = rows; records = records } in u) (rows_joined own_ordered rest_other) (records_joined rest_files)

-- ## Each at its place

count_some : {X : Type 0} (test : X → Bool) (x : X) (xs : List X) → In x xs → test x ≡ true → 1 ≤ length (filter test xs)
count_some test x [] i h = absurd i
count_some test x (y ∷ ys) i h =
    elim (test y) as (λ b. test y ≡ b → 1 ≤ length (cond b (y ∷ filter test ys) (filter test ys))) [
      | true ↦ λ e. omega arith
      | false ↦ λ e. elim i as (λ _. 1 ≤ length (filter test ys)) [
        | inl q ↦ let wrong : true ≡ false = sym h ∙ ap test q ∙ e in absurd (cc)
        | inr j ↦ count_some test x ys j h
      ]
    ] refl

module _ (front back : List Server) (parcels : List Parcel) (s : Server) (id : List ℕ) (one : places_for id (front ++ s ∷ back) parcels ≡ 1) (mine : is_mine s id ≡ true) where
  abbrev manages : Server → Bool
  manages t = is_mine t id

  counted : (length (filter manages front) + (1 + length (filter manages back))) + length (filter (gives_it id) parcels) ≡ 1
  counted =
      ap (λ n. n + length (filter (gives_it id) parcels)) (sym (
      ap length (filter-append manages front (s ∷ back))
      ∙ length-append (filter manages front) (filter manages (s ∷ back))
      ∙ ap (λ n. length (filter manages front) + n) (ap (λ b. length (cond b (s ∷ filter manages back) (filter manages back))) mine ∙ one_more (filter manages back))))
      ∙ one
    where
      one_more : (xs : List Server) → length (s ∷ xs) ≡ 1 + length xs
      one_more xs = omega arith

  pub not_front : (t : Server) → In t front → is_mine t id ≡ false
  not_front t i = false_from_ne_true (is_mine t id) (λ h. let l = count_some manages t front i h in let c = counted in absurd (omega arith))

  pub not_back : (t : Server) → In t back → is_mine t id ≡ false
  not_back t i = false_from_ne_true (is_mine t id) (λ h. let l = count_some manages t back i h in let c = counted in absurd (omega arith))

  pub not_flying : (p : Parcel) → In p parcels → gives_it id p ≡ false
  not_flying p i = false_from_ne_true (gives_it id p) (λ h. let l = count_some (gives_it id) p parcels i h in let c = counted in absurd (omega arith))

-- a row of several servers is one of them
row_of : (ss : List Server) (r : Row) → In r (rows_of_servers ss) → (t : Server) × In t ss × In r t.rows
row_of [] r i = absurd i
row_of (s ∷ ss) r i = elim (In-append r s.rows (rows_of_servers ss) i) as (λ _. (t : Server) × In t (s ∷ ss) × In r t.rows) [
  | inl j ↦ (s, inl refl, j)
  | inr j ↦ let q = row_of ss r j in (q.0, inr q.1, q.2)
]

row_in : (ps : List Parcel) (r : Row) → In r (rows_of_parcels ps) → (p : Parcel) × In p ps × In r p.rows
row_in [] r i = absurd i
row_in (p ∷ ps) r i = elim (In-append r p.rows (rows_of_parcels ps) i) as (λ _. (q : Parcel) × In q (p ∷ ps) × In r q.rows) [
  | inl j ↦ (p, inl refl, j)
  | inr j ↦ let q = row_in ps r j in (q.0, inr q.1, q.2)
]

record_of : (ss : List Server) (e : List ℕ × Record) → In e (records_of_servers ss) → (t : Server) × In t ss × In e (entries t.records)
record_of [] e i = absurd i
record_of (s ∷ ss) e i = elim (In-append e (entries s.records) (records_of_servers ss) i) as (λ _. (t : Server) × In t (s ∷ ss) × In e (entries t.records)) [
  | inl j ↦ (s, inl refl, j)
  | inr j ↦ let q = record_of ss e j in (q.0, inr q.1, q.2)
]

record_in : (ps : List Parcel) (e : List ℕ × Record) → In e (records_of_parcels ps) → (p : Parcel) × In p ps × In e p.records
record_in [] e i = absurd i
record_in (p ∷ ps) e i = elim (In-append e p.records (records_of_parcels ps) i) as (λ _. (q : Parcel) × In q (p ∷ ps) × In e q.records) [
  | inl j ↦ (p, inl refl, j)
  | inr j ↦ let q = record_in ps e j in (q.0, inr q.1, q.2)
]

module _ (c : Cluster) (k : ℕ) (s : Server) (places : PlacesHold c) (b : IsBetween c.servers k s) where
  abbrev parcels : List Parcel
  parcels = parcels_of c.in_flight

  abbrev rest : Rest
  rest = rest_of b.front b.back parcels

  one_place : (id : List ℕ) → places_for id (b.front ++ s ∷ b.back) parcels ≡ 1
  one_place id = subst (λ servers. places_for id servers parcels ≡ 1) b.is (places.one id)

  front_home : (t : Server) → In t b.front → IsHome c.journal t
  front_home t i = places.homes t (subst (In t) (sym b.is) (In-front t b.front (s ∷ b.back) i))

  back_home : (t : Server) → In t b.back → IsHome c.journal t
  back_home t i = places.homes t (subst (In t) (sym b.is) (In-behind t b.front (s ∷ b.back) (inr i)))

  pub own_home : IsHome c.journal s
  own_home = places.homes s (subst (In s) (sym b.is) (In-behind s b.front (s ∷ b.back) (inl refl)))

  opposite : {x : Bool} → x ≡ true → x ≡ false → ⊥
  opposite p q = let wrong : true ≡ false = sym p ∙ q in absurd (cc)

  off_rows : (r : Row) → In r rest.rows → is_mine s (file_of r.field) ≡ true → ⊥
  off_rows r i mine = elim (In-append r (rows_of_servers b.front) (rows_of_servers b.back ++ rows_of_parcels parcels) i) as (λ _. ⊥) [
    | inl j ↦
        let q = row_of b.front r j in
        opposite ((front_home q.0 q.1).rows r q.2) (not_front b.front b.back parcels s (file_of r.field) (one_place (file_of r.field)) mine q.0 q.1)
    | inr j ↦ elim (In-append r (rows_of_servers b.back) (rows_of_parcels parcels) j) as (λ _. ⊥) [
      | inl l ↦
          let q = row_of b.back r l in
          opposite ((back_home q.0 q.1).rows r q.2) (not_back b.front b.back parcels s (file_of r.field) (one_place (file_of r.field)) mine q.0 q.1)
      | inr l ↦
          let q = row_in parcels r l in
          let p : Parcel = q.0 in
          let on : list_all (is_on_given p.prefix p.piece.given) p.rows ≡ true = (both (list_all (λ e. gives p.prefix p.piece.given e.0) p.records) (list_all (is_on_given p.prefix p.piece.given) p.rows) (places.sent p q.1).given).1 in
          opposite (all-In (is_on_given p.prefix p.piece.given) p.rows on r q.2) (not_flying b.front b.back parcels s (file_of r.field) (one_place (file_of r.field)) mine p q.1)
    ]
  ]

  has_key : (t : Server) (e : List ℕ × Record) → IsHome c.journal t → In e (entries t.records) → is_mine t e.0 ≡ true
  has_key t e home i = home.records e.0 (entry_has t.records e i)

  off_files : (e : List ℕ × Record) → In e rest.records → is_mine s e.0 ≡ true → ⊥
  off_files e i mine = elim (In-append e (records_of_servers b.front) (records_of_servers b.back ++ records_of_parcels parcels) i) as (λ _. ⊥) [
    | inl j ↦
        let q = record_of b.front e j in
        opposite (has_key q.0 e (front_home q.0 q.1) q.2) (not_front b.front b.back parcels s e.0 (one_place e.0) mine q.0 q.1)
    | inr j ↦ elim (In-append e (records_of_servers b.back) (records_of_parcels parcels) j) as (λ _. ⊥) [
      | inl l ↦
          let q = record_of b.back e l in
          opposite (has_key q.0 e (back_home q.0 q.1) q.2) (not_back b.front b.back parcels s e.0 (one_place e.0) mine q.0 q.1)
      | inr l ↦
          let q = record_in parcels e l in
          let p : Parcel = q.0 in
          let on : list_all (λ e. gives p.prefix p.piece.given e.0) p.records ≡ true = (both (list_all (λ e. gives p.prefix p.piece.given e.0) p.records) (list_all (is_on_given p.prefix p.piece.given) p.rows) (places.sent p q.1).given).0 in
          opposite (all-In (λ e. gives p.prefix p.piece.given e.0) p.records on e q.2) (not_flying b.front b.back parcels s e.0 (one_place e.0) mine p q.1)
    ]
  ]

  all_ordered : is_ordered (rows_of_all (b.front ++ s ∷ b.back) parcels) ≡ true
  all_ordered = subst (λ servers. is_ordered (rows_of_all servers parcels) ≡ true) b.is places.ordered

  -- the rest is apart from the server
  pub apart_of : IsApart rest s
  apart_of = record {
    rows = λ r i. false_from_ne_true (is_mine s (file_of r.field)) (off_rows r i);
    records = λ e i. false_from_ne_true (is_mine s e.0) (off_files e i);
    own_rows = own_home.rows;
    own_records = own_home.records;
    ordered = subst (λ rows. is_ordered rows ≡ true) (rows_joined b.front b.back parcels s own_home.ordered (front_other b.front b.back parcels s all_ordered)) all_ordered;
  }

  -- the server that has all is the server with the rest
  pub all_here : with_all s c ≡ joined rest s
  all_here = ap (λ servers. let u : Server = record s { rows = rows_of_all servers parcels; records = records_of_all servers parcels } in u) b.is ∙ all_joined b.front b.back parcels s apart_of
