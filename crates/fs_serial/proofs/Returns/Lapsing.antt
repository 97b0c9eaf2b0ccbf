-- At the begin of a server's event its own rows that are over lapse.
use Rattle.std.proofs.Common.{◌≡◌, ℕ, zero, suc, ◌+◌, ◌≤◌, ◌==◌, ◌||◌, max, not, nat_lt, Bool, true, false, List, [], ◌∷◌, length, length-set, cond, refl, sym, ap, ◌∙◌, subst, inl, inr, arith, ◌<◌}
use Rattle.std.specs.Prelude.{◌≢◌, Some, is_some, slice_get, slice_set}
use Rattle.std.specs.List.{filter}
use Rattle.std.proofs.lemmas.Bool.{or_parts, eqb-true, eqb-false, ltb-false}
use Rattle.std.specs.FinMap.{entries}
use Rattle.fs_ident.specs.In.{In}
use Rattle.fs_ident.proofs.Standing.{In-filter, In-got}
use Rattle.fs_field.specs.Field.{file_of}
use Rattle.fs_field.specs.Table.{is_live, is_ordered}
use Rattle.fs_field.specs.declared.row.Row.{Row}
use Rattle.fs_field.proofs.Order.{ordered_filter}
use Rattle.fs_map.specs.Map.{server_of}
use Rattle.fs_parcel.proofs.Both.{filter_with_rows, ordered_before}
use Rattle.fs_record.specs.Moving.{with_records}
use Rattle.fs_record.specs.Records.{RecordMap}
use Rattle.fs_record.specs.declared.parcel.Parcel.{Parcel}
use Rattle.fs_rows.specs.Granted.{with_rows}
use Rattle.fs_server.specs.Server.{begun, is_mine}
use Rattle.fs_server.specs.declared.event.ServerEvent.{ServerEvent}
use Rattle.fs_server.specs.declared.event.ServerEvent.TheVariants as event
use Rattle.fs_server.specs.declared.state.Server.{Server}
use Rattle.fs_serial.specs.Cluster.{Cluster, IsThere, parcels_of}
use Rattle.fs_serial.specs.Joined.{rows_of_all, with_all_of, with_rows_in, with_rows_of}
use Rattle.fs_serial.specs.Places.{IsHome, PlacesHold, gives_it, IsUnderway}
use Rattle.fs_serial.proofs.Places.AtHome.{others_rows, parcels_rows}
use Rattle.fs_serial.proofs.Lists.Servers.{as_many}
use Rattle.fs_serial.proofs.Lists.SetAt.{In_set, get_here, get_other}

-- ## Filtered lists

filter_as : {X : Type 0} (p q : X → Bool) (xs : List X) → ((x : X) → In x xs → p x ≡ q x) → filter p xs ≡ filter q xs
filter_as p q [] h = refl
filter_as p q (x ∷ xs) h = ap (λ b. cond b (x ∷ filter p xs) (filter p xs)) (h x (inl refl)) ∙ ap (λ ys. cond (q x) (x ∷ ys) ys) (filter_as p q xs (λ y i. h y (inr i)))

filter_all : {X : Type 0} (p : X → Bool) (xs : List X) → ((x : X) → In x xs → p x ≡ true) → filter p xs ≡ xs
filter_all p [] h = refl
filter_all p (x ∷ xs) h = ap (λ b. cond b (x ∷ filter p xs) (filter p xs)) (h x (inl refl)) ∙ ap (λ ys. x ∷ ys) (filter_all p xs (λ y i. h y (inr i)))

-- ## Filtered rows of all

-- the rows of each server are what passes of those before
abbrev ArePassed : (Row → Bool) → List Server → List Server → Type 0
ArePassed keep [] [] = Unit {0}
ArePassed keep [] (t ∷ ts) = ⊥
ArePassed keep (s ∷ ss) [] = ⊥
ArePassed keep (s ∷ ss) (t ∷ ts) = (t.rows ≡ filter keep s.rows) × ArePassed keep ss ts

before_servers : (ss : List Server) (rows : List Row) → is_ordered (with_rows_of ss rows) ≡ true → is_ordered rows ≡ true
before_servers [] rows o = o
before_servers (s ∷ ss) rows o = ordered_before s.rows rows (before_servers ss (with_rows s.rows rows) o)

before_parcels : (ps : List Parcel) (rows : List Row) → is_ordered (with_rows_in ps rows) ≡ true → is_ordered rows ≡ true
before_parcels [] rows o = o
before_parcels (p ∷ ps) rows o = ordered_before p.rows rows (before_parcels ps (with_rows p.rows rows) o)

passed_servers : (keep : Row → Bool) (ss ts : List Server) (rows : List Row) → ArePassed keep ss ts → is_ordered (with_rows_of ss rows) ≡ true → filter keep (with_rows_of ss rows) ≡ with_rows_of ts (filter keep rows)
passed_servers keep [] [] rows a o = refl
passed_servers keep [] (t ∷ ts) rows a o = absurd a
passed_servers keep (s ∷ ss) [] rows a o = absurd a
passed_servers keep (s ∷ ss) (t ∷ ts) rows a o =
    passed_servers keep ss ts (with_rows s.rows rows) a.1 o
    ∙ ap (with_rows_of ts) (filter_with_rows keep s.rows rows (before_servers ss (with_rows s.rows rows) o) ∙ ap (λ more. with_rows more (filter keep rows)) (sym a.0))

passed_parcels : (keep : Row → Bool) (ps : List Parcel) (rows : List Row) → ((p : Parcel) → In p ps → (r : Row) → In r p.rows → keep r ≡ true) → is_ordered (with_rows_in ps rows) ≡ true → filter keep (with_rows_in ps rows) ≡ with_rows_in ps (filter keep rows)
passed_parcels keep [] rows h o = refl
passed_parcels keep (p ∷ ps) rows h o =
    passed_parcels keep ps (with_rows p.rows rows) (λ q i. h q (inr i)) o
    ∙ ap (with_rows_in ps) (filter_with_rows keep p.rows rows (before_parcels ps (with_rows p.rows rows) o) ∙ ap (λ more. with_rows more (filter keep rows)) (filter_all keep p.rows (h p (inl refl))))

all_passed : (keep : Row → Bool) (ss : List Server) (k : ℕ) (s t : Server) → slice_get ss k ≡ Some s → t.rows ≡ filter keep s.rows → ((j : ℕ) (u : Server) → slice_get ss j ≡ Some u → j ≢ k → (r : Row) → In r u.rows → keep r ≡ true) → ArePassed keep ss (slice_set ss k t)
all_passed keep [] k s t at own others = absurd (cc)
all_passed keep (x ∷ xs) zero s t at own others =
    let q : s ≡ x = cc in
    (own ∙ ap (λ (u : Server). filter keep u.rows) q, rest_passed xs (λ j u e. others (suc j) u e (λ z. absurd (cc))))
  where
    rest_passed : (us : List Server) → ((j : ℕ) (u : Server) → slice_get us j ≡ Some u → (r : Row) → In r u.rows → keep r ≡ true) → ArePassed keep us us
    rest_passed [] h = tt
    rest_passed (u ∷ us) h = (sym (filter_all keep u.rows (h zero u refl)), rest_passed us (λ j v e. h (suc j) v e))
all_passed keep (x ∷ xs) (suc k) s t at own others =
    (sym (filter_all keep x.rows (others zero x refl (λ z. absurd (cc)))), all_passed keep xs k s t at own (λ j u e n. others (suc j) u e (λ q. n (cc))))

-- ## Records of all

-- a server with the same records takes the place of one
pub same_records : (ss : List Server) (k : ℕ) (s t : Server) (m : RecordMap) → slice_get ss k ≡ Some s → t.records ≡ s.records → with_all_of (slice_set ss k t) m ≡ with_all_of ss m
same_records [] k s t m at e = refl
same_records (x ∷ xs) zero s t m at e =
    let q : s ≡ x = cc in
    ap (λ (r : RecordMap). with_all_of xs (with_records (entries r) m)) (e ∙ ap (λ (u : Server). u.records) q)
same_records (x ∷ xs) (suc k) s t m at e = same_records xs k s t (with_records (entries x.records) m) at e

-- ## Everything stays at its place

pub places_set : (c : Cluster) (k : ℕ) (s t : Server) → slice_get c.servers k ≡ Some s → PlacesHold c → t.map ≡ s.map → t.me ≡ s.me → IsHome c.journal t → is_ordered (rows_of_all (slice_set c.servers k t) (parcels_of c.in_flight)) ≡ true → PlacesHold (record c { servers = slice_set c.servers k t })
places_set c k s t at p map me home ordered = record {
  one = λ id. ap (λ (n : ℕ). n + length (filter (gives_it id) (parcels_of c.in_flight)))
      (as_many (λ (u : Server). is_mine u id) c.servers k s t at (ap (λ m. server_of m id == t.me) map ∙ ap (λ n. server_of s.map id == n) me)) ∙ p.one id;
  homes = λ u i. elim (In_set c.servers k t u i) as (λ _. IsHome c.journal u) [ inl e ↦ subst (IsHome c.journal) (sym e) home | inr j ↦ p.homes u j ];
  sent = p.sent;
  goes = λ f i. subst (λ n. IsUnderway n f) (sym (length-set c.servers k t)) (p.goes f i);
  named = λ u i id. subst (λ n. server_of u.map id < n) (sym (length-set c.servers k t)) (elim (In_set c.servers k t u i) as (λ _. server_of u.map id < length c.servers) [
    | inl e ↦ subst (λ o. server_of o id < length c.servers) (sym (ap (λ (v : Server). v.map) e ∙ map)) (p.named s (In-got c.servers k s at) id)
    | inr j ↦ p.named u j id
  ]);
  ordered = ordered;
  numbered = λ j u e. elim (j == k) as (λ b. (j == k) ≡ b → u.me ≡ j) [
    | true ↦ λ q.
        let same : j ≡ k = eqb-true j k q in
        let here : Some t ≡ Some u = sym (get_here c.servers k s t at) ∙ ap (slice_get (slice_set c.servers k t)) (sym same) ∙ e in
        let is : u ≡ t = cc in
        ap (λ (v : Server). v.me) is ∙ me ∙ p.numbered k s at ∙ sym same
    | false ↦ λ q. p.numbered j u (sym (get_other c.servers k j t (λ w. eqb-false j k q (sym w))) ∙ e)
  ] refl;
}

-- ## The lapse

abbrev pub begun_at : ℕ → ℕ → Server → Cluster → Cluster
begun_at now k s c = record c { servers = slice_set c.servers k (begun now s) }

-- so does the message that the event is about
pub there_begun : (now k : ℕ) (s : Server) (e : ServerEvent) (c : Cluster) → IsThere k e c → IsThere k e (begun_at now k s c)
there_begun now k s (event.FromClient by m) c there = there
there_begun now k s (event.FromPeer from m) c there = there
there_begun now k s event.Turn c there = tt
there_begun now k s (event.Recall field) c there = tt
there_begun now k s (event.Move prefix to) c there = subst (λ n. to < n) (sym (length-set c.servers k (begun now s))) there

module _ (greatest now k : ℕ) (s : Server) (c : Cluster) (at : slice_get c.servers k ≡ Some s) (before : max s.last now ≤ greatest) (places : PlacesHold c) where
  -- rows of other servers, and the rows here that are not over
  abbrev pub keep : Row → Bool
  keep r = not (is_mine s (file_of r.field)) || is_live (max s.last now) s.skew r

  kept_of_others : (r : Row) → is_mine s (file_of r.field) ≡ false → keep r ≡ true
  kept_of_others r e = ap (λ b. not b || is_live (max s.last now) s.skew r) e

  kept_here : (r : Row) → In r s.rows → keep r ≡ is_live (max s.last now) s.skew r
  kept_here r i = ap (λ b. not b || is_live (max s.last now) s.skew r) ((places.homes s (In-got c.servers k s at)).rows r i)

  pub over : (r : Row) → keep r ≡ false → r.until + s.skew ≤ greatest
  over r e =
      let live = (or_parts (not (is_mine s (file_of r.field))) (is_live (max s.last now) s.skew r) e).1 in
      let late : r.until + s.skew ≤ max s.last now = ltb-false (max s.last now) (r.until + s.skew) (or_parts (is_some r.lock) (nat_lt (max s.last now) (r.until + s.skew)) live).1 in
      omega arith

  -- a row that a transaction keeps is not over
  pub kept_locked : (r : Row) → is_some r.lock ≡ true → keep r ≡ true
  kept_locked r lock = ap (λ b. not (is_mine s (file_of r.field)) || (b || nat_lt (max s.last now) (r.until + s.skew))) lock
      ∙ or_true (not (is_mine s (file_of r.field)))
    where
      or_true : (b : Bool) → (b || true) ≡ true
      or_true true = refl
      or_true false = refl

  pub rows_are : rows_of_all (begun_at now k s c).servers (parcels_of c.in_flight) ≡ filter keep (rows_of_all c.servers (parcels_of c.in_flight))
  rows_are =
      let passed = all_passed keep c.servers k s (begun now s) at (sym (filter_as keep (is_live (max s.last now) s.skew) s.rows kept_here))
      (λ j u e n r i. kept_of_others r (others_rows c k s at places j u e n r i)) in
      sym (passed_parcels keep (parcels_of c.in_flight) (with_rows_of c.servers []) (λ p i r j. kept_of_others r (parcels_rows c k s at places p i r j)) places.ordered
      ∙ ap (with_rows_in (parcels_of c.in_flight)) (passed_servers keep c.servers (begun_at now k s c).servers [] passed (before_parcels (parcels_of c.in_flight) (with_rows_of c.servers []) places.ordered)))

  pub places_then : PlacesHold (begun_at now k s c)
  places_then =
      let home = places.homes s (In-got c.servers k s at) in
      places_set c k s (begun now s) at places refl refl (record {
        map = home.map;
        listed = home.listed;
        rows = λ r i. home.rows r (In-filter (is_live (max s.last now) s.skew) r s.rows i);
        records = home.records;
        ordered = ordered_filter (is_live (max s.last now) s.skew) s.rows home.ordered;
      }) (subst (λ rs. is_ordered rs ≡ true) (sym rows_are) (ordered_filter keep (rows_of_all c.servers (parcels_of c.in_flight)) places.ordered))
