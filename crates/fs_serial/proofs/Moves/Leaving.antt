-- What a server hands over to another: all rows and records are as before, and everything is at its place.
use Rattle.std.proofs.Common.{◌≡◌, ◌⊎◌, ◌==◌, ◌+◌, ◌<◌, ◌≤◌, ◌++◌, not, ℕ, Bool, true, false, List, [], ◌∷◌, length, refl, ap, sym, ◌∙◌, subst, inl, inr, cond, append-nil, arith, ap₂}
use Rattle.std.proofs.lemmas.Grind.{flat_map-append}
use Rattle.std.specs.Prelude.{IfSome, Option, Some, None, is_some, slice_get, slice_set}
use Rattle.std.specs.FinMap.{get}
use Rattle.std.proofs.lemmas.Bool.{not-true}
use Rattle.fs_ident.specs.In.{In}
use Rattle.fs_ident.specs.Ordered.{Keyed}
use Rattle.fs_ident.specs.declared.actor.PathNo.{PathNo}
use Rattle.fs_ident.specs.declared.kind.Kind.{Kind}
use Rattle.fs_ident.proofs.Standing.{In-filter, In-got, In-append, In-front, In-behind}
use Rattle.fs_field.specs.Field.{file_of}
use Rattle.fs_field.specs.declared.row.Row.{Row}
use Rattle.fs_field.proofs.Order.{ordered_filter}
use Rattle.fs_map.specs.Lists.{piece_of}
use Rattle.fs_map.specs.Map.{gives, server_of}
use Rattle.fs_map.proofs.Owned.{piece_piece, taken_map}
use Rattle.fs_msg.specs.declared.item.Item.{Item}
use Rattle.fs_parcel.specs.Parcel.{move_refusal, paths_out}
use Rattle.fs_path.specs.Tables.{first_in}
use Rattle.fs_parcel.specs.declared.error.MoveError.{MoveError}
use Rattle.fs_parcel.proofs.Both.{passing}
use Rattle.fs_parcel.proofs.Parting.{parcel_formed, parcel_of_given}
use Rattle.fs_parcel.proofs.Refused.{is_mine as prefix_is_mine}
use Rattle.fs_record.specs.Moving.{records_left}
use Rattle.fs_record.specs.Records.{AreRecords, IsRecord, RecordMap}
use Rattle.fs_record.specs.declared.parcel.Parcel.{Parcel}
use Rattle.fs_record.specs.declared.record.Record.{Record}
use Rattle.fs_record.proofs.Kept.{record_at}
use Rattle.fs_record.proofs.Parting.{left_at}
use Rattle.fs_record.proofs.Returning.{given_each}
use Rattle.fs_rows.specs.Moving.{is_on_given, rows_left, locked_in}
use Rattle.fs_server.specs.Moves.{hands_over, move_at, move_step, without_given}
use Rattle.fs_server.specs.Server.{Stepped, is_mine}
use Rattle.fs_server.specs.declared.event.ServerEvent.TheVariants.{Move}
use Rattle.fs_server.specs.declared.state.Server.{Server}
use Rattle.fs_model.specs.Sound.{kind_of}
use Rattle.fs_record.specs.Records.{AreRecords, RecordMap, node_of}
use Rattle.fs_txn.specs.Decided.{held_with}
use Rattle.fs_serial.specs.Cluster.{Cluster, InFlight, after_step, in_flight_from, parcels_of}
use Rattle.fs_serial.specs.Fresh.{IsMade}
use Rattle.fs_serial.specs.Joined.{effects_by, effects_on_way, records_of_all, rows_of_all}
use Rattle.fs_serial.specs.Parts.{ServersFit}
use Rattle.fs_serial.specs.Places.{IsHome, IsSent, OnePlace, PlacesHold, IsUnderway}
use Rattle.fs_serial.specs.Refusals.{rows_in}
use Rattle.fs_serial.specs.Runs.{held_by, records_in}
use Rattle.fs_serial.specs.Seen.{HasPeers, with_all}
use Rattle.fs_serial.specs.Sight.{Counts, sight_of}
use Rattle.fs_serial.proofs.Lists.Counted.{total, total_append, total_set}
use Rattle.fs_serial.proofs.Lists.Journals.{there_is}
use Rattle.fs_serial.proofs.Moves.GoingParts.{going, managed, parted, parts, still_mine, tells}
use Rattle.fs_serial.proofs.Places.HeldRecords.{has_record, same_records}
use Rattle.fs_serial.proofs.Places.HeldRows.{same_rows}
use Rattle.fs_serial.proofs.Lists.Listed.{map_made, piece_made}
use Rattle.fs_serial.proofs.Places.OnePlaces.{one_record}
use Rattle.fs_serial.proofs.Moves.Parcels.{parcels-append}
use Rattle.fs_serial.proofs.Moves.Parted.{IsInPlace, one_parted, record_parted, record_whole, row_parted, row_whole, times_same}
use Rattle.fs_serial.proofs.Moves.PathPeers.{refused_named}
use Rattle.fs_serial.proofs.Moves.PathSteps.{refusal_here, refused}
use Rattle.fs_serial.proofs.Moves.QuietSteps.{quiet_places, quiet_same}
use Rattle.fs_serial.proofs.Moves.Replaced.{replaced_places}
use Rattle.fs_serial.proofs.Lists.SetAt.{In_kept, In_new, In_set}
use Rattle.fs_serial.proofs.Lists.Times.{all_once}
use Rattle.std.proofs.lemmas.Option.{slice_get_within}
use Rattle.fs_serial.proofs.Moves.Unlocked.{free_of, unlocked_below}
use Rattle.fs_serial.proofs.Transactions.PlacesAfter.{AreWords}

-- ## What is there then

pub last_or_before : {X : Type 0} (xs : List X) (y x : X) → In x (xs ++ y ∷ []) → (x ≡ y) ⊎ In x xs
last_or_before xs y x i = elim (In-append x xs (y ∷ []) i) as (λ _. (x ≡ y) ⊎ In x xs) [
  | inl j ↦ inr j
  | inr j ↦ elim j as (λ _. (x ≡ y) ⊎ In x xs) [ inl e ↦ inl e | inr z ↦ absurd z ]
]

module _ (k : ℕ) (c : Cluster) (s : Server) (prefix : List ℕ) (to : ℕ) (at : slice_get c.servers k ≡ Some s) where
  abbrev keeps : Server
  keeps = without_given prefix to s

  abbrev goes : Parcel
  goes = parted prefix s

  abbrev servers_then : List Server
  servers_then = slice_set c.servers k keeps

  abbrev flying_then : List InFlight
  flying_then = c.in_flight ++ going k prefix to s ∷ []

  abbrev before : List Parcel
  before = parcels_of c.in_flight

  abbrev parcels_then : List Parcel
  parcels_then = before ++ goes ∷ []

  parcels_are : parcels_of flying_then ≡ parcels_then
  parcels_are = parcels-append c.in_flight (going k prefix to s ∷ [])

  in_place : IsInPlace s keeps goes c.servers servers_then before parcels_then
  in_place = record {
    there = In-got c.servers k s at;
    here = In_new c.servers k s keeps at;
    whole_kept = λ x i. In_kept c.servers k s keeps x at i;
    parted_kept = λ x i. In_set c.servers k keeps x i;
    servers = λ g. sym (total_set g c.servers k s keeps at);
    flies = In-behind goes before (goes ∷ []) (inl refl);
    less_kept = λ x i. In-front x before (goes ∷ []) i;
    more_kept = last_or_before before goes;
    in_flight = λ g. let e : total g parcels_then ≡ total g before + (g goes + 0) = total_append g before (goes ∷ []) in omega arith;
  }

  module _ (h : PlacesHold c) where
    rows_then : rows_of_all servers_then (parcels_of flying_then) ≡ rows_of_all c.servers before
    rows_then =
        ap (rows_of_all servers_then) parcels_are
        ∙ same_rows c.servers servers_then before parcels_then h.ordered
        (λ n. subst (λ j. j ≤ 1) (sym (times_same s keeps goes c.servers servers_then before parcels_then in_place (parts prefix to s) n)) (all_once c.servers before h.ordered n))
        (row_parted s keeps goes c.servers servers_then before parcels_then in_place (parts prefix to s))
        (row_whole s keeps goes c.servers servers_then before parcels_then in_place (parts prefix to s))

    records_then : records_of_all servers_then (parcels_of flying_then) ≡ records_of_all c.servers before
    records_then =
        ap (records_of_all servers_then) parcels_are
        ∙ same_records c.servers servers_then before parcels_then (one_record c h)
        (record_parted s keeps goes c.servers servers_then before parcels_then in_place (parts prefix to s))
        (record_whole s keeps goes c.servers servers_then before parcels_then in_place (parts prefix to s))

-- all rows and records are as before
pub leaving_same : (k : ℕ) (c : Cluster) (s : Server) (prefix : List ℕ) (to : ℕ) → slice_get c.servers k ≡ Some s → PlacesHold c
    → (rows_in (after_step k (Move prefix to) (hands_over prefix to s) c) ≡ rows_in c) × (records_in (after_step k (Move prefix to) (hands_over prefix to s) c) ≡ records_in c)
leaving_same k c s prefix to at h = (rows_then k c s prefix to at h, records_then k c s prefix to at h)

-- and so is what all hold together, since a parcel tells no effect
pub leaving_keeps : (k : ℕ) (c : Cluster) (s : Server) (prefix : List ℕ) (to : ℕ) → slice_get c.servers k ≡ Some s → PlacesHold c
    → (rows_in (after_step k (Move prefix to) (hands_over prefix to s) c) ≡ rows_in c)
    × (held_by (after_step k (Move prefix to) (hands_over prefix to s) c) ≡ held_by c)
leaving_keeps k c s prefix to at h =
    let same = leaving_same k c s prefix to at h in
    let sent = in_flight_from k (hands_over prefix to s).out.send in
    let told : effects_on_way (c.in_flight ++ sent) ≡ effects_on_way c.in_flight =
    flat_map-append (λ (g : InFlight). effects_by g.message) c.in_flight sent ∙ append-nil (effects_on_way c.in_flight) in
    (same.0, ap₂ held_with told same.1)

-- ## What a move needs

yes : {A : Type 0} (b : Bool) (x : A) (o : Option A) → cond (not b) (Some x) o ≡ None → (b ≡ true) × (o ≡ None)
yes true x o h = (refl, h)
yes false x o h = absurd (cc)

no : {A : Type 0} (b : Bool) (x : A) (o : Option A) → cond b (Some x) o ≡ None → b ≡ false
no true x o h = absurd (cc)
no false x o h = refl

then : {A : Type 0} (b : Bool) (x : A) (o : Option A) → cond b (Some x) o ≡ None → o ≡ None
then true x o h = absurd (cc)
then false x o h = h

-- the prefix is the server's, has a record, and the other is another server
record CanMove (s : Server) (prefix : List ℕ) (to : ℕ) : Type 0 where
  mine : server_of s.map prefix ≡ s.me
  lives : is_some (get s.records prefix) ≡ true
  other : (to == s.me) ≡ false
  free : locked_in prefix s.map s.me s.rows ≡ None

can_move : (s : Server) (prefix : List ℕ) (to : ℕ) (through : Option PathNo)
    → move_refusal s.records s.rows s.map s.me prefix to through ≡ None → CanMove s prefix to
can_move s prefix to through h =
    let a = yes (server_of s.map prefix == s.me) _ _ h in
    let b = yes (is_some (get s.records prefix)) _ _ a.1 in
    record {
      mine = prefix_is_mine s.records s.rows s.map s.me prefix to through h;
      lives = b.0;
      other = no (to == s.me) _ _ b.1;
      free = free_of (locked_in prefix s.map s.me s.rows) (paths_out through) (then (to == s.me) _ _ b.1);
    }

-- ## At its place

-- what lives was made
abbrev pub LivesMade : RecordMap → List Item → Type 0
LivesMade m journal = (id : List ℕ) (kind : Kind) → kind_of (node_of (get m id)) ≡ Some kind → IsMade journal id

module _ (k : ℕ) (c : Cluster) (s : Server) (prefix : List ℕ) (to : ℕ) (at : slice_get c.servers k ≡ Some s) (h : PlacesHold c)
    (records : AreRecords (records_in c)) (lives : LivesMade (records_in c) c.journal) (m : CanMove s prefix to) where
  abbrev left : Server
  left = without_given prefix to s

  abbrev given : Keyed Bool
  given = piece_of s.map s.me prefix

  here : In s c.servers
  here = In-got c.servers k s at

  home : IsHome c.journal s
  home = h.homes s here

  -- a record of the server is that of all
  of_all : (id : List ℕ) (r : Record) → get s.records id ≡ Some r → get (records_in c) id ≡ Some r
  of_all id r e = has_record c.servers (parcels_of c.in_flight) (one_record c h) id r (inl (s, here, e))

  sound : AreRecords s.records
  sound id = go (get s.records id) refl
    where
      go : (o : Option Record) → get s.records id ≡ o → IfSome o IsRecord
      go None e = tt
      go (Some r) e = record_at (records_in c) records id r (of_all id r e)

  -- the prefix was made, since it lives
  prefix_made : IsMade c.journal prefix
  prefix_made =
      let r : (r : Record) × (get s.records prefix ≡ Some r) = there_is (get s.records prefix) m.lives in
      let kind : kind_of (node_of (get (records_in c) prefix)) ≡ Some r.0.node.kind = ap (λ (o : Option Record). kind_of (node_of o)) (of_all prefix r.0 r.1) in
      lives prefix r.0.node.kind kind

  row_home : (r : Row) → In r (rows_left prefix given s.rows) → is_mine left (file_of r.field) ≡ true
  row_home r i =
      still_mine prefix to s m.mine (file_of r.field) (not-true (is_on_given prefix given r) (passing (λ (r : Row). not (is_on_given prefix given r)) s.rows r i))
      ∙ home.rows r (In-filter (λ (r : Row). not (is_on_given prefix given r)) r s.rows i)

  kept_record : (b : Bool) (o : Option Record) → is_some (cond (not b) o None) ≡ true → (b ≡ false) × (is_some o ≡ true)
  kept_record true o e = absurd (cc)
  kept_record false o e = (refl, e)

  record_home : (id : List ℕ) → is_some (get (records_left prefix given s.records) id) ≡ true → is_mine left id ≡ true
  record_home id e =
      let q = kept_record (gives prefix given id) (get s.records id) (ap (λ (o : Option Record). is_some o) (sym (left_at prefix given s.records id)) ∙ e) in
      still_mine prefix to s m.mine id q.0 ∙ home.records id q.1

  home_left : IsHome c.journal left
  home_left = record {
    map = (taken_map s.map to prefix given (piece_piece s.map s.me prefix m.mine).0).0;
    listed = map_made c.journal s.map to prefix given home.listed (piece_made c.journal s.map s.me prefix prefix_made home.listed);
    rows = row_home;
    records = record_home;
    ordered = ordered_filter (λ (r : Row). not (is_on_given prefix given r)) s.rows home.ordered;
  }

  sent_going : IsSent c.journal (parted prefix s)
  sent_going = record {
    formed = parcel_formed s.records s.map s.me prefix s.rows m.mine sound;
    given = parcel_of_given s.records s.map s.me prefix s.rows;
    listed = piece_made c.journal s.map s.me prefix prefix_made home.listed;
    each = given_each prefix given s.records sound;
    ordered = ordered_filter (is_on_given prefix given) s.rows home.ordered;
    unlocked = λ r i. unlocked_below prefix s.map s.me s.rows m.free r (In-filter (is_on_given prefix given) r s.rows i)
        (sym ((piece_piece s.map s.me prefix m.mine).1 (file_of r.field)) ∙ passing (is_on_given prefix given) s.rows r i);
  }

  sent_then : (p : Parcel) → In p (parcels_of (c.in_flight ++ going k prefix to s ∷ [])) → IsSent c.journal p
  sent_then p i = elim (last_or_before (parcels_of c.in_flight) (parted prefix s) p (subst (In p) (parcels_are k c s prefix to at) i)) as (λ _. IsSent c.journal p) [
    | inl e ↦ subst (IsSent c.journal) (sym e) sent_going
    | inr j ↦ h.sent p j
  ]

  goes_then : to < length c.servers → (x : InFlight) → In x (c.in_flight ++ going k prefix to s ∷ []) → IsUnderway (length c.servers) x
  goes_then is x i = elim (last_or_before c.in_flight (going k prefix to s) x i) as (λ _. IsUnderway (length c.servers) x) [
    | inl e ↦ subst (IsUnderway (length c.servers)) (sym e) (record { from = slice_get_within c.servers k s at; to = is; names = tt })
    | inr j ↦ h.goes x j
  ]

  named_then : to < length c.servers → (id : List ℕ) → server_of left.map id < length c.servers
  named_then is id = subst (λ n. n < length c.servers) (sym (tells prefix to s m.mine id)) (either (gives prefix given id))
    where
      either : (b : Bool) → cond b to (server_of s.map id) < length c.servers
      either true = is
      either false = h.named s here id

  one_then : OnePlace (slice_set c.servers k left) (parcels_of (c.in_flight ++ going k prefix to s ∷ []))
  one_then = subst (OnePlace (slice_set c.servers k left)) (sym (parcels_are k c s prefix to at))
      (one_parted s left (parted prefix s) c.servers (slice_set c.servers k left) (parcels_of c.in_flight) (parcels_of c.in_flight ++ parted prefix s ∷ []) (in_place k c s prefix to at) (managed prefix to s m.mine m.other) h.one)

  places_then : to < length c.servers → PlacesHold (after_step k (Move prefix to) (hands_over prefix to s) c)
  places_then is = replaced_places c h k s left at (c.in_flight ++ going k prefix to s ∷ []) c.lines refl
      one_then
      home_left
      sent_then
      (goes_then is)
      (named_then is)
      (rows_then k c s prefix to at h)

-- where what servers fit is so
fit_lives : (c : Cluster) (s : Server) (o : Counts) → ServersFit (sight_of o (with_all s c) c.journal) → LivesMade (records_in c) c.journal
fit_lives c s o f id kind e = ap (λ (k : Option Kind). is_some k) (f.made id kind e)

-- everything is at its place
pub leaving_places : (k : ℕ) (c : Cluster) (s : Server) (prefix : List ℕ) (to : ℕ) → slice_get c.servers k ≡ Some s → PlacesHold c
    → (o : Counts) → ServersFit (sight_of o (with_all s c) c.journal) → to < length c.servers
    → (through : Option PathNo) → move_refusal s.records s.rows s.map s.me prefix to through ≡ None
    → PlacesHold (after_step k (Move prefix to) (hands_over prefix to s) c)
leaving_places k c s prefix to at h o f is through may =
    places_then k c s prefix to at h f.sound.records (fit_lives c s o f) (can_move s prefix to through may) is

-- ## The step, whether it is refused or not

abbrev IsSameAfter : ℕ → List ℕ → ℕ → Cluster → Stepped → Type 0
IsSameAfter k prefix to c x =
    (rows_in (after_step k (Move prefix to) x c) ≡ rows_in c) × (records_in (after_step k (Move prefix to) x c) ≡ records_in c)

pub move_same : (k : ℕ) (c : Cluster) (s : Server) (prefix : List ℕ) (to : ℕ) → slice_get c.servers k ≡ Some s → PlacesHold c
    → (rows_in (after_step k (Move prefix to) (move_step prefix to s) c) ≡ rows_in c)
    × (records_in (after_step k (Move prefix to) (move_step prefix to s) c) ≡ records_in c)
move_same k c s prefix to at h = go (refusal_here prefix to s)
  where
    go : (e : Option MoveError) → IsSameAfter k prefix to c (move_at e prefix to s)
    go None = leaving_same k c s prefix to at h
    go (Some why) = refused (IsSameAfter k prefix to c) s
        (λ n ms paths asking given noted sent. quiet_same k c s at (Move prefix to) refl n ms paths asking given sent) why prefix to

pub moved_places : (k : ℕ) (c : Cluster) (s : Server) (prefix : List ℕ) (to : ℕ) → slice_get c.servers k ≡ Some s → PlacesHold c
    → HasPeers (length c.servers) s.paths → AreRecords (records_in c) → LivesMade (records_in c) c.journal → to < length c.servers
    → PlacesHold (after_step k (Move prefix to) (move_step prefix to s) c)
moved_places k c s prefix to at h peers records lives is = go (refusal_here prefix to s) refl
  where
    go : (e : Option MoveError) → refusal_here prefix to s ≡ e → PlacesHold (after_step k (Move prefix to) (move_at e prefix to s) c)
    go None m = places_then k c s prefix to at h records lives (can_move s prefix to (first_in s.map s.me prefix s.paths) m) is
    go (Some why) m =
        refused (λ (x : Stepped). AreWords (length c.servers) x.out.send → PlacesHold (after_step k (Move prefix to) x c)) s
        (λ n ms paths asking given noted sent words. quiet_places k c s at (Move prefix to) refl n ms paths asking given h (λ f i. i) words)
        why prefix to (refused_named (length c.servers) s (h.named s (In-got c.servers k s at)) peers why prefix to).words

pub move_places : (k : ℕ) (c : Cluster) (s : Server) (prefix : List ℕ) (to : ℕ) → slice_get c.servers k ≡ Some s → PlacesHold c
    → HasPeers (length c.servers) s.paths → (o : Counts) → ServersFit (sight_of o (with_all s c) c.journal) → to < length c.servers
    → PlacesHold (after_step k (Move prefix to) (move_step prefix to s) c)
move_places k c s prefix to at h peers o f = moved_places k c s prefix to at h peers f.sound.records (fit_lives c s o f)
