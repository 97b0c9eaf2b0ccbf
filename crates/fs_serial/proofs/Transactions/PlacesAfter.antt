-- Everything is at its place after a server took a step in which rows are only locked or unlocked, and words are told.
use Rattle.std.proofs.Common.{◌≡◌, ℕ, ◌+◌, ◌<◌, ◌≤◌, Bool, true, false, List, [], ◌∷◌, ◌++◌, length, map}
use Rattle.std.proofs.Common.{append-nil, refl, sym, ap, ap₂, ◌∙◌, subst, cond, inl, inr, arith}
use Rattle.std.specs.Prelude.{Option, Some, None, is_some, not, ◌&&◌, option_map, slice_get, slice_set, unwrap_or}
use Rattle.std.specs.FinMap.{get}
use Rattle.std.specs.List.{find}
use Rattle.std.proofs.lemmas.Option.{slice_get_within}
use Rattle.fs_ident.specs.In.{In}
use Rattle.fs_ident.specs.declared.actor.LeaseNo.{LeaseNo}
use Rattle.fs_ident.specs.declared.actor.PathNo.{PathNo}
use Rattle.fs_ident.specs.declared.actor.Peer.{Peer}
use Rattle.fs_ident.specs.declared.actor.Peer.TheVariants.{Client as OfSession, Server as OfServer}
use Rattle.fs_ident.specs.declared.actor.Session.{Session}
use Rattle.fs_ident.specs.declared.actor.TxnNo.{TxnNo}
use Rattle.fs_ident.proofs.Passing.{found}
use Rattle.fs_ident.proofs.Standing.{In-append, In-got, In-map}
use Rattle.fs_field.specs.Field.{file_of}
use Rattle.fs_field.specs.Table.{is_ordered, unlocked_row}
use Rattle.fs_field.specs.declared.row.Row.{Row}
use Rattle.fs_field.specs.declared.used.Part.{Part}
use Rattle.fs_field.specs.declared.used.Use.{Use}
use Rattle.fs_field.specs.declared.vote.Vote.{Vote}
use Rattle.fs_field.specs.declared.vote.Vote.TheVariants.{Yes, Ended, Moved, PathsOut}
use Rattle.fs_field.proofs.Order.{ordered_map}
use Rattle.fs_map.specs.Lists.{places_of}
use Rattle.fs_map.specs.Map.{IsMap, Owners, longest, server_of}
use Rattle.fs_msg.specs.declared.answer.Answer.{Answer}
use Rattle.fs_msg.specs.declared.item.Item.{Item}
use Rattle.fs_msg.specs.declared.msg.Msg.{Msg}
use Rattle.fs_msg.specs.declared.msg.Msg.TheVariants as msg
use Rattle.fs_msg.specs.declared.peer_msg.PeerMsg.{PeerMsg}
use Rattle.fs_record.specs.declared.parcel.Parcel.{Parcel}
use Rattle.fs_server.specs.Follows.{path_in_the_way, to_server, vote_here}
use Rattle.fs_server.specs.Server.{is_mine, to_session}
use Rattle.fs_server.specs.Ships.{first_gone}
use Rattle.fs_server.specs.declared.state.Server.{Server}
use Rattle.fs_txn.specs.Preparing.{is_used, moved_to, row_locked, rows_locked, rows_voted, vote_by}
use Rattle.fs_serial.specs.Cluster.{Cluster, InFlight, Lines, in_flight_from, is_between, parcel_in, parcels_of, without_first}
use Rattle.fs_serial.specs.Joined.{rows_of_all}
use Rattle.fs_serial.specs.Locks.{IsRelock}
use Rattle.fs_serial.specs.Places.{IsHome, IsUnderway, MessageNames, PlacesHold, VoteNames, places_for}
use Rattle.fs_serial.specs.Words.{Comes}
use Rattle.fs_serial.proofs.Lists.Counted.{total_set}
use Rattle.fs_serial.proofs.Lists.Times.{all_once, all_ordered, times, times_in}
use Rattle.fs_serial.proofs.Lists.Traffic.{IsTaken, taken_first}
use Rattle.fs_serial.proofs.Moves.Parcels.{parcels-append}
use Rattle.fs_serial.proofs.OneServer.StepPlaces.{each_same, home_still, length_same, mine_same, numbered_same, one_same, sent_still}
use Rattle.fs_serial.proofs.Places.ClusterPlaces.{IsBetween, between}
use Rattle.fs_serial.proofs.Places.RelockedRows.{map_itself, unlocked_relock}

-- ## Rows

-- the rows are those before, but for their locks
pub record AreRelocked (rows new : List Row) : Type 0 where
  pub change : Row → Row
  pub relock : IsRelock change
  pub is : new ≡ map change rows

map_twice : (f g : Row → Row) (rows : List Row) → map g (map f rows) ≡ map (λ r. g (f r)) rows
map_twice f g [] = refl
map_twice f g (r ∷ rs) = ap (λ xs. g (f r) ∷ xs) (map_twice f g rs)

pub relocked_not : (rows : List Row) → AreRelocked rows rows
relocked_not rows = record { change = λ r. r; relock = λ r. (r.lock, refl); is = sym (map_itself rows) }

pub relocked_then : (a b c : List Row) → AreRelocked a b → AreRelocked b c → AreRelocked a c
relocked_then a b c f g = record {
  change = λ r. g.change (f.change r);
  relock = λ r.
      let p = f.relock r in
      let q = g.relock (f.change r) in
      (q.0, q.1 ∙ ap (λ (x : Row). let y : Row = record x { lock = q.0 } in y) p.1);
  is = g.is ∙ ap (map g.change) f.is ∙ map_twice f.change g.change a;
}

-- locked where the test holds
if_relock : (b : Bool) (lock : Option TxnNo) (r : Row)
    → (x : Option TxnNo) × (cond b (let y : Row = record r { lock = lock } in y) r ≡ (let z : Row = record r { lock = x } in z))
if_relock true lock r = (lock, refl)
if_relock false lock r = (r.lock, refl)

pub locked_so : (txn : TxnNo) (uses : List Use) (rows : List Row) → AreRelocked rows (rows_locked txn uses rows)
locked_so txn uses rows = record {
  change = row_locked txn uses;
  relock = λ r. if_relock (is_used uses r && not (is_some r.lock)) (Some txn) r;
  is = refl;
}

pub voted_so : (v : Vote) (txn : TxnNo) (uses : List Use) (rows : List Row) → AreRelocked rows (rows_voted v txn uses rows)
voted_so Yes txn uses rows = locked_so txn uses rows
voted_so (Ended l u n) txn uses rows = relocked_not rows
voted_so (Moved p t) txn uses rows = relocked_not rows
voted_so (PathsOut l) txn uses rows = relocked_not rows

pub unlocked_so : (txn : TxnNo) (rows : List Row) → AreRelocked rows (map (unlocked_row txn) rows)
unlocked_so txn rows = record {
  change = unlocked_row txn;
  relock = unlocked_relock txn;
  is = refl;
}

pub unlocked_unless : (b : Bool) (txn : TxnNo) (rows : List Row) → AreRelocked rows (cond b rows (map (unlocked_row txn) rows))
unlocked_unless true txn rows = relocked_not rows
unlocked_unless false txn rows = unlocked_so txn rows

module _ (rows new : List Row) (q : AreRelocked rows new) where
  number_same : (r : Row) → (q.change r).no ≡ r.no
  number_same r = ap (λ (x : Row). x.no) (q.relock r).1

  -- each row stands on a field as before
  field_before : (r : Row) → In r new → (x : Row) × (In x rows × (r.field ≡ x.field))
  field_before r i =
      let m = In-map q.change r rows (subst (In r) q.is i) in
      (m.0, (m.1.0, ap (λ (x : Row). x.field) (m.1.1 ∙ (q.relock m.0).1)))

  still_ordered : is_ordered rows ≡ true → is_ordered new ≡ true
  still_ordered o = subst (λ xs. is_ordered xs ≡ true) (sym q.is) (ordered_map q.change number_same rows o)

  times_mapped : (n : LeaseNo) (xs : List Row) → times n (map q.change xs) ≡ times n xs
  times_mapped n [] = refl
  times_mapped n (x ∷ xs) = rw (number_same x, times_mapped n xs) refl

  times_same : (n : LeaseNo) → times n new ≡ times n rows
  times_same n = ap (times n) q.is ∙ times_mapped n rows

-- ## Words

-- the message goes to a server that there is, names no other, and hands nothing over
pub record IsWordTo (servers to : ℕ) (m : PeerMsg) : Type 0 where
  pub there : to < servers
  pub names : MessageNames servers m
  pub word : parcel_in m ≡ None

abbrev pub AreWords : ℕ → List (Peer × Msg) → Type 0
AreWords servers ms = (to : ℕ) (m : PeerMsg) → In (to_server to m) ms → IsWordTo servers to m

pub no_words : (servers : ℕ) → AreWords servers []
no_words servers to m i = absurd i

pub answer_words : (servers : ℕ) (by : Session) (a : Answer) → AreWords servers (to_session by a ∷ [])
answer_words servers by a to m (inl e) = let wrong : OfServer to ≡ OfSession by = ap (λ (y : Peer × Msg). y.0) e in absurd (cc)
answer_words servers by a to m (inr z) = absurd z

pub one_word : (servers at : ℕ) (m : PeerMsg) → IsWordTo servers at m → AreWords servers (to_server at m ∷ [])
one_word servers at m w to x (inl e) =
    let place : OfServer to ≡ OfServer at = ap (λ (y : Peer × Msg). y.0) e in
    let word : msg.Peer x ≡ msg.Peer m = ap (λ (y : Peer × Msg). y.1) e in
    let same_place : to ≡ at = cc in
    let same_word : x ≡ m = cc in
    subst (λ y. IsWordTo servers to y) (sym same_word) (subst (λ n. IsWordTo servers n m) (sym same_place) w)
one_word servers at m w to x (inr z) = absurd z

pub both_words : (servers : ℕ) (a b : List (Peer × Msg)) → AreWords servers a → AreWords servers b → AreWords servers (a ++ b)
both_words servers a b p q to m i = elim (In-append (to_server to m) a b i) as (λ _. IsWordTo servers to m) [
  | inl j ↦ p to m j
  | inr j ↦ q to m j
]

none_handed : (k servers : ℕ) (ms : List (Peer × Msg)) → AreWords servers ms → parcels_of (in_flight_from k ms) ≡ []
none_handed k servers [] w = refl
none_handed k servers ((OfServer to, msg.Peer m) ∷ rest) w =
    rw ((w to m (inl refl)).word) (none_handed k servers rest (λ t x i. w t x (inr i)))
none_handed k servers ((OfServer to, msg.Answer a) ∷ rest) w = none_handed k servers rest (λ t x i. w t x (inr i))
none_handed k servers ((OfServer to, msg.Client a) ∷ rest) w = none_handed k servers rest (λ t x i. w t x (inr i))
none_handed k servers ((OfSession to, m) ∷ rest) w = none_handed k servers rest (λ t x i. w t x (inr i))

module _ (k servers : ℕ) (here : k < servers) where
  pub words_go : (ms : List (Peer × Msg)) → AreWords servers ms → (f : InFlight) → In f (in_flight_from k ms) → IsUnderway servers f
  words_go [] w f i = absurd i
  words_go ((OfServer to, msg.Peer m) ∷ rest) w f (inl e) =
      let q = w to m (inl refl) in
      subst (IsUnderway servers) (sym e) (record { from = here; to = q.there; names = q.names })
  words_go ((OfServer to, msg.Peer m) ∷ rest) w f (inr i) = words_go rest (λ t x j. w t x (inr j)) f i
  words_go ((OfServer to, msg.Answer a) ∷ rest) w f i = words_go rest (λ t x j. w t x (inr j)) f i
  words_go ((OfServer to, msg.Client a) ∷ rest) w f i = words_go rest (λ t x j. w t x (inr j)) f i
  words_go ((OfSession to, m) ∷ rest) w f i = words_go rest (λ t x j. w t x (inr j)) f i

-- ## The step

-- the server keeps its number and map; rows are locked and unlocked, and what it has records of is its own
pub record StaysHome (s t : Server) : Type 0 where
  pub me : t.me ≡ s.me
  pub owners : t.map ≡ s.map
  pub rows : AreRelocked s.rows t.rows
  pub records : (id : List ℕ) → is_some (get t.records id) ≡ true → is_mine s id ≡ true

module _ (k : ℕ) (c : Cluster) (s t : Server) (at : slice_get c.servers k ≡ Some s) (h : PlacesHold c) (q : StaysHome s t) where
  abbrev b : IsBetween c.servers k s
  b = between c.servers k s at

  abbrev parcels : List Parcel
  parcels = parcels_of c.in_flight

  s_in : In s c.servers
  s_in = In-got c.servers k s at

  set : slice_set c.servers k t ≡ b.front ++ t ∷ b.back
  set = b.set t

  home : IsHome c.journal t
  home = let was : IsHome c.journal s = h.homes s s_in in record {
    map = subst IsMap (sym q.owners) was.map;
    listed = λ place i. was.listed place (subst (λ owners. In place (places_of owners)) q.owners i);
    rows = λ r i.
        let m = field_before s.rows t.rows q.rows r i in
        mine_same b.front b.back s t q.me q.owners (file_of r.field) ∙ ap (λ f. is_mine s (file_of f)) m.1.1 ∙ was.rows m.0 m.1.0;
    records = λ id e. mine_same b.front b.back s t q.me q.owners id ∙ q.records id e;
    ordered = still_ordered s.rows t.rows q.rows was.ordered;
  }

  count : length (slice_set c.servers k t) ≡ length c.servers
  count = ap length set ∙ length_same b.front b.back s t q.me q.owners ∙ sym (ap length b.is)

  once : (n : LeaseNo) → times_in n (slice_set c.servers k t) parcels ≤ 1
  once n =
      let was : times_in n c.servers parcels ≤ 1 = all_once c.servers parcels h.ordered n in
      let moved = total_set (λ (x : Server). times n x.rows) c.servers k s t at in
      let same = times_same s.rows t.rows q.rows n in
      omega arith

  pub places_stepped : (left : List InFlight) (ms : List (Peer × Msg)) (more : List Item) (replied : Session → List Item)
      (lines : Session → Lines)
      → parcels_of left ≡ parcels_of c.in_flight → ((x : InFlight) → In x left → In x c.in_flight) → AreWords (length c.servers) ms
      → PlacesHold (record {
        servers = slice_set c.servers k t;
        in_flight = left ++ in_flight_from k ms;
        journal = c.journal ++ more;
        replied = replied;
        lines = lines;
      })
  places_stepped left ms more replied lines still among words =
      let same : parcels_of (left ++ in_flight_from k ms) ≡ parcels =
      parcels-append left (in_flight_from k ms) ∙ ap₂ (λ (x y : List Parcel). x ++ y) still (none_handed k (length c.servers) ms words)
      ∙ append-nil parcels in
      record {
        one = λ id. ap₂ (λ ss ps. places_for id ss ps) set same
            ∙ one_same b.front b.back s t q.me q.owners parcels
            (λ i. ap (λ ss. places_for i ss parcels) (sym b.is) ∙ h.one i) id;
        homes = λ x i. home_still c.journal more x (each_same b.front b.back s t q.me q.owners (IsHome c.journal)
            (λ y j. h.homes y (subst (In y) (sym b.is) j)) home x (subst (In x) set i));
        sent = λ p i. sent_still c.journal more p (h.sent p (subst (In p) same i));
        goes = λ f i. subst (λ m. IsUnderway m f) (sym count)
            (elim (In-append f left (in_flight_from k ms) i) as (λ _. IsUnderway (length c.servers) f) [
              | inl j ↦ h.goes f (among f j)
              | inr j ↦ words_go k (length c.servers) (slice_get_within c.servers k s at) ms words f j
            ]);
        ordered = subst (λ ps. is_ordered (rows_of_all (slice_set c.servers k t) ps) ≡ true) (sym same)
            (all_ordered (slice_set c.servers k t) parcels once);
        numbered = λ j x e. numbered_same b.front b.back s t q.me 0
            (λ i y d. h.numbered i y (ap (λ ss. slice_get ss i) b.is ∙ d) ∙ zero_more i) j x (ap (λ ss. slice_get ss j) (sym set) ∙ e)
            ∙ sym (zero_more j);
        named = λ x i id. subst (λ m. server_of x.map id < m) (sym count)
            (each_same b.front b.back s t q.me q.owners (λ y. (j : List ℕ) → server_of y.map j < length c.servers)
            (λ y j. h.named y (subst (In y) (sym b.is) j))
            (λ j. subst (λ o. server_of o j < length c.servers) (sym q.owners) (h.named s s_in j)) x (subst (In x) set i) id);
      }
    where
      zero_more : (i : ℕ) → i ≡ 0 + i
      zero_more i = omega arith

-- ## A vote

moved_names : (servers : ℕ) (owners : Owners) (id : List ℕ) → server_of owners id < servers
    → VoteNames servers (moved_to (longest owners id))
moved_names servers owners id h = elim (longest owners id) as
    (λ o. unwrap_or (option_map (λ e. e.1) o) 0 < servers → VoteNames servers (moved_to o)) [
      | None ↦ λ g. g
      | Some e ↦ λ g. g
    ] h

by_names : (servers : ℕ) (u : Option Use) (through : Option PathNo) (now : ℕ) → VoteNames servers (vote_by u through now)
by_names servers None None now = tt
by_names servers None (Some lease) now = tt
by_names servers (Some u) through now = tt

pub vote_names : (servers : ℕ) (s : Server) (by : Session) (p : Part) → ((id : List ℕ) → server_of s.map id < servers)
    → VoteNames servers (vote_here s by p)
vote_names servers s by p h = elim (is_mine s p.file) as
    (λ b. VoteNames servers (cond b (vote_by (first_gone s.rows by p.uses) (path_in_the_way s p.freeze) s.last)
    (moved_to (longest s.map p.file)))) [
      | true ↦ by_names servers (first_gone s.rows by p.uses) (path_in_the_way s p.freeze) s.last
      | false ↦ moved_names servers s.map p.file (h p.file)
    ]

-- ## A word comes

-- what comes names servers that there are, and is not of path leases
pub names_there : (k from : ℕ) (c : Cluster) (m : PeerMsg) → PlacesHold c → Comes k from c m → MessageNames (length c.servers) m
names_there k from c m h comes =
    let f : InFlight = record { from = from; to = k; message = m } in
    (h.goes f (found (is_between from k) c.in_flight f comes).0).names

-- where what comes hands nothing over, the parcels on their way stay
pub word_taken : (is : InFlight → Bool) (fs : List InFlight) (f : InFlight) → find is fs ≡ Some f → parcel_in f.message ≡ None
    → parcels_of (without_first is fs) ≡ parcels_of fs
word_taken is fs f e none =
    let q : IsTaken is fs f = taken_first is fs f e in
    let one : parcels_of (f ∷ q.back) ≡ parcels_of q.back = rw (none) refl in
    ap parcels_of q.left ∙ parcels-append q.front q.back ∙ ap (λ (ps : List Parcel). parcels_of q.front ++ ps) (sym one)
    ∙ sym (parcels-append q.front (f ∷ q.back)) ∙ sym (ap parcels_of q.whole)
