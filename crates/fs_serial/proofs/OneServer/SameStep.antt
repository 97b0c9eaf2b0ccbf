-- In a cluster where everything is at its place, what comes of an event at a server comes of it at the one that has all.
use Rattle.std.proofs.Common.{◌≡◌, ℕ, ◌==◌, ◌≤◌, true, false, List, ◌++◌, refl, ap, ap₂, cond, subst, sym, ◌∙◌, inl, inr, append-nil}
use Rattle.std.specs.Prelude.{Option, Some, None, option_map, slice_get, unwrap_or}
use Rattle.std.specs.FinMap.{get}
use Rattle.std.specs.Cmp.{nat_eq_equiv}
use Rattle.fs_ident.specs.Ident.{child}
use Rattle.fs_ident.specs.In.{In}
use Rattle.fs_ident.specs.declared.actor.LeaseNo.{LeaseNo}
use Rattle.fs_ident.specs.declared.actor.Session.{Session}
use Rattle.fs_ident.proofs.Standing.{In-front, In-mapped}
use Rattle.fs_field.specs.declared.field.Field.{Field}
use Rattle.fs_field.specs.declared.lease_kind.LeaseKind.{LeaseKind}
use Rattle.fs_field.specs.declared.used.Use.{Use}
use Rattle.fs_field.specs.Field.{file_of}
use Rattle.fs_field.specs.Table.{has_no, is_ordered}
use Rattle.fs_field.proofs.SameNo.{same_no_is}
use Rattle.fs_map.specs.Change.{at}
use Rattle.fs_map.specs.Lists.{places_of}
use Rattle.fs_map.specs.Map.{IsMap}
use Rattle.fs_map.proofs.Found.{found_In, longest_split}
use Rattle.fs_model.specs.Sound.{kind_of}
use Rattle.fs_model.specs.declared.op.Op.{Op}
use Rattle.fs_model.specs.declared.op.Op.TheVariants as op
use Rattle.fs_model.specs.declared.reply.Reply.{Reply}
use Rattle.fs_model.specs.declared.reply.Reply.TheVariants as reply
use Rattle.fs_model.specs.Asking.{home_of}
use Rattle.fs_msg.specs.declared.client_msg.ClientMsg.{ClientMsg}
use Rattle.fs_msg.specs.declared.client_msg.ClientMsg.TheVariants.{Ask, Renew, Release, Ship, Lead}
use Rattle.fs_msg.specs.declared.entry.Entry.{Entry}
use Rattle.fs_parcel.proofs.Both.{ordered_before}
use Rattle.fs_field.specs.After.{changed_file}
use Rattle.fs_record.specs.Effects.{effects_of}
use Rattle.fs_record.specs.Fresh.{is_dir}
use Rattle.fs_record.specs.Records.{next_of, node_of}
use Rattle.fs_server.specs.Asks.{ask_step}
use Rattle.fs_server.specs.Pairs.{release_step, renew_step}
use Rattle.fs_server.specs.Reaps.{lapsed_in, turn_over, turn_step}
use Rattle.fs_server.specs.Server.{Stepped, is_mine}
use Rattle.fs_server.specs.Ships.{ship_step}
use Rattle.fs_server.specs.Step.{event_step, recall_step}
use Rattle.fs_server.specs.declared.event.ServerEvent.{ServerEvent}
use Rattle.fs_server.specs.declared.event.ServerEvent.TheVariants.{FromClient, FromPeer, Move, Recall, Turn}
use Rattle.fs_server.specs.declared.state.Server.{Server}
use Rattle.fs_serial.specs.Cluster.{Cluster, InFlight, after_step, parcels_of, without_arrived}
use Rattle.fs_txn.specs.Grants.{Decided}
use Rattle.fs_serial.specs.Exchange.{pairs_in}
use Rattle.fs_serial.specs.Fresh.{ByLog, IsMade}
use Rattle.fs_serial.specs.Joined.{records_of_all, rows_of_all}
use Rattle.fs_serial.specs.Pending.{IsEntry, NamesItsFile, named_by}
use Rattle.fs_serial.specs.Places.{IsHome, PlacesHold}
use Rattle.fs_serial.specs.Seen.{counts_of, given_at, with_all}
use Rattle.fs_serial.specs.Settled.{Settled}
use Rattle.fs_serial.specs.World.{Ends, IsThere, World, WorldHolds, settled_at}
use Rattle.fs_serial.proofs.Lists.Children.{the_child}
use Rattle.fs_serial.proofs.Lists.Journals.{below_itself}
use Rattle.fs_serial.proofs.Places.PutRows.{In-puts_here}
use Rattle.fs_serial.proofs.Places.PutRecords.{AreOn}
use Rattle.fs_serial.proofs.Places.OtherPlaces.{IsApart, IsCounted, Rest, joined, record_here}
use Rattle.fs_serial.proofs.Places.ClusterPlaces.{IsBetween, all_here, all_joined, apart_of, between, own_home, rest_of}
use Rattle.fs_serial.proofs.OneServer.Sim.{IsSim}
use Rattle.fs_serial.proofs.OneServer.SimAsk.{HasFreshHere, ask_sim}
use Rattle.fs_serial.proofs.OneServer.SimPairs.{ArePairsHere, recall_sim, release_sim, renew_sim}
use Rattle.fs_serial.proofs.OneServer.SimShip.{AreEntriesHere, ship_sim}
use Rattle.fs_serial.proofs.OneServer.SimTurn.{lapsed_here, turn_sim}
use Rattle.fs_serial.specs.World.{IsOther}

-- ## What it is

-- what comes of the event at the server, and at the one that has all: the same, and the second server is the first with
-- all then; nothing goes to another server, and what the first has is at its place
pub record IsSameStep (k : ℕ) (e : ServerEvent) (s : Server) (small big : Stepped) (c : Cluster) : Type 0 where
  pub out : small.out ≡ big.out
  pub server : big.server ≡ with_all small.server (after_step k e small c)
  pub me : small.server.me ≡ s.me
  pub skew : small.server.skew ≡ s.skew
  pub last : small.server.last ≡ s.last
  pub map : small.server.map ≡ s.map
  pub home : IsHome c.journal small.server
  pub ordered : is_ordered big.server.rows ≡ true
  pub still : (after_step k e small c).in_flight ≡ c.in_flight

-- no message of a server comes by the event
abbrev pub BringsNone : ℕ → ServerEvent → Type 0
BringsNone k e = (in_flight : List InFlight) → without_arrived k e in_flight ≡ in_flight

module _ (k : ℕ) (e : ServerEvent) (c : Cluster) (s : Server) (places : PlacesHold c) (b : IsBetween c.servers k s) (none : BringsNone k e) where
  abbrev rest : Rest
  rest = rest_of b.front b.back (parcels_of c.in_flight)

  module _ (big small : Stepped) (h : IsSim rest s big small) where
    still : (after_step k e small c).in_flight ≡ c.in_flight
    still = ap₂ (λ xs ys. xs ++ ys) (none c.in_flight) (h.quiet k) ∙ append-nil c.in_flight

    all_then : with_all small.server (after_step k e small c) ≡ joined rest small.server
    all_then =
        ap₂ (λ servers in_flight. let u : Server = record (small.server) { rows = rows_of_all servers (parcels_of in_flight); records = records_of_all servers (parcels_of in_flight) } in u) (b.set small.server) still
        ∙ all_joined b.front b.back (parcels_of c.in_flight) small.server h.apart

    pub same_step : IsSameStep k e s small big c
    same_step =
        let home : IsHome c.journal s = own_home c k s places b in
        record {
          out = h.out;
          server = h.server ∙ sym all_then;
          me = h.self.me;
          skew = h.self.skew;
          last = h.self.last;
          map = h.self.map;
          home = record {
            map = subst IsMap (sym h.self.map) home.map;
            listed = λ place i. home.listed place (subst (λ m. In place (places_of m)) h.self.map i);
            rows = h.apart.own_rows;
            records = h.apart.own_records;
            ordered = ordered_before rest.rows small.server.rows h.apart.ordered;
          };
          ordered = subst (λ (t : Server). is_ordered t.rows ≡ true) (sym h.server) h.apart.ordered;
          still = still;
        }

-- ## Of the server that has all

-- as the server that has all sees it, where this is decided and these are both ends of each session
abbrev pub seen_with : Server → Cluster → List Decided → (Session → Ends) → World
seen_with s c ds ends = record {
  server = with_all s c;
  counts = counts_of c.servers;
  decided = ds;
  journal = c.journal;
  replied = c.replied;
  ends = ends;
}

module _ (k : ℕ) (c : Cluster) (s : Server) (places : PlacesHold c) (b : IsBetween c.servers k s) where
  abbrev pub more : Rest
  more = rest_of b.front b.back (parcels_of c.in_flight)

  pub apart : IsApart more s
  apart = apart_of c k s places b

  pub here : with_all s c ≡ joined more s
  here = all_here c k s places b

  -- a step at the one is a step at the other
  pub stepped : (e : ServerEvent) → BringsNone k e → (f : Server → Stepped) (small : Stepped) → IsSim more s (f (joined more s)) small → IsSameStep k e s small (f (with_all s c)) c
  stepped e none f small h = subst (λ t. IsSameStep k e s small (f t) c) (sym here) (same_step k e c s places b none (f (joined more s)) small h)

  -- what no place lists goes with its directory
  unlisted : (id : List ℕ) → (IsMade c.journal id → ⊥) → at id s.map ≡ None
  unlisted id new =
      elim (at id s.map) as (λ o. at id s.map ≡ o → o ≡ None) [
        | None ↦ λ e. refl
        | Some v ↦ λ e. absurd (new ((own_home c k s places b).listed id (In-mapped (λ (x : List ℕ × ℕ). x.0) (id, v) s.map (found_In id v s.map e))))
      ] refl

  child_here : (dir : List ℕ) (n : ℕ) → (IsMade c.journal (child dir n) → ⊥) → is_mine s dir ≡ true → is_mine s (child dir n) ≡ true
  child_here dir n new mine = ap (λ (o : Option (List ℕ × ℕ)). unwrap_or (option_map (λ e. e.1) o) 0 == s.me) (longest_split (child dir n) dir n s.map refl (unlisted (child dir n) new)) ∙ mine

  module _ (greatest : ℕ) (ds : List Decided) (ends : Session → Ends) (w : WorldHolds greatest (seen_with s c ds ends)) where
    abbrev clients : Session → Settled
    clients x = settled_at x (ends x)

    counted : IsCounted more s
    counted = record {
      apart = apart;
      given = λ r i e. subst (λ n. r.no.count ≤ n)
          (ap (λ n. cond (n == s.me) s.given (given_at (slice_get c.servers r.no.server))) e ∙ ap (λ b. cond b s.given (given_at (slice_get c.servers r.no.server))) (nat_eq_equiv.refl s.me))
          (w.all.kept.given r (subst (λ (t : Server). In r t.rows) (sym here) i));
    }

    fresh_here : (dir : List ℕ) → HasFreshHere s dir
    fresh_here dir mine is n next =
        let at : get (with_all s c).records dir ≡ get s.records dir = ap (λ (t : Server). get t.records dir) here ∙ record_here more s apart dir mine in
        child_here dir n (λ made. w.all.reserved.made_before dir n (child dir n)
        (ap (λ o. is_dir (kind_of (node_of o))) at ∙ is) (subst (λ o. next_of o ≤ n) (sym at) next) made (below_itself (child dir n))) mine

    -- the rows with the numbers of pairs are at the server of their files
    pairs_at_home : (by : Session) (pairs : List (List ℕ × LeaseNo)) (m : ClientMsg) → In m (ends by).up → pairs_in m ≡ pairs → ArePairsHere s pairs more.rows
    pairs_at_home by pairs m i same p j mine r l =
        elim (has_no p.1 r) as (λ b. has_no p.1 r ≡ b → b ≡ false) [
          | true ↦ λ e.
              let fits = (w.exchanges by).pairs m i p (subst (In p) (sym same) j) in
              let on : file_of r.field ≡ p.0 = fits.place r (subst (λ (t : Server). In r t.rows) (sym here) (In-puts_here r more.rows s.rows l)) (same_no_is r.no p.1 e) in
              let wrong : true ≡ false = sym mine ∙ ap (is_mine s) (sym on) ∙ apart.rows r l in
              absurd (cc)
          | false ↦ λ e. refl
        ] refl

    -- ## Entries

    named_here : (by : Session) (uses : List Use) (o : Op) (r : Reply) (id : List ℕ) → NamesItsFile uses o r → (IsMade c.journal id → ⊥) → named_by o ≡ Some id → is_mine s (home_of o) ≡ true → is_mine s id ≡ true
    named_here by uses (op.Create dir name kind (Some new)) reply.Made id h free e mine =
        let same : new ≡ id = cc in
        let k : (k : ℕ) × (new ≡ child dir k) = the_child dir new h.child in
        ap (is_mine s) (sym same ∙ k.1) ∙ child_here dir k.0 (λ made. free (subst (IsMade c.journal) (sym k.1 ∙ same) made)) mine
    named_here by uses (op.Create dir name kind (Some new)) r id h free e mine = absurd h
    named_here by uses o r id h free e mine = absurd (cc)

    -- what an entry names was not made
    unmade_here : (by : Session) (e : Entry) → In e (clients by).log → (id : List ℕ) → named_by e.op ≡ Some id → IsMade c.journal id → ⊥
    unmade_here by e i id is made = w.all.reserved.unmade by ByLog id id (record { entry = e; among = i; named = is }) made (below_itself id)

    used_here : (by : Session) (e : Entry) → In e (clients by).log → IsEntry e → is_mine s (home_of e.op) ≡ true → (u : Use) → In u e.uses → is_mine s (file_of u.field) ≡ true
    used_here by e i h mine u j = elim (h.home u j) as (λ _. is_mine s (file_of u.field) ≡ true) [
      | inl q ↦ ap (is_mine s) q ∙ mine
      | inr q ↦ named_here by e.uses e.op e.reply (file_of u.field) h.named (unmade_here by e i (file_of u.field) q) q mine
    ]

    changed_here : (by : Session) (o : Op) (r : Reply) → ((id : List ℕ) → named_by o ≡ Some id → is_mine s id ≡ true) → is_mine s (home_of o) ≡ true → AreOn (is_mine s) (effects_of by o r)
    changed_here by (op.Create dir name kind (Some new)) reply.Made named mine x i = elim i as (λ _. is_mine s (changed_file x) ≡ true) [
      | inl q ↦ ap (λ z. is_mine s (changed_file z)) q ∙ mine
      | inr j ↦ elim j as (λ _. is_mine s (changed_file x) ≡ true) [
        | inl q ↦ ap (λ z. is_mine s (changed_file z)) q ∙ named new refl
        | inr z ↦ absurd z
      ]
    ]
    changed_here by (op.OpenFile file h modes) reply.Opened named mine x i = elim i as (λ _. is_mine s (changed_file x) ≡ true) [ inl q ↦ ap (λ z. is_mine s (changed_file z)) q ∙ mine | inr z ↦ absurd z ]
    changed_here by (op.Close file h) reply.Closed named mine x i = elim i as (λ _. is_mine s (changed_file x) ≡ true) [ inl q ↦ ap (λ z. is_mine s (changed_file z)) q ∙ mine | inr z ↦ absurd z ]
    changed_here by (op.Set file h size stamp) reply.Set named mine x i = elim i as (λ _. is_mine s (changed_file x) ≡ true) [ inl q ↦ ap (λ z. is_mine s (changed_file z)) q ∙ mine | inr z ↦ absurd z ]
    changed_here by o r named mine x i = absurd i

    entries_at_home : (by : Session) (entries : List Entry) → In (Ship entries) (ends by).up → AreEntriesHere s by entries
    entries_at_home by entries i e j mine =
        let front = (w.exchanges by).front entries i in
        let there : In e (clients by).log = subst (In e) (sym front.log) (In-front e entries front.rest j) in
        let is : IsEntry e = (w.all.fitting by).entries e there in
        record {
          used = used_here by e there is mine;
          changed = changed_here by e.op e.reply (λ id q. named_here by e.uses e.op e.reply id is.named (unmade_here by e there id q) q mine) mine;
        }

-- ## Each kind

ask_same : (greatest k : ℕ) (c : Cluster) (s : Server) (by : Session) (items : List (Field × LeaseKind)) (dir : Option (List ℕ)) → slice_get c.servers k ≡ Some s → PlacesHold c
    → (ds : List Decided) (ends : Session → Ends) → WorldHolds greatest (seen_with s c ds ends)
    → IsSameStep k (FromClient by (Ask items dir)) s (ask_step by items dir s) (ask_step by items dir (with_all s c)) c
ask_same greatest k c s by items dir is places ds ends w =
    let b : IsBetween c.servers k s = between c.servers k s is in
    stepped k c s places b (FromClient by (Ask items dir)) (λ in_flight. refl) (ask_step by items dir) (ask_step by items dir s)
    (ask_sim (more k c s places b) by items dir s (counted k c s places b greatest ds ends w) (λ d e. fresh_here k c s places b greatest ds ends w d))

renew_same : (greatest k : ℕ) (c : Cluster) (s : Server) (by : Session) (pairs : List (List ℕ × LeaseNo)) → slice_get c.servers k ≡ Some s → PlacesHold c
    → (ds : List Decided) (ends : Session → Ends) → WorldHolds greatest (seen_with s c ds ends)
    → In (Renew pairs) (ends by).up
    → IsSameStep k (FromClient by (Renew pairs)) s (renew_step by pairs s) (renew_step by pairs (with_all s c)) c
renew_same greatest k c s by pairs is places ds ends w there =
    let b : IsBetween c.servers k s = between c.servers k s is in
    stepped k c s places b (FromClient by (Renew pairs)) (λ in_flight. refl) (renew_step by pairs) (renew_step by pairs s)
    (renew_sim (more k c s places b) by pairs s (apart k c s places b) (pairs_at_home k c s places b greatest ds ends w by pairs (Renew pairs) there refl))

release_same : (greatest k : ℕ) (c : Cluster) (s : Server) (by : Session) (pairs : List (List ℕ × LeaseNo)) → slice_get c.servers k ≡ Some s → PlacesHold c
    → (ds : List Decided) (ends : Session → Ends) → WorldHolds greatest (seen_with s c ds ends)
    → In (Release pairs) (ends by).up
    → IsSameStep k (FromClient by (Release pairs)) s (release_step by pairs s) (release_step by pairs (with_all s c)) c
release_same greatest k c s by pairs is places ds ends w there =
    let b : IsBetween c.servers k s = between c.servers k s is in
    stepped k c s places b (FromClient by (Release pairs)) (λ in_flight. refl) (release_step by pairs) (release_step by pairs s)
    (release_sim (more k c s places b) by pairs s (apart k c s places b) (pairs_at_home k c s places b greatest ds ends w by pairs (Release pairs) there refl))

ship_same : (greatest k : ℕ) (c : Cluster) (s : Server) (by : Session) (entries : List Entry) → slice_get c.servers k ≡ Some s → PlacesHold c
    → (ds : List Decided) (ends : Session → Ends) → WorldHolds greatest (seen_with s c ds ends)
    → In (Ship entries) (ends by).up
    → IsSameStep k (FromClient by (Ship entries)) s (ship_step by entries s) (ship_step by entries (with_all s c)) c
ship_same greatest k c s by entries is places ds ends w there =
    let b : IsBetween c.servers k s = between c.servers k s is in
    stepped k c s places b (FromClient by (Ship entries)) (λ in_flight. refl) (ship_step by entries) (ship_step by entries s)
    (ship_sim (more k c s places b) by entries s (apart k c s places b) (entries_at_home k c s places b greatest ds ends w by entries there))

recall_same : (k : ℕ) (c : Cluster) (s : Server) (field : Field) → slice_get c.servers k ≡ Some s → PlacesHold c → IsSameStep k (Recall field) s (recall_step field s) (recall_step field (with_all s c)) c
recall_same k c s field is places =
    let b : IsBetween c.servers k s = between c.servers k s is in
    stepped k c s places b (Recall field) (λ in_flight. refl) (recall_step field) (recall_step field s) (recall_sim (more k c s places b) field s (apart k c s places b))

pub turn_same : (k : ℕ) (c : Cluster) (s : Server) → slice_get c.servers k ≡ Some s → PlacesHold c → IsSameStep k Turn s (turn_step s) (turn_over (lapsed_in s) (with_all s c)) c
turn_same k c s is places =
    let b : IsBetween c.servers k s = between c.servers k s is in
    stepped k c s places b Turn (λ in_flight. refl) (turn_over (lapsed_in s)) (turn_step s) (turn_sim (more k c s places b) (lapsed_in s) s (apart k c s places b) (lapsed_here (more k c s places b) s (apart k c s places b)))

-- a question that is on its way, or a recall
pub begun_in : (greatest k : ℕ) (c : Cluster) (s : Server) (e : ServerEvent) → slice_get c.servers k ≡ Some s → PlacesHold c
    → (ds : List Decided) (ends : Session → Ends) → WorldHolds greatest (seen_with s c ds ends)
    → IsThere e ends → IsOther e → (e ≡ Turn → ⊥)
    → IsSameStep k e s (event_step e s) (event_step e (with_all s c)) c
begun_in greatest k c s (FromClient by (Ask items dir)) is places ds ends w there o q = ask_same greatest k c s by items dir is places ds ends w
begun_in greatest k c s (FromClient by (Renew pairs)) is places ds ends w there o q = renew_same greatest k c s by pairs is places ds ends w there
begun_in greatest k c s (FromClient by (Release pairs)) is places ds ends w there o q = release_same greatest k c s by pairs is places ds ends w there
begun_in greatest k c s (FromClient by (Ship entries)) is places ds ends w there o q = ship_same greatest k c s by entries is places ds ends w there
begun_in greatest k c s (FromClient by (Lead m)) is places ds ends w there o q = absurd o
begun_in greatest k c s (FromPeer from m) is places ds ends w there o q = absurd there
begun_in greatest k c s Turn is places ds ends w there o q = absurd (q refl)
begun_in greatest k c s (Recall field) is places ds ends w there o q = recall_same k c s field is places
begun_in greatest k c s (Move prefix to) is places ds ends w there o q = absurd there
