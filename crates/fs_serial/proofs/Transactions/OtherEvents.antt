-- Every event of a server that is no word of a transaction, nor a question to lead one, keeps all that holds of the cluster.
use Rattle.std.proofs.Common.{◌≡◌, ℕ, ◌≤◌, ◌<◌, length, true, List, [], ◌∷◌, ◌++◌, append-nil, refl, sym, ap, ap₂, ◌∙◌, subst, inl, inr, arith}
use Rattle.std.specs.Prelude.{◌⊎◌, Option, Some, None, is_some, slice_get}
use mathlib.Core.Path.{fun_ext}
use Rattle.fs_ident.specs.In.{In}
use Rattle.fs_ident.specs.declared.actor.Peer.{Peer}
use Rattle.fs_ident.specs.declared.actor.Peer.TheVariants.{Client as OfSession}
use Rattle.fs_ident.specs.declared.actor.Session.{Session}
use Rattle.fs_ident.specs.declared.kind.Kind.{Kind}
use Rattle.fs_ident.proofs.Passing.{found}
use Rattle.fs_ident.proofs.Standing.{In-front, In-got, In-mapped}
use Rattle.fs_field.specs.Conflict.{Selves}
use Rattle.fs_field.specs.declared.effect.Effect.{Effect}
use Rattle.fs_field.specs.declared.effect.Effect.TheVariants.{SetChild, SetParent, NewNode, RemoveNode}
use Rattle.fs_field.specs.declared.effect.Effect.TheVariants.{AddHandle, RemoveHandle, SetInfo}
use Rattle.fs_field.specs.declared.field.Field.{Field}
use Rattle.fs_field.specs.declared.row.Row.{Row}
use Rattle.fs_moderows.specs.Kept.{KeptPromises}
use Rattle.fs_msg.specs.declared.client_msg.ClientMsg.{ClientMsg}
use Rattle.fs_msg.specs.declared.client_msg.ClientMsg.TheVariants.{Ask, Renew, Release, Ship, Lead}
use Rattle.fs_msg.specs.declared.peer_msg.PeerMsg.{PeerMsg}
use Rattle.fs_msg.specs.declared.peer_msg.PeerMsg.TheVariants as peer
use Rattle.fs_msg.specs.declared.msg.Msg.{Msg}
use Rattle.fs_msg.specs.declared.msg.Msg.TheVariants as msg
use Rattle.fs_msg.specs.declared.item.Item.{Item}
use Rattle.fs_msg.specs.declared.server_note.ServerNote.{ServerNote}
use Rattle.fs_msg.specs.declared.server_note.ServerNote.TheVariants as note
use Rattle.fs_path.specs.Tables.{PathTables}
use Rattle.fs_map.specs.Map.{server_of}
use Rattle.fs_parcel.specs.declared.error.MoveError.{MoveError}
use Rattle.fs_record.specs.Records.{RecordMap}
use Rattle.fs_record.specs.declared.parcel.Parcel.{Parcel}
use Rattle.fs_client.specs.declared.state.Client.{Client}
use Rattle.fs_server.specs.Moves.{fits_here, installed, move_at, parcel_at, peer_step}
use Rattle.fs_server.specs.Reaps.{lapsed_in, turn_over, turn_step}
use Rattle.fs_server.specs.Server.{Stepped, only_noted}
use Rattle.fs_server.specs.Step.{event_step}
use Rattle.fs_server.specs.declared.event.ServerEvent.{ServerEvent}
use Rattle.fs_server.specs.declared.event.ServerEvent.TheVariants as event
use Rattle.fs_server.specs.declared.state.Server.{Server}
use Rattle.fs_txn.specs.Decided.{held_with}
use Rattle.fs_txn.specs.Grants.{Decided, effects_in}
use Rattle.fs_serial.specs.Cluster.{Cluster, InFlight, IsThere, after_step, is_between, is_with, parcel_in, parcels_of}
use Rattle.fs_serial.specs.Cluster.{replies_after, without_first, without_question}
use Rattle.fs_serial.specs.Decided.{WorldStands}
use Rattle.fs_serial.specs.Exchange.{asked_server}
use Rattle.fs_serial.specs.Fresh.{IsMade}
use Rattle.fs_serial.specs.Leading.{LeavesLed}
use Rattle.fs_serial.specs.Owed.{ends_in, taken_leads}
use Rattle.fs_serial.specs.PathLaws.{IsPathMessage}
use Rattle.fs_serial.specs.Places.{PlacesHold}
use Rattle.fs_serial.specs.Refusals.{rows_in}
use Rattle.fs_serial.specs.Runs.{records_in}
use Rattle.fs_serial.specs.Seen.{ClusterHolds, HasPeers, counts_of, given_at, reaps_at, with_all, world_of}
use Rattle.fs_serial.specs.Sight.{count_with}
use Rattle.fs_serial.specs.Words.{IsNoneOfLed, decided_in, word_in}
use Rattle.fs_serial.specs.World.{Ends, World}
use Rattle.fs_serial.specs.World as world
use Rattle.fs_serial.proofs.ClientMessages.Due.{HasAsked, event_due}
use Rattle.fs_serial.proofs.DecidedEffects.GrantsPast.{all_decided, going_of, selves_alike}
use Rattle.fs_serial.proofs.DecidedEffects.Underway.{either_file, kind_held}
use Rattle.fs_serial.proofs.LedOperations.NoReplies.{replies_still}
use Rattle.fs_serial.specs.World.{IsOther}
use Rattle.fs_serial.proofs.Lists.SetAt.{In_without}
use Rattle.fs_serial.proofs.Lists.Traffic.{messages}
use Rattle.fs_serial.proofs.Moves.Arriving.{arriving_places, arriving_same, parcel_stands}
use Rattle.fs_serial.proofs.Moves.KeptPaths.{event_peers}
use Rattle.fs_serial.proofs.Moves.PathPeers.{AreNamed, message_named, refused_named}
use Rattle.fs_serial.proofs.Moves.PathSteps.{ArePathSends, IsPathNote, each_message, no_parcel, no_word, none_told, path_stepped, refusal_here, refused, sent_path}
use Rattle.fs_serial.proofs.Moves.QuietSteps.{quiet_places, quiet_same}
use Rattle.fs_serial.proofs.Moves.Leaving.{LivesMade, move_same, moved_places}
use Rattle.fs_serial.proofs.Moves.ParcelFits.{RowsStand}
use Rattle.fs_serial.proofs.OneServer.SameStep.{begun_in, turn_same}
use Rattle.fs_serial.proofs.OneServer.ServerEvents.{begun_keeps}
use Rattle.fs_serial.proofs.Places.HeldRows.{row_of_all}
use Rattle.fs_serial.proofs.Replies.Knowing.{In-filter_map}
use Rattle.fs_serial.proofs.Returns.HandlesWithoutRows.{all_let_go}
use Rattle.fs_serial.proofs.Returns.ServerTurn.{turn_some_keeps}
use Rattle.fs_serial.proofs.Transactions.FitsAlike.{stands_alike}
use Rattle.fs_serial.proofs.Transactions.GivesBack.{release_unlocked}
use Rattle.fs_serial.proofs.Transactions.LeavesLed.{IsUnlocked, event_leaves, quiet_leaves}
use Rattle.fs_serial.proofs.Transactions.OthersKeep.{step_keeps_led, taken_client}
use Rattle.fs_serial.proofs.Transactions.PlacesAfter.{AreWords, word_taken}
use Rattle.fs_serial.proofs.Transactions.SeenMeanwhile.{decided_after, ends_after}
use Rattle.fs_serial.proofs.Transactions.StandsAfter.{all_stand, ones, stands_after, view}
use Rattle.fs_serial.proofs.WholeRuns.Addressing.{AreDue, sent_addressed, taken_addressed}
use Rattle.fs_serial.proofs.WholeRuns.Views.{count_set}

-- ## What moves sends no session anything, nor do path leases

record IsQuietStep (servers : ℕ) (s : Server) (x : Stepped) : Type 0 where
  me : x.server.me ≡ s.me
  skew : x.server.skew ≡ s.skew
  last : x.server.last ≡ s.last
  given : x.server.given ≡ s.given
  reaps : x.server.reaps ≡ s.reaps
  admitted : x.out.admitted ≡ []
  sent : (ends : Session → Ends) (y : Session) → world.with_sent x.out.send ends y ≡ ends y
  peers : HasPeers servers x.server.paths

-- a step of path leases
module _ (servers : ℕ) (s : Server) where
  path_quiet : (n : ServerNote) (ms : List (Peer × Msg)) (paths : PathTables) (asking : List (List ℕ)) (given : ℕ) → IsPathNote n
      → ArePathSends ms → HasPeers servers paths → IsQuietStep servers s (path_stepped n ms paths asking given s)
  path_quiet n ms paths asking given noted sent peers = record {
    me = refl;
    skew = refl;
    last = refl;
    given = refl;
    reaps = refl;
    admitted = refl;
    sent = λ ends y. ap (λ (f : Session → Ends). f y) (none_told ms sent ends);
    peers = peers;
  }

  message_quiet : (from : ℕ) (m : PeerMsg) → IsPathMessage m → HasPeers servers (peer_step from m s).server.paths
      → IsQuietStep servers s (peer_step from m s)
  message_quiet = each_message (λ (x : Stepped). HasPeers servers x.server.paths → IsQuietStep servers s x) s path_quiet

  move_quiet : (o : Option MoveError) (prefix : List ℕ) (to : ℕ) → ((id : List ℕ) → server_of s.map id < servers)
      → HasPeers servers s.paths → IsQuietStep servers s (move_at o prefix to s)
  move_quiet None prefix to named peers =
      record { me = refl; skew = refl; last = refl; given = refl; reaps = refl; admitted = refl; sent = λ ends y. refl; peers = peers }
  move_quiet (Some why) prefix to named peers =
      refused (λ (x : Stepped). HasPeers servers x.server.paths → IsQuietStep servers s x) s path_quiet why prefix to
      (refused_named servers s named peers why prefix to).peers

  install_quiet : (p : Parcel) → HasPeers servers s.paths → IsQuietStep servers s (only_noted (note.Installs p.prefix) (installed p s))
  install_quiet p peers =
      record { me = refl; skew = refl; last = refl; given = refl; reaps = refl; admitted = refl; sent = λ ends y. refl; peers = peers }

module _ (skew greatest k : ℕ) (c : Cluster) (s : Server) (at : slice_get c.servers k ≡ Some s) (h : ClusterHolds skew greatest c) where
  abbrev w : World
  w = world_of s c

  now : WorldStands greatest w
  now = view skew greatest k c s at h

  me : s.me ≡ k
  me = h.places.numbered k s at

  here : In s c.servers
  here = In-got c.servers k s at

  peers : HasPeers (length c.servers) s.paths
  peers = h.peers s here

  -- ## A question

  has_asked : (e : ServerEvent) → IsThere k e c → HasAsked k (λ z. asked_server (without_question k e c.lines z).client.exchange) e
  has_asked (event.FromClient by m) there =
      ap (λ (d : Client). asked_server d.exchange) (taken_client k (event.FromClient by m) c.lines by)
      ∙ (h.addressed by).up (k, m) (found (is_with k) (c.lines by).up (k, m) there).0
  has_asked (event.FromPeer from m) there = tt
  has_asked event.Turn there = tt
  has_asked (event.Recall field) there = tt
  has_asked (event.Move prefix to) there = tt

  answers_due : (e : ServerEvent) → IsNoneOfLed e → IsThere k e c
      → AreDue k (event_step e s).out.send (λ z. asked_server (without_question k e c.lines z).client.exchange)
  answers_due e none there = event_due k (λ z. asked_server (without_question k e c.lines z).client.exchange) e s none (has_asked e there)

  coming : (by : Session) (m : ClientMsg) → IsThere k (event.FromClient by m) c → In m (ends_in c by).up
  coming by m there = In-front m (messages (c.lines by).up) (taken_leads by (c.lines by).client.led c.servers)
      (In-mapped (λ (n : ℕ × ClientMsg). n.1) (k, m) (c.lines by).up (found (is_with k) (c.lines by).up (k, m) there).0)

  unlocked : (by : Session) (m : ClientMsg) → IsThere k (event.FromClient by m) c → IsUnlocked (event.FromClient by m) s
  unlocked by (Release pairs) there =
      release_unlocked s.skew greatest (world.sight_in w).given w.server.rows by (ends_in c by).up (ends_in c by).down _ _ k c s at h.led
      (λ r i. row_of_all c.servers (parcels_of c.in_flight) r (inl (s, In-got c.servers k s at, i)))
      (now.0.exchanges by) pairs (coming by (Release pairs) there)
  unlocked by (Ask items dir) there = tt
  unlocked by (Renew pairs) there = tt
  unlocked by (Ship entries) there = tt
  unlocked by (Lead m) there = tt

  none_of_led : (by : Session) (m : ClientMsg) → IsOther (event.FromClient by m) → IsNoneOfLed (event.FromClient by m)
  none_of_led by (Lead m) other = absurd other
  none_of_led by (Ask items dir) other = tt
  none_of_led by (Renew pairs) other = tt
  none_of_led by (Release pairs) other = tt
  none_of_led by (Ship entries) other = tt

  pub asked_event : (by : Session) (m : ClientMsg) → IsOther (event.FromClient by m) → IsThere k (event.FromClient by m) c
      → ClusterHolds skew greatest (after_step k (event.FromClient by m) (event_step (event.FromClient by m) s) c)
  asked_event by m other there =
      let e : ServerEvent = event.FromClient by m in
      let big : Stepped = event_step e (with_all s c) in
      stands_after skew greatest k c s at h e there (event_step e s) big
      (begun_in greatest k c s e at h.places (decided_in c) (ends_in c) now.0 (coming by m there) other (λ z. absurd (cc)))
      (event_leaves k s c e there (none_of_led by m other) (unlocked by m there)) (event_peers (length c.servers) e s (none_of_led by m other) tt)
      (answers_due e (none_of_led by m other) there)
      (subst (λ replied. WorldStands greatest (record {
        server = big.server;
        counts = counts_of c.servers;
        decided = decided_in c;
        journal = c.journal ++ big.out.admitted;
        replied = replied;
        ends = world.with_sent big.out.send (world.without_taken e (ends_in c));
      })) (sym (replies_still by m other big.out.admitted c.replied)) (begun_keeps greatest w e now.1 (coming by m there) other now.0))

  -- ## Turns, and leases that are asked back

  pub turn_event : ClusterHolds skew greatest (after_step k event.Turn (event_step event.Turn s) c)
  turn_event = stands_after skew greatest k c s at h event.Turn tt (turn_step s) (turn_over (lapsed_in s) (with_all s c))
      (turn_same k c s at h.places) (event_leaves k s c event.Turn tt tt tt) (event_peers (length c.servers) event.Turn s tt tt)
      (answers_due event.Turn tt tt)
      (turn_some_keeps greatest w (lapsed_in s) now.1 (all_let_go c k s at h.places) now.0)

  pub recall_event : (field : Field) → ClusterHolds skew greatest (after_step k (event.Recall field) (event_step (event.Recall field) s) c)
  recall_event field =
      let e : ServerEvent = event.Recall field in
      stands_after skew greatest k c s at h e tt (event_step e s) (event_step e (with_all s c))
      (begun_in greatest k c s e at h.places (decided_in c) (ends_in c) now.0 tt tt (λ z. absurd (cc)))
      (event_leaves k s c e tt tt tt) (event_peers (length c.servers) e s tt tt) (answers_due e tt tt) (begun_keeps greatest w e now.1 tt tt now.0)

  -- ## Where all rows and records stay

  module _ (e : ServerEvent) (there : IsThere k e c) (x : Stepped) (q : IsQuietStep (length c.servers) s x) (leaves : LeavesLed k e s x c)
      (none : replies_after e x.out.admitted c.replied ≡ c.replied)
      (untaken : (y : Session) → world.without_taken e (ends_in c) y ≡ ends_in c y)
      (rows : rows_in (after_step k e x c) ≡ rows_in c) (records : records_in (after_step k e x c) ≡ records_in c)
      (places : PlacesHold (after_step k e x c))
      (due : AreDue k x.out.send (λ z. asked_server (without_question k e c.lines z).client.exchange)) where
    abbrev after : Cluster
    after = after_step k e x c

    clock : x.server.last ≤ greatest
    clock =
        let last : x.server.last ≡ s.last = q.last in
        let was : s.last ≤ greatest = now.0.clock in
        omega (arith, last, was)

    moved_stands : ClusterHolds skew greatest after
    moved_stands =
        let decided : decided_in after ≡ decided_in c = decided_after k e s x c at leaves in
        all_stand skew greatest k c s at h after x.server refl q.skew clock places (λ old. q.peers) (step_keeps_led k e s x c at h.led leaves)
        (stands_alike greatest w (world_of x.server after) (record {
          rows = rows;
          records = ap₂ (λ (ds : List Decided) (m : RecordMap). held_with (effects_in ds) m) decided records;
          stored = records;
          skew = q.skew;
          given = λ j. count_set given_at c.servers k x.server.me x.server.given x.server (q.me ∙ me) j
              ∙ ap (λ n. count_with n x.server.given (λ i. given_at (slice_get c.servers i)) j) q.me
              ∙ ap (λ n. count_with s.me n (λ i. given_at (slice_get c.servers i)) j) q.given;
          reaps = λ j. count_set reaps_at c.servers k x.server.me x.server.reaps x.server (q.me ∙ me) j
              ∙ ap (λ n. count_with n x.server.reaps (λ i. reaps_at (slice_get c.servers i)) j) q.me
              ∙ ap (λ n. count_with s.me n (λ i. reaps_at (slice_get c.servers i)) j) q.reaps;
          journal = ap (λ is. c.journal ++ is) q.admitted ∙ append-nil c.journal;
          replied = none;
          ends = λ y. ends_after k e s x c at leaves there (ones skew greatest k c s at h) y
              ∙ q.sent (world.without_taken e (ends_in c)) y ∙ untaken y;
        }) decided clock now)
        (sent_addressed k x.out.send (without_question k e c.lines) due (taken_addressed k e c.lines h.addressed))

  -- ## What moves

  -- a file goes, or none goes that is it
  is_removal : (id : List ℕ) (x : Effect) → (RemoveNode id ≡ x) ⊎ (RemoveNode id ≡ x → ⊥)
  is_removal id (RemoveNode f) = elim (either_file id f) as (λ _. (RemoveNode id ≡ RemoveNode f) ⊎ (RemoveNode id ≡ RemoveNode f → ⊥)) [
    | inl same ↦ inl (ap RemoveNode same)
    | inr off ↦ inr (λ same. let is : id ≡ f = cc in off is)
  ]
  is_removal id (SetChild d n to) = inr (λ same. absurd (cc same))
  is_removal id (SetParent f d n) = inr (λ same. absurd (cc same))
  is_removal id (NewNode f a d n) = inr (λ same. absurd (cc same))
  is_removal id (AddHandle f a b d) = inr (λ same. absurd (cc same))
  is_removal id (RemoveHandle f a b) = inr (λ same. absurd (cc same))
  is_removal id (SetInfo f a b) = inr (λ same. absurd (cc same))

  removed_or : (id : List ℕ) (es : List Effect) → In (RemoveNode id) es ⊎ (In (RemoveNode id) es → ⊥)
  removed_or id [] = inr (λ i. i)
  removed_or id (x ∷ xs) =
      let rest = removed_or id xs in
      elim (is_removal id x) as (λ _. In (RemoveNode id) (x ∷ xs) ⊎ (In (RemoveNode id) (x ∷ xs) → ⊥)) [
        | inl same ↦ inl (inl same)
        | inr off ↦ elim rest as (λ _. In (RemoveNode id) (x ∷ xs) ⊎ (In (RemoveNode id) (x ∷ xs) → ⊥)) [
          | inl i ↦ inl (inr i)
          | inr none ↦ inr (λ i. elim i as (λ _. ⊥) [ inl same ↦ off same | inr j ↦ none j ])
        ]
      ]

  abbrev es : List Effect
  es = effects_in (decided_in c)

  lives_made : LivesMade (records_in c) c.journal
  lives_made id kind e = elim (removed_or id es) as (λ _. IsMade c.journal id) [
    | inl i ↦ (going_of (decided_in c) (with_all s c) c.journal now.1.all id i).1.1.file
    | inr stays ↦ ap (λ (o : Option Kind). is_some o) (now.0.all.kept.made id kind
        (kind_held (records_in c) es id (all_decided (decided_in c) (with_all s c) c.journal now.1.all) stays ∙ e))
  ]

  pub move_event : (prefix : List ℕ) (to : ℕ) → IsThere k (event.Move prefix to) c
      → ClusterHolds skew greatest (after_step k (event.Move prefix to) (event_step (event.Move prefix to) s) c)
  move_event prefix to there =
      let e : ServerEvent = event.Move prefix to in
      let same = move_same k c s prefix to at h.places in
      moved_stands e there (event_step e s) (move_quiet (length c.servers) s (refusal_here prefix to s) prefix to (h.places.named s here) peers)
      (event_leaves k s c e there tt tt) refl (λ y. refl) same.0 same.1
      (moved_places k c s prefix to at h.places peers now.1.all.records lives_made there)
      (answers_due e tt there)

  -- ## A parcel that comes

  parcel_unlocked : (from : ℕ) (p : Parcel) → IsThere k (event.FromPeer from (peer.Parcel p)) c → (r : Row) → In r p.rows → r.lock ≡ None
  parcel_unlocked from p there = (h.places.sent p
      (In-filter_map (λ (f : InFlight). parcel_in f.message) (record { from = from; to = k; message = peer.Parcel p }) p c.in_flight
      (found (is_between from k) c.in_flight (record { from = from; to = k; message = peer.Parcel p }) there).0 refl)).unlocked

  -- it fits
  pub parcel_fits : (from : ℕ) (p : Parcel) → IsThere k (event.FromPeer from (peer.Parcel p)) c → fits_here p s ≡ true
  parcel_fits from p there =
      let stand : RowsStand (count_with s.me s.given (counts_of c.servers).given) (records_in c) (rows_in c) = record {
        apart = now.0.all.servers.apart;
        promises = subst (λ (f : Selves). KeptPromises f (rows_in c))
            (fun_ext (selves_alike (decided_in c) (with_all s c) c.journal now.1.all)) now.0.all.servers.promises;
        counted = now.0.all.kept.counted;
        given = now.0.all.kept.given;
      } in
      parcel_stands k from c s p at h.places there (counts_of c.servers) stand

  pub parcel_event : (from : ℕ) (p : Parcel) → IsThere k (event.FromPeer from (peer.Parcel p)) c
      → ClusterHolds skew greatest
      (after_step k (event.FromPeer from (peer.Parcel p)) (event_step (event.FromPeer from (peer.Parcel p)) s) c)
  parcel_event from p there =
      let e : ServerEvent = event.FromPeer from (peer.Parcel p) in
      let x : Stepped = only_noted (note.Installs p.prefix) (installed p s) in
      let is : x ≡ event_step e s = ap (λ b. parcel_at b p s) (sym (parcel_fits from p there)) in
      let same = arriving_same k from c s p at h.places there in
      subst (λ (y : Stepped). ClusterHolds skew greatest (after_step k e y c)) is
      (moved_stands e there x (install_quiet (length c.servers) s p peers)
      (subst (λ (y : Stepped). LeavesLed k e s y c) (sym is) (event_leaves k s c e there refl (parcel_unlocked from p there)))
      refl (λ y. refl) same.0 same.1 (arriving_places k from c s p at h.places there)
      (subst (λ (y : Stepped). AreDue k y.out.send (λ z. asked_server (without_question k e c.lines z).client.exchange)) (sym is)
      (answers_due e refl there)))

  -- ## A message of path leases

  path_none : (from : ℕ) (m : PeerMsg) → IsPathMessage m → (items : List Item) (replied : Session → List Item)
      → replies_after (event.FromPeer from m) items replied ≡ replied
  path_none from (peer.Vote m) is items replied = absurd is
  path_none from m is items replied = refl

  path_free : (from : ℕ) (m : PeerMsg) → IsPathMessage m → IsUnlocked (event.FromPeer from m) s
  path_free from (peer.Parcel p) is = absurd is
  path_free from m is = tt

  path_untaken : (from : ℕ) (m : PeerMsg) → IsPathMessage m → (y : Session)
      → world.without_taken (event.FromPeer from m) (ends_in c) y ≡ ends_in c y
  path_untaken from m is y = refl

  -- all rows and records are as they were
  pub path_same : (from : ℕ) (m : PeerMsg) → IsPathMessage m → IsThere k (event.FromPeer from m) c
      → (rows_in (after_step k (event.FromPeer from m) (peer_step from m s) c) ≡ rows_in c)
      × (records_in (after_step k (event.FromPeer from m) (peer_step from m s) c) ≡ records_in c)
  path_same from m is there =
      let e : ServerEvent = event.FromPeer from m in
      let f : InFlight = record { from = from; to = k; message = m } in
      let still = word_taken (is_between from k) c.in_flight f there (no_parcel m is) in
      each_message (λ (x : Stepped). (rows_in (after_step k e x c) ≡ rows_in c) × (records_in (after_step k e x c) ≡ records_in c)) s
      (λ n ms paths asking given noted sent. quiet_same k c s at e still n ms paths asking given sent) from m is

  pub path_event : (from : ℕ) (m : PeerMsg) → IsPathMessage m → IsThere k (event.FromPeer from m) c
      → ClusterHolds skew greatest (after_step k (event.FromPeer from m) (event_step (event.FromPeer from m) s) c)
  path_event from m is there =
      let e : ServerEvent = event.FromPeer from m in
      let f : InFlight = record { from = from; to = k; message = m } in
      let goes = h.places.goes f (found (is_between from k) c.in_flight f there).0 in
      let its : AreNamed (length c.servers) (peer_step from m s) =
      message_named (length c.servers) s (h.places.named s here) peers from m goes.from goes.names is in
      let still : parcels_of (without_first (is_between from k) c.in_flight) ≡ parcels_of c.in_flight =
      word_taken (is_between from k) c.in_flight f there (no_parcel m is) in
      let none : word_in m ≡ None = no_word m is in
      let same = path_same from m is there in
      let placed = each_message (λ (x : Stepped). AreWords (length c.servers) x.out.send → PlacesHold (after_step k e x c)) s
      (λ n ms paths asking given noted sent words. quiet_places k c s at e still n ms paths asking given h.places
      (λ z i. In_without (is_between from k) c.in_flight z i) words) from m is its.words in
      moved_stands e there (peer_step from m s) (message_quiet (length c.servers) s from m is its.peers)
      (event_leaves k s c e there none (path_free from m is)) (path_none from m is (peer_step from m s).out.admitted c.replied)
      (path_untaken from m is) same.0 same.1 placed (answers_due e none there)

  -- ## Messages of path leases are sent, and what it has of paths alone changes

  -- all rows and records are as they were
  pub sends_same : (n : ServerNote) (ms : List (Peer × Msg)) (paths : PathTables) (asking : List (List ℕ)) (given : ℕ) → ArePathSends ms
      → (rows_in (after_step k event.Turn (path_stepped n ms paths asking given s) c) ≡ rows_in c)
      × (records_in (after_step k event.Turn (path_stepped n ms paths asking given s) c) ≡ records_in c)
  sends_same n ms paths asking given sent = quiet_same k c s at event.Turn refl n ms paths asking given sent

  pub sends_stand : (n : ServerNote) (ms : List (Peer × Msg)) (paths : PathTables) (asking : List (List ℕ)) (given : ℕ) → IsPathNote n
      → ArePathSends ms → AreWords (length c.servers) ms → HasPeers (length c.servers) paths
      → ClusterHolds skew greatest (after_step k event.Turn (path_stepped n ms paths asking given s) c)
  sends_stand n ms paths asking given noted sent words peers_then =
      let same = sends_same n ms paths asking given sent in
      moved_stands event.Turn tt (path_stepped n ms paths asking given s)
      (path_quiet (length c.servers) s n ms paths asking given noted sent peers_then)
      (quiet_leaves k s c event.Turn n ms paths asking given sent refl) refl (λ y. refl) same.0 same.1
      (quiet_places k c s at event.Turn refl n ms paths asking given h.places (λ f i. i) words)
      (λ to a i recall. absurd (sent_path ms sent (OfSession to, msg.Answer a) i))

  -- ## What stays of transactions

  unlocked_by : (e : ServerEvent) → IsThere k e c → IsNoneOfLed e → IsUnlocked e s
  unlocked_by (event.FromClient by m) there none = unlocked by m there
  unlocked_by (event.FromPeer from (peer.Parcel p)) there none = parcel_unlocked from p there
  unlocked_by (event.FromPeer from (peer.Prepare m)) there none = tt
  unlocked_by (event.FromPeer from (peer.Vote m)) there none = tt
  unlocked_by (event.FromPeer from (peer.Decide m)) there none = tt
  unlocked_by (event.FromPeer from (peer.Done m)) there none = tt
  unlocked_by (event.FromPeer from m) there none = tt
  unlocked_by event.Turn there none = tt
  unlocked_by (event.Recall field) there none = tt
  unlocked_by (event.Move prefix to) there none = tt

  pub other_leaves : (e : ServerEvent) → IsThere k e c → IsNoneOfLed e → LeavesLed k e s (event_step e s) c
  other_leaves e there none = event_leaves k s c e there none (unlocked_by e there none)

  -- ## All of them

  by_peer : (from : ℕ) (m : PeerMsg) → IsThere k (event.FromPeer from m) c → word_in m ≡ None
      → ClusterHolds skew greatest (after_step k (event.FromPeer from m) (event_step (event.FromPeer from m) s) c)
  by_peer from (peer.Parcel p) there none = parcel_event from p there
  by_peer from (peer.Prepare m) there none = absurd (cc none)
  by_peer from (peer.Vote m) there none = absurd (cc none)
  by_peer from (peer.Decide m) there none = absurd (cc none)
  by_peer from (peer.Done m) there none = absurd (cc none)
  by_peer from m there none = path_event from m tt there

  by_client : (by : Session) (m : ClientMsg) → IsThere k (event.FromClient by m) c → IsNoneOfLed (event.FromClient by m)
      → ClusterHolds skew greatest (after_step k (event.FromClient by m) (event_step (event.FromClient by m) s) c)
  by_client by (Lead m) there none = absurd none
  by_client by (Ask items dir) there none = asked_event by (Ask items dir) tt there
  by_client by (Renew pairs) there none = asked_event by (Renew pairs) tt there
  by_client by (Release pairs) there none = asked_event by (Release pairs) tt there
  by_client by (Ship entries) there none = asked_event by (Ship entries) tt there

  pub other_event : (e : ServerEvent) → IsThere k e c → IsNoneOfLed e → ClusterHolds skew greatest (after_step k e (event_step e s) c)
  other_event (event.FromClient by m) there none = by_client by m there none
  other_event (event.FromPeer from m) there none = by_peer from m there none
  other_event event.Turn there none = turn_event
  other_event (event.Recall field) there none = recall_event field
  other_event (event.Move prefix to) there none = move_event prefix to there
