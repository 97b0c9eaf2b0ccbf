-- A session asks for an operation to be led, and it is led or put off: all that holds of the cluster stays.
use Rattle.std.proofs.Common.{◌≡◌, ◌<◌, ◌+◌, ℕ, true, false, List, [], ◌∷◌, ◌++◌, refl, sym, ap, ◌∙◌, subst}
use Rattle.std.specs.Prelude.{Option, Some, length, slice_get, slice_set, ◌≢◌}
use Rattle.std.proofs.Common.{ap₂}
use Rattle.std.proofs.lemmas.Grind.{flat_map-append}
use Rattle.fs_ident.specs.declared.actor.Peer.{Peer}
use Rattle.fs_ident.specs.declared.actor.Session.{Session}
use Rattle.fs_ident.specs.declared.actor.TxnNo.{TxnNo}
use Rattle.fs_ident.specs.declared.kind.Kind.TheVariants.{Dir}
use Rattle.fs_ident.proofs.Standing.{In-got}
use Rattle.fs_field.specs.declared.row.Row.{Row}
use Rattle.fs_field.specs.declared.used.Part.{Part}
use Rattle.fs_field.specs.declared.path.PathAnswer.{PathAnswer}
use Rattle.fs_map.specs.Map.{server_of}
use Rattle.fs_model.specs.Asking.{home_of}
use Rattle.fs_msg.specs.declared.client_msg.ClientMsg.TheVariants.{Lead}
use Rattle.fs_msg.specs.declared.lead.Lead.{Lead as ToLead}
use Rattle.fs_msg.specs.declared.msg.Msg.{Msg}
use Rattle.fs_msg.specs.declared.server_note.ServerNote.TheVariants as note
use Rattle.fs_path.specs.Tables.{PathTables}
use Rattle.fs_record.specs.declared.led_end.Why.{Why}
use Rattle.fs_record.specs.declared.led_end.Why.TheVariants as why
use Rattle.fs_server.specs.Begins.{Round, first_round, leader_with, part_round, parts_in, round_of, rounds, txn_of}
use Rattle.fs_server.specs.Counts.{after_own_vote, ask_for}
use Rattle.fs_server.specs.Follows.{recalls_for, to_server, vote_here}
use Rattle.fs_server.specs.LeadingLaws.{CommitSplits}
use Rattle.fs_server.specs.Leads.{is_led, lead_step, refuses}
use Rattle.fs_server.specs.Laws.{BeginsIn}
use Rattle.fs_server.specs.Concludes.{path_for, waits}
use Rattle.fs_server.specs.Server.{Stepped, is_mine}
use Rattle.fs_server.specs.declared.event.ServerEvent.{ServerEvent}
use Rattle.fs_server.specs.declared.event.ServerEvent.TheVariants as event
use Rattle.fs_server.specs.declared.state.Server.{Server}
use Rattle.fs_server.proofs.Leading.{LeadEnds, begun, kept, lead_ends, put_off, unled, wanted}
use Rattle.fs_txn.specs.Leading.{with_leading}
use Rattle.fs_txn.specs.declared.leading.Leading.{Leading}
use Rattle.fs_txn.specs.declared.mode.Mode2.{Mode2}
use Rattle.fs_serial.proofs.LedOperations.LedSteps.{led_stands, to_lead}
use Rattle.fs_serial.proofs.Transactions.SeenMeanwhile.{asked_up}
use Rattle.fs_serial.proofs.Transactions.StandsAfter.{ones, view}
use Rattle.fs_serial.specs.Cluster.{Cluster, InFlight, IsThere, Lines, after_step, in_flight_from, parcels_of, with_sent, without_question}
use Rattle.fs_serial.specs.Conclusions.{PathsTell, TellsCycles}
use Rattle.fs_field.specs.declared.vote.Vote.{Vote}
use Rattle.fs_record.specs.declared.parcel.Parcel.{Parcel}
use Rattle.fs_txn.specs.Grants.{Decided}
use Rattle.fs_serial.specs.Decided.{WorldStands}
use Rattle.fs_serial.specs.Fresh.{made}
use Rattle.fs_serial.specs.Led.{LedStands}
use Rattle.fs_serial.specs.Leading.{LedHolds}
use Rattle.fs_serial.specs.Owed.{ends_with, ends_in}
use Rattle.fs_serial.specs.Seen.{ClusterHolds, HasPeers, IsAddressed, world_of}
use Rattle.fs_serial.specs.Words.{decided_among, decided_by}
use Rattle.fs_serial.proofs.Moves.KeptPaths.{SamePaths, peers_still, same_paths, then_same, voted_alike}
use Rattle.fs_serial.proofs.Moves.Parcels.{parcels-append}
use Rattle.fs_serial.proofs.Transactions.PlacesAfter.{AreRelocked, AreWords, both_words, no_words}
use Rattle.fs_serial.proofs.Transactions.PlacesAfter.{one_word, relocked_not, relocked_then, voted_so}
use Rattle.fs_serial.proofs.Transactions.PutOff.{put_off_keeps}
use Rattle.fs_serial.proofs.Moves.PathPeers.{recalls_for_named}
use Rattle.fs_serial.proofs.Paths.Wanted.{wanted_keeps}
use Rattle.fs_serial.proofs.Transactions.Recalled.{recalls_decide_nothing, recalls_hand_nothing}
use Rattle.fs_serial.proofs.Transactions.RoundsLocks.{round_by}
use Rattle.fs_serial.proofs.Lists.Traffic.{sent_append}
use Rattle.fs_serial.proofs.Transactions.RoundsStages.{rounds_lines, rounds_server}
use Rattle.fs_serial.proofs.Transactions.AwaitedWords.{goes_on_known}
use Rattle.fs_serial.proofs.WholeRuns.Addressing.{taken_addressed}
use Rattle.fs_serial.proofs.WholeRuns.LedEnds.{asked_then}
use Rattle.fs_serial.proofs.WholeRuns.LedEvents.{goes_on_keeps}
use Rattle.fs_serial.proofs.WholeRuns.LedKept.{all_keep_led, led_op}
use Rattle.fs_serial.proofs.WholeRuns.LedWorlds.{IsQuiet, quiet_stands, quiet_tells}
use Rattle.fs_serial.specs.World.{World, settled_at, sight_in}
use Rattle.fs_client.specs.declared.led.Led.{Led}

-- ## What the rounds send

-- words to other servers, none of which hands anything over or decides anything
abbrev pub IsAsking : ℕ → ℕ → List (Peer × Msg) → Type 0
IsAsking k servers ms =
    AreWords servers ms × ((parcels_of (in_flight_from k ms) ≡ []) × ((ss : List Server) → decided_among ss (in_flight_from k ms) ≡ []))

asks_both : (k servers : ℕ) (xs ys : List (Peer × Msg)) → IsAsking k servers xs → IsAsking k servers ys → IsAsking k servers (xs ++ ys)
asks_both k servers xs ys p q = (
  both_words servers xs ys p.0 q.0,
  (
    ap parcels_of (sent_append k xs ys) ∙ parcels-append (in_flight_from k xs) (in_flight_from k ys)
        ∙ ap₂ (λ (a b : List Parcel). a ++ b) p.1.0 q.1.0,
    λ ss. ap (decided_among ss) (sent_append k xs ys)
        ∙ flat_map-append (λ (g : InFlight). decided_by ss g.message) (in_flight_from k xs) (in_flight_from k ys)
        ∙ ap₂ (λ (a b : List Decided). a ++ b) (p.1.1 ss) (q.1.1 ss),
  ),
)

asks_more : (k servers to : ℕ) (txn : TxnNo) (number : ℕ) (by : Session) (p : Part) (ms : List (Peer × Msg)) → to < servers
    → IsAsking k servers ms → IsAsking k servers (ms ++ to_server to (ask_for txn number by p) ∷ [])
asks_more k servers to txn number by p ms below q =
    asks_both k servers ms (to_server to (ask_for txn number by p) ∷ []) q
    (one_word servers to (ask_for txn number by p) (record { there = below; names = tt; word = refl }), (refl, λ ss. refl))

-- where paths are in the way of a part of its own, these are asked back
rounds_ask : (k servers : ℕ) (txn : TxnNo) (number : ℕ) (by : Session) (ps : List Part) (r : Round)
    → ((id : List ℕ) → server_of r.server.map id < servers) → HasPeers servers r.server.paths → IsAsking k servers r.send
    → IsAsking k servers (rounds txn number by ps r).send
rounds_ask k servers txn number by [] r named peers q = q
rounds_ask k servers txn number by (p ∷ ps) r named peers q = rounds_ask k servers txn (number + 1) by ps (part_round txn number by p r)
    (elim (is_mine r.server p.file) as (λ b. (id : List ℕ) → server_of (round_by txn number by p r b).server.map id < servers) [
      | true ↦ named
      | false ↦ named
    ])
    (elim (is_mine r.server p.file) as (λ b. HasPeers servers (round_by txn number by p r b).server.paths) [
      | true ↦ peers_still servers r.server.paths (after_own_vote txn p (vote_here r.server by p) r.server).paths
          (voted_alike (vote_here r.server by p) txn p.freeze r.server.paths) peers
      | false ↦ peers
    ])
    (elim (is_mine r.server p.file) as (λ b. IsAsking k servers (round_by txn number by p r b).send) [
      | true ↦
          let v : Vote = vote_here r.server by p in
          asks_both k servers r.send (recalls_for v r.server p) q (
            recalls_for_named servers r.server named peers v p,
            (recalls_hand_nothing k v r.server p, λ ss. recalls_decide_nothing ss k v r.server p),
          )
      | false ↦ asks_more k servers (server_of r.server.map p.file) txn number by p r.send (named p.file) q
    ])

-- path leases stay
pub rounds_paths : (txn : TxnNo) (number : ℕ) (by : Session) (ps : List Part) (r : Round) (old : PathTables) → SamePaths old r.server.paths
    → SamePaths old (rounds txn number by ps r).server.paths
rounds_paths txn number by [] r old q = q
rounds_paths txn number by (p ∷ ps) r old q = rounds_paths txn (number + 1) by ps (part_round txn number by p r) old
    (elim (is_mine r.server p.file) as (λ b. SamePaths old (round_by txn number by p r b).server.paths) [
      | true ↦ then_same q (voted_alike (vote_here r.server by p) txn p.freeze r.server.paths)
      | false ↦ q
    ])

pub rounds_relock : (txn : TxnNo) (number : ℕ) (by : Session) (ps : List Part) (r : Round) (rows : List Row) → AreRelocked rows r.server.rows
    → AreRelocked rows (rounds txn number by ps r).server.rows
rounds_relock txn number by [] r rows q = q
rounds_relock txn number by (p ∷ ps) r rows q = rounds_relock txn (number + 1) by ps (part_round txn number by p r) rows
    (elim (is_mine r.server p.file) as (λ b. AreRelocked rows (round_by txn number by p r b).server.rows) [
      | true ↦ relocked_then rows r.server.rows _ q (voted_so (vote_here r.server by p) txn p.uses r.server.rows)
      | false ↦ q
    ])

-- ## The question

module _ (skew greatest k : ℕ) (c : Cluster) (s : Server) (at : slice_get c.servers k ≡ Some s) (h : ClusterHolds skew greatest c)
    (splits : CommitSplits) (by : Session) (m : ToLead) (comes : IsThere k (event.FromClient by (Lead m)) c) where
  abbrev pub e : ServerEvent
  e = event.FromClient by (Lead m)

  -- what is asked for is a delete or a rename
  pub led_there : is_led m.op ≡ true
  led_there =
      let w : World = world_of s c in
      let now : WorldStands greatest w = view skew greatest k c s at h in
      let up : (ends_in c by).up ≡ Lead m ∷ [] = asked_up k by (Lead m) c.servers c.lines comes (ones skew greatest k c s at h by) in
      let l : Led = (to_lead greatest w by m up now.0).led in
      let stands : LedStands s.skew greatest (sight_in w) by (settled_at by (w.ends by)) l = led_stands greatest w by m up now.0 in
      ap (λ (n : ToLead). is_led n.op) (to_lead greatest w by m up now.0).told ∙ led_op l.entry.op l.entry.reply stands.leads

  -- its home was made as a directory
  pub home_made : made c.journal (home_of m.op) ≡ Some Dir
  home_made =
      let w : World = world_of s c in
      let now : WorldStands greatest w = view skew greatest k c s at h in
      let up : (ends_in c by).up ≡ Lead m ∷ [] = asked_up k by (Lead m) c.servers c.lines comes (ones skew greatest k c s at h by) in
      ap (λ (n : ToLead). made c.journal (home_of n.op)) (to_lead greatest w by m up now.0).told ∙ (led_stands greatest w by m up now.0).home

  -- ## It begins

  module _ (mode : Mode2) where
    abbrev pub r : Round
    r = round_of mode by m s

    abbrev pub new : Leading
    new = record { leader = leader_with mode (txn_of s) by m r.votes; at = r.at }

    abbrev pub first : Stepped
    first = waits (note.Prepares (txn_of s)) new r.send r.server

    pub left : r.server ≡ (let z : Server = record s { txns = s.txns + 1; rows = r.server.rows; paths = r.server.paths } in z)
    left = rounds_server (txn_of s) 0 by (parts_in mode m) (first_round s)

    pub asks : IsAsking k (length c.servers) r.send
    asks = rounds_ask k (length c.servers) (txn_of s) 0 by (parts_in mode m) (first_round s) (h.places.named s (In-got c.servers k s at))
        (h.peers s (In-got c.servers k s at)) (no_words (length c.servers), (refl, λ ss. refl))

    still : with_sent k r.send (without_question k e c.lines) ≡ without_question k e c.lines
    still = rounds_lines k (txn_of s) 0 by (parts_in mode m) (first_round s) (without_question k e c.lines) refl

    quiet : IsQuiet skew greatest k c s first.server at h c.in_flight r.send (with_sent k r.send (without_question k e c.lines))
    quiet = record {
      rows = record {
        me = ap (λ (z : Server). z.me) left;
        map = ap (λ (z : Server). z.map) left;
        skew = ap (λ (z : Server). z.skew) left;
        last = ap (λ (z : Server). z.last) left;
        given = ap (λ (z : Server). z.given) left;
        reaps = ap (λ (z : Server). z.reaps) left;
        records = ap (λ (z : Server). z.records) left;
        paths = rounds_paths (txn_of s) 0 by (parts_in mode m) (first_round s) s.paths (same_paths s.paths s.paths refl);
        ending = ap (λ (z : Server). z.ending) left;
        rows = rounds_relock (txn_of s) 0 by (parts_in mode m) (first_round s) s.rows (relocked_not s.rows);
      };
      parcels = refl;
      decided = refl;
      among = λ f i. i;
      words = asks.0;
      none = asks.1.0;
      undecided = asks.1.1;
      ends = λ y. ap (λ ls. ends_with y (slice_set c.servers k first.server) (ls y)) still
          ∙ asked_then k skew greatest c s at h by m comes new refl refl first.server
          (ap (λ (z : Server). with_leading new z.leading) left) (ap (λ (z : Server). z.ending) left) y;
      addressed = subst (λ ls. (x : Session) → IsAddressed (ls x)) (sym still) (taken_addressed k e c.lines h.addressed);
    }

    pub begins : BeginsIn m s mode → ClusterHolds skew greatest (after_step k e first c)
        × ((path : Option PathAnswer) → TellsCycles c new path → TellsCycles (after_step k e first c) new path)
    begins b =
        let led : LedHolds (after_step k e first c) = (all_keep_led skew greatest k c s at h).begun by m comes mode b in
        let lines : Session → Lines = with_sent k r.send (without_question k e c.lines) in (
          quiet_stands skew greatest k c s first.server at h c.in_flight r.send lines quiet led,
          quiet_tells skew greatest k c s first.server at h c.in_flight r.send lines quiet led new,
        )

  -- ## However it ends

  refused : (w : Why) → ClusterHolds skew greatest (after_step k e (refuses by w s) c)
  refused w = put_off_keeps skew greatest k c s at h by m comes w

  by_end : PathsTell c → (x : Stepped) → LeadEnds by m s x → ClusterHolds skew greatest (after_step k e x c)
  by_end tell x (unled l) = let wrong : true ≡ false = sym led_there ∙ l in absurd (cc wrong)
  by_end tell x (put_off w l r) = refused w
  by_end tell x (wanted top dir l o) = wanted_keeps skew greatest k c s at h by m comes top dir
  by_end tell x (kept file txn l o) = refused (why.Frozen file txn)
  by_end tell x (begun mode l b) =
      goes_on_keeps skew greatest k c s at e (λ items replied. refl) splits (note.Prepares (txn_of s)) (new mode) (path_for mode m.op s)
      (r mode).send (r mode).server (begins mode b).0 ((begins mode b).1 (path_for mode m.op s) (tell k s (new mode) at))

  pub lead_event : PathsTell c → ClusterHolds skew greatest (after_step k e (lead_step by m s) c)
  lead_event tell = by_end tell (lead_step by m s) (lead_ends by m s)

  -- it is nothing strange
  noted : (x : Stepped) → LeadEnds by m s x → x.out.note ≢ note.Strange
  noted x (unled l) = let wrong : true ≡ false = sym led_there ∙ l in absurd (cc wrong)
  noted x (put_off w l r) = λ e. absurd (cc)
  noted x (wanted top dir l o) = λ e. absurd (cc)
  noted x (kept file txn l o) = λ e. absurd (cc)
  noted x (begun mode l b) =
      goes_on_known (note.Prepares (txn_of s)) (new mode) (path_for mode m.op s) (r mode).send (r mode).server (λ e. absurd (cc))

  pub lead_noted : (lead_step by m s).out.note ≢ note.Strange
  lead_noted = noted (lead_step by m s) (lead_ends by m s)
