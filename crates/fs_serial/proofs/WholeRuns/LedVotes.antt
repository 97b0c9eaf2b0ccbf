-- A vote is told, and what a session asks is led or put off: all that holds of the cluster stays.
use Rattle.std.proofs.Common.{◌≡◌, ◌<◌, ◌==◌, ℕ, Bool, true, false, List, [], ◌∷◌, cond, refl, sym, ap, ◌∙◌, subst}
use Rattle.std.specs.Prelude.{Some, length, slice_get, slice_set, Option}
use Rattle.fs_ident.specs.In.{In}
use Rattle.fs_ident.specs.declared.actor.Peer.{Peer}
use Rattle.fs_ident.specs.declared.actor.Session.{Session}
use Rattle.fs_ident.proofs.Standing.{In-got}
use Rattle.fs_field.specs.declared.row.Row.{Row}
use Rattle.fs_field.specs.declared.used.Part.{Part}
use Rattle.fs_field.specs.declared.vote.Vote.{Vote}
use Rattle.fs_field.specs.declared.vote.Vote.TheVariants as vote
use Rattle.fs_field.specs.declared.path.PathAnswer.{PathAnswer}
use Rattle.fs_map.specs.Map.{server_of}
use Rattle.fs_msg.specs.declared.msg.Msg.{Msg}
use Rattle.fs_msg.specs.declared.peer_msg.PeerMsg.TheVariants as peer
use Rattle.fs_msg.specs.declared.server_note.ServerNote.{ServerNote}
use Rattle.fs_msg.specs.declared.server_note.ServerNote.TheVariants as note
use Rattle.fs_msg.specs.declared.voted.Voted.{Voted as VotedMsg}
use Rattle.fs_server.specs.Concludes.{path_for, waits}
use Rattle.fs_server.specs.Counts.{after_own_vote, ask_for, asked_at, comes_home, counts}
use Rattle.fs_server.specs.Counts.{counts_own, seeks, sent_on, vote_step, voted, with_vote}
use Rattle.fs_path.specs.Tables.{PathTables}
use Rattle.fs_server.specs.Follows.{recalls_for, to_server, vote_here}
use Rattle.fs_server.specs.LeadingLaws.{CommitSplits}
use Rattle.fs_server.specs.Server.{is_mine}
use Rattle.fs_server.specs.declared.event.ServerEvent.{ServerEvent}
use Rattle.fs_server.specs.declared.event.ServerEvent.TheVariants as event
use Rattle.fs_server.specs.declared.state.Server.{Server}
use Rattle.fs_txn.specs.Leading.{with_leading}
use Rattle.fs_txn.specs.Votes.{Votes, is_moved, votes_after}
use Rattle.fs_txn.specs.declared.leading.Leading.{Leading}
use Rattle.fs_serial.specs.Cluster.{Cluster, InFlight, IsThere, after_step}
use Rattle.fs_serial.specs.Cluster.{in_flight_from, is_between, parcels_of, with_sent, without_first}
use Rattle.fs_serial.specs.Conclusions.{PathsTell, TellsCycles}
use Rattle.fs_serial.specs.Leading.{LedHolds}
use Rattle.fs_serial.specs.Owed.{ends_with}
use Rattle.fs_serial.specs.Places.{VoteNames}
use Rattle.fs_serial.specs.Seen.{ClusterHolds, IsAddressed}
use Rattle.fs_serial.specs.Words.{decided_among}
use Rattle.fs_serial.proofs.Lists.SetAt.{In_without}
use Rattle.fs_serial.proofs.Moves.KeptPaths.{SamePaths, same_paths, voted_alike}
use Rattle.fs_serial.proofs.Transactions.AwaitedWords.{IsAwaited, vote_awaited, vote_is}
use Rattle.fs_serial.proofs.Transactions.PlacesAfter.{AreRelocked, AreWords, names_there}
use Rattle.fs_serial.proofs.Transactions.PlacesAfter.{no_words, one_word, relocked_not, voted_so, word_taken}
use Rattle.fs_serial.proofs.Moves.PathPeers.{recalls_for_named}
use Rattle.fs_serial.proofs.Transactions.Recalled.{recalls_answer_nothing, recalls_decide_nothing, recalls_hand_nothing}
use Rattle.fs_serial.proofs.WholeRuns.LedEnds.{asked_still}
use Rattle.fs_serial.proofs.WholeRuns.LedEvents.{goes_on_keeps}
use Rattle.fs_serial.proofs.WholeRuns.LedKept.{all_keep_led}
use Rattle.fs_serial.proofs.WholeRuns.LedWorlds.{IsQuiet, quiet_stands, quiet_tells, undecided_taken}

module _ (skew greatest k : ℕ) (c : Cluster) (s : Server) (at : slice_get c.servers k ≡ Some s) (h : ClusterHolds skew greatest c)
    (splits : CommitSplits) (from : ℕ) (m : VotedMsg) (comes : IsThere k (event.FromPeer from (peer.Vote m)) c) where
  abbrev pub e : ServerEvent
  e = event.FromPeer from (peer.Vote m)

  abbrev f : InFlight
  f = record { from = from; to = k; message = peer.Vote m }

  here : In s c.servers
  here = In-got c.servers k s at

  pub q : IsAwaited s m
  q = vote_awaited k from c s at h.led m comes

  abbrev pub l : Leading
  l = q.leading

  -- as the event finds it
  abbrev pub path : Option PathAnswer
  path = path_for l.leader.mode l.leader.op s

  -- it waits then
  module _ (votes : Votes) (places : List ℕ) (rows : List Row) (relocked : AreRelocked s.rows rows) (paths : PathTables)
      (same : SamePaths s.paths paths) (n : ServerNote) (ms : List (Peer × Msg)) (words : AreWords (length c.servers) ms)
      (none : parcels_of (in_flight_from k ms) ≡ [])
      (undecided : (ss : List Server) → decided_among ss (in_flight_from k ms) ≡ []) (still : with_sent k ms c.lines ≡ c.lines) where
    abbrev new : Leading
    new = record { leader = record l.leader { votes = votes }; at = places }

    abbrev t : Server
    t = record s { rows = rows; leading = with_leading new s.leading; paths = paths }

    abbrev waiting : Cluster
    waiting = after_step k e (waits n new ms (record s { rows = rows; paths = paths })) c

    quiet : IsQuiet skew greatest k c s t at h (without_first (is_between from k) c.in_flight) ms (with_sent k ms c.lines)
    quiet = record {
      rows = record {
        me = refl;
        map = refl;
        skew = refl;
        last = refl;
        given = refl;
        reaps = refl;
        records = refl;
        paths = same;
        ending = refl;
        rows = relocked;
      };
      parcels = word_taken (is_between from k) c.in_flight f comes refl;
      decided = undecided_taken c.servers (is_between from k) c.in_flight f comes refl;
      among = λ z i. In_without (is_between from k) c.in_flight z i;
      words = words;
      none = none;
      undecided = undecided;
      ends = λ y. ap (λ ls. ends_with y (slice_set c.servers k t) (ls y)) still
          ∙ asked_still k skew greatest c s at h l q.among votes places t refl refl y;
      addressed = subst (λ ls. (x : Session) → IsAddressed (ls x)) (sym still) h.addressed;
    }

    waits_stands : LedHolds waiting → ClusterHolds skew greatest waiting × (PathsTell c → TellsCycles waiting new path)
    waits_stands led = (
      quiet_stands skew greatest k c s t at h (without_first (is_between from k) c.in_flight) ms (with_sent k ms c.lines) quiet led,
      λ tell. quiet_tells skew greatest k c s t at h (without_first (is_between from k) c.in_flight) ms (with_sent k ms c.lines) quiet led
          new path (tell k s l at),
    )

  -- a vote that is no move is counted
  pub counted_waits : is_moved m.vote ≡ false
      → let x : Cluster = after_step k e (waits (note.Waits l.leader.txn) (with_vote m.number m.vote l) [] s) c in
      ClusterHolds skew greatest x × (PathsTell c → TellsCycles x (with_vote m.number m.vote l) path)
  counted_waits stays =
      waits_stands (votes_after l.leader.votes m.number m.vote) l.at s.rows (relocked_not s.rows) s.paths (same_paths s.paths s.paths refl)
      (note.Waits l.leader.txn) [] (no_words (length c.servers)) refl (λ ss. refl) refl
      ((all_keep_led skew greatest k c s at h).counted from m comes l (note.Waits l.leader.txn) q.led q.awaited stays)

  counted : PathsTell c → is_moved m.vote ≡ false → ClusterHolds skew greatest (after_step k e (counts m.number m.vote l s) c)
  counted tell stays =
      goes_on_keeps skew greatest k c s at e (λ items replied. refl) splits (note.Waits l.leader.txn) (with_vote m.number m.vote l) path [] s
      (counted_waits stays).0 ((counted_waits stays).1 tell)

  module _ (p : Part) (part : slice_get l.leader.parts m.number ≡ Some p) (moved : is_moved m.vote ≡ true) where
    sought : (to : ℕ) → (to == s.me) ≡ false → to < length c.servers
        → ClusterHolds skew greatest (after_step k e (seeks m.number to p l s) c)
    sought to off below =
        (waits_stands l.leader.votes (slice_set l.at m.number to) s.rows (relocked_not s.rows) s.paths
        (same_paths s.paths s.paths refl) (note.Seeks l.leader.txn to)
        (to_server to (ask_for l.leader.txn m.number l.leader.session p) ∷ [])
        (one_word (length c.servers) to (ask_for l.leader.txn m.number l.leader.session p)
        (record { there = below; names = tt; word = refl })) refl (λ ss. refl) refl
        ((all_keep_led skew greatest k c s at h).sought from m comes l p to q.led q.awaited moved part off)).0

    abbrev pub own_vote : Vote
    own_vote = vote_here s l.leader.session p

    pub own_waits : is_mine s p.file ≡ true
        → let x : Cluster = after_step k e (waits (note.Waits l.leader.txn) (with_vote m.number own_vote (asked_at m.number s.me l))
        (recalls_for own_vote s p) (after_own_vote l.leader.txn p own_vote s)) c in
        ClusterHolds skew greatest x × (PathsTell c → TellsCycles x (with_vote m.number own_vote (asked_at m.number s.me l)) path)
    own_waits mine =
        let v : Vote = own_vote in
        waits_stands (votes_after l.leader.votes m.number v) (slice_set l.at m.number s.me)
        (after_own_vote l.leader.txn p v s).rows (voted_so v l.leader.txn p.uses s.rows)
        (after_own_vote l.leader.txn p v s).paths (voted_alike v l.leader.txn p.freeze s.paths) (note.Waits l.leader.txn)
        (recalls_for v s p)
        (recalls_for_named (length c.servers) s (h.places.named s here) (h.peers s here) v p)
        (recalls_hand_nothing k v s p) (λ ss. recalls_decide_nothing ss k v s p) (recalls_answer_nothing k v s p c.lines)
        ((all_keep_led skew greatest k c s at h).own from m comes l p (note.Waits l.leader.txn) q.led q.awaited moved part mine)

    own : PathsTell c → is_mine s p.file ≡ true
        → ClusterHolds skew greatest (after_step k e (counts_own m.number p (vote_here s l.leader.session p) l s) c)
    own tell mine =
        goes_on_keeps skew greatest k c s at e (λ items replied. refl) splits (note.Waits l.leader.txn)
        (with_vote m.number own_vote (asked_at m.number s.me l)) path (recalls_for own_vote s p) (after_own_vote l.leader.txn p own_vote s)
        (own_waits mine).0 ((own_waits mine).1 tell)

    home : PathsTell c → (b : Bool) → is_mine s p.file ≡ b → ClusterHolds skew greatest (after_step k e
        (cond b (counts_own m.number p (vote_here s l.leader.session p) l s) (seeks m.number (server_of s.map p.file) p l s)) c)
    home tell true mine = own tell mine
    home tell false off = sought (server_of s.map p.file) off (h.places.named s here p.file)

    sent : PathsTell c → (to : ℕ) → to < length c.servers → (b : Bool) → (to == s.me) ≡ b
        → ClusterHolds skew greatest (after_step k e (cond b (comes_home m.number p l s) (seeks m.number to p l s)) c)
    sent tell to below true is = home tell (is_mine s p.file) refl
    sent tell to below false off = sought to off below

  by_vote : PathsTell c → (v : Vote) → m.vote ≡ v → ClusterHolds skew greatest (after_step k e (voted m.number v l s) c)
  by_vote tell vote.Yes is =
      subst (λ v. ClusterHolds skew greatest (after_step k e (counts m.number v l s) c)) is (counted tell (ap is_moved is))
  by_vote tell (vote.Ended a b d) is =
      subst (λ v. ClusterHolds skew greatest (after_step k e (counts m.number v l s) c)) is (counted tell (ap is_moved is))
  by_vote tell (vote.PathsOut n) is =
      subst (λ v. ClusterHolds skew greatest (after_step k e (counts m.number v l s) c)) is (counted tell (ap is_moved is))
  by_vote tell (vote.Moved prefix to) is =
      let names : VoteNames (length c.servers) m.vote = names_there k from c (peer.Vote m) h.places comes in
      subst (λ o. ClusterHolds skew greatest (after_step k e (sent_on m.number to o l s) c)) (sym q.part)
      (sent q.wanted q.part (ap is_moved is) tell to (subst (VoteNames (length c.servers)) is names) (to == s.me) refl)

  pub vote_event : PathsTell c → ClusterHolds skew greatest (after_step k e (vote_step m s) c)
  vote_event tell =
      subst (λ x. ClusterHolds skew greatest (after_step k e x c)) (sym (vote_is k from c s at h.led m q)) (by_vote tell m.vote refl)
