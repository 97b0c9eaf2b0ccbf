-- Every event of a transaction keeps all that holds of the cluster: the event in which the last vote is counted is one in which it
-- waits, and then it is decided.
use Rattle.std.proofs.Common.{◌≡◌, ℕ, Bool, true, false, not, List, [], ◌∷◌}
use Rattle.std.proofs.Common.{◌++◌, cond, refl, sym, ap, ap₂, ◌∙◌, subst, append-nil, append_assoc}
use Rattle.std.specs.Prelude.{Some, length, slice_get, slice_set, Option}
use Rattle.std.proofs.lemmas.List.Elements.{filter-append}
use Rattle.fs_ident.specs.In.{In}
use Rattle.fs_ident.specs.declared.actor.Peer.{Peer}
use Rattle.fs_ident.specs.declared.actor.Peer.TheVariants.{Client as OfSession}
use Rattle.fs_ident.specs.declared.actor.Session.{Session}
use Rattle.fs_ident.specs.declared.actor.TxnNo.{TxnNo}
use Rattle.fs_ident.proofs.Passing.{found}
use Rattle.fs_ident.proofs.Standing.{In-got}
use Rattle.fs_field.specs.Table.{same_txn}
use Rattle.fs_field.specs.declared.vote.Vote.{Vote}
use Rattle.fs_field.specs.declared.vote.Vote.TheVariants as vote
use Rattle.fs_field.specs.declared.path.PathAnswer.{PathAnswer}
use Rattle.fs_msg.specs.declared.decide.Decide.{Decide as DecideMsg}
use Rattle.fs_msg.specs.declared.item.Item.{Item}
use Rattle.fs_msg.specs.declared.msg.Msg.{Msg}
use Rattle.fs_msg.specs.declared.msg.Msg.TheVariants as msg
use Rattle.fs_msg.specs.declared.peer_msg.PeerMsg.{PeerMsg}
use Rattle.fs_msg.specs.declared.peer_msg.PeerMsg.TheVariants as peer
use Rattle.fs_msg.specs.declared.prepare.Prepare.{Prepare as PrepareMsg}
use Rattle.fs_msg.specs.declared.server_note.ServerNote.{ServerNote}
use Rattle.fs_server.specs.Concludes.{concludes, goes_on, waits}
use Rattle.fs_server.specs.Follows.{after_decision, after_vote, applies, decide_step, prepare_step, ready_of, recalls_for, to_server, vote_here}
use Rattle.fs_server.specs.LeadingLaws.{CommitSplits}
use Rattle.fs_server.specs.Server.{Stepped}
use Rattle.fs_server.specs.declared.event.ServerEvent.{ServerEvent}
use Rattle.fs_server.specs.declared.event.ServerEvent.TheVariants as event
use Rattle.fs_server.specs.declared.state.Server.{Server}
use Rattle.fs_txn.specs.Leading.{with_leading, without_leading}
use Rattle.fs_txn.specs.Ready.{is_awaited, without_prepared}
use Rattle.fs_txn.specs.Votes.{is_full}
use Rattle.fs_txn.specs.declared.leading.Leading.{Leading}
use Rattle.fs_txn.specs.declared.ready.Ready.{Ready}
use Rattle.fs_txn.proofs.Keys.{txn_itself}
use Rattle.fs_serial.specs.Cluster.{Cluster, InFlight, IsThere, Lines, after_step, in_flight_from, with_items}
use Rattle.fs_serial.specs.Cluster.{is_between, with_answer, with_sent, without_arrived, without_first, without_question}
use Rattle.fs_serial.specs.Conclusions.{TellsCycles, TellsItems, after_concluded}
use Rattle.fs_serial.specs.Leading.{LedHolds}
use Rattle.fs_serial.specs.Owed.{ends_with}
use Rattle.fs_serial.specs.Seen.{ClusterHolds, IsAddressed}
use Rattle.fs_serial.proofs.DecidedEffects.DecideSeen.{decide_stands}
use Rattle.fs_serial.proofs.Transactions.SeenMeanwhile.{ends_same}
use Rattle.fs_serial.proofs.Lists.SetAt.{In_without, get_here, set_twice}
use Rattle.fs_serial.proofs.Moves.KeptPaths.{kept_alike, left_alike, peers_still, same_paths}
use Rattle.fs_serial.proofs.Moves.PathPeers.{recalls_for_named}
use Rattle.fs_serial.proofs.Transactions.AwaitedWords.{decide_awaited, prepare_awaited}
use Rattle.fs_serial.proofs.Transactions.DecisionPlaces.{decided_places}
use Rattle.fs_serial.proofs.Transactions.PlacesAfter.{both_words, locked_so, one_word, relocked_not, vote_names, word_taken}
use Rattle.fs_serial.proofs.Transactions.Recalled.{recalls_answer_nothing, recalls_decide_nothing, recalls_hand_nothing}
use Rattle.fs_serial.proofs.Lists.Traffic.{sent_append}
use Rattle.fs_serial.proofs.Transactions.StandsAfter.{all_stand}
use Rattle.fs_serial.proofs.Transactions.Tables.{leading_set}
use Rattle.fs_serial.proofs.WholeRuns.LedDecisions.{decision_keeps}
use Rattle.fs_serial.proofs.WholeRuns.LedKept.{all_keep_led}
use Rattle.fs_serial.proofs.WholeRuns.LedWorlds.{OnlyRows, quiet_stands, undecided_taken}

-- ## It waits, and is decided then

sent_both : (k : ℕ) (xs ys : List (Peer × Msg)) (lines : Session → Lines)
    → with_sent k (xs ++ ys) lines ≡ with_sent k ys (with_sent k xs lines)
sent_both k [] ys lines = refl
sent_both k ((OfSession to, msg.Answer a) ∷ rest) ys lines = sent_both k rest ys (with_answer k to a lines)
sent_both k (m ∷ rest) ys lines = sent_both k rest ys lines

-- leaving one out twice leaves it out
left_twice : (txn : TxnNo) (xs : List Leading) → without_leading txn (without_leading txn xs) ≡ without_leading txn xs
left_twice txn [] = refl
left_twice txn (x ∷ xs) = at (same_txn x.leader.txn txn) refl (left_twice txn xs)
  where
    at : (b : Bool) → same_txn x.leader.txn txn ≡ b → without_leading txn (without_leading txn xs) ≡ without_leading txn xs
        → without_leading txn (cond (not b) (x ∷ without_leading txn xs) (without_leading txn xs))
        ≡ cond (not b) (x ∷ without_leading txn xs) (without_leading txn xs)
    at true e rest = rest
    at false e rest = ap (λ b.
        cond (not b) (x ∷ without_leading txn (without_leading txn xs)) (without_leading txn (without_leading txn xs))) e
        ∙ ap (λ xs. x ∷ xs) rest

left_again : (l : Leading) (xs : List Leading) → without_leading l.leader.txn (with_leading l xs) ≡ without_leading l.leader.txn xs
left_again l xs =
    filter-append (λ (x : Leading). not (same_txn x.leader.txn l.leader.txn)) (without_leading l.leader.txn xs) (l ∷ [])
    ∙ ap₂ (λ (ys zs : List Leading). ys ++ zs) (left_twice l.leader.txn xs) (ap (λ b. cond (not b) (l ∷ []) []) (txn_itself l.leader.txn))
    ∙ append-nil (without_leading l.leader.txn xs)

module _ (skew greatest k : ℕ) (c : Cluster) (s : Server) (at : slice_get c.servers k ≡ Some s) (e : ServerEvent) (tells : TellsItems e)
    (splits : CommitSplits) where
  module _ (n : ServerNote) (l : Leading) (path : Option PathAnswer) (sent : List (Peer × Msg)) (t : Server) where
    abbrev pub first : Stepped
    first = waits n l sent t

    abbrev pub behind : Cluster
    behind = after_step k e first c

    abbrev last : Stepped
    last = concludes l path [] first.server

    abbrev both : Stepped
    both = concludes l path sent t

    same_server : last.server ≡ both.server
    same_server = ap (λ (ls : List Leading). let z : Server = record (both.server) { leading = ls } in z) (left_again l t.leading)

    pub same_cluster : after_concluded k l path first.server behind ≡ after_step k e both c
    same_cluster = alike
        (set_twice c.servers k first.server last.server ∙ ap (slice_set c.servers k) same_server)
        (append_assoc (without_arrived k e c.in_flight) (in_flight_from k sent) (in_flight_from k last.out.send)
        ∙ ap (λ fs. without_arrived k e c.in_flight ++ fs) (sym (sent_append k sent last.out.send)))
        (ap (λ is. is ++ last.out.admitted) (append-nil c.journal))
        (ap (with_items last.out.admitted) (tells [] c.replied) ∙ sym (tells both.out.admitted c.replied))
        (sym (sent_both k sent last.out.send (without_question k e c.lines)))
      where
        cluster : List Server → List InFlight → List Item → (Session → List Item) → (Session → Lines) → Cluster
        cluster ss fs is rs ls = record { servers = ss; in_flight = fs; journal = is; replied = rs; lines = ls }

        alike : {a b : Cluster} → a.servers ≡ b.servers → a.in_flight ≡ b.in_flight → a.journal ≡ b.journal → a.replied ≡ b.replied
            → a.lines ≡ b.lines → a ≡ b
        alike {a = a} {b = b} ss fs is rs ls =
            ap (λ x. cluster x a.in_flight a.journal a.replied a.lines) ss
            ∙ ap (λ x. cluster b.servers x a.journal a.replied a.lines) fs
            ∙ ap (λ x. cluster b.servers b.in_flight x a.replied a.lines) is
            ∙ ap (λ x. cluster b.servers b.in_flight b.journal x a.lines) rs
            ∙ ap (λ x. cluster b.servers b.in_flight b.journal b.replied x) ls

    pub goes_on_keeps : ClusterHolds skew greatest behind → TellsCycles behind l path
        → ClusterHolds skew greatest (after_step k e (goes_on n l path sent t) c)
    goes_on_keeps h tell = by (is_full l.leader.votes) refl
      where
        by : (b : Bool) → is_full l.leader.votes ≡ b → ClusterHolds skew greatest (after_step k e (cond b both first) c)
        by true full =
            subst (ClusterHolds skew greatest) same_cluster
            (decision_keeps skew greatest k behind first.server l path (get_here c.servers k s first.server at) h tell
            (leading_set l t.leading) full splits)
        by false full = h

-- ## A word comes

unchanged : (s : Server) → OnlyRows s s
unchanged s = record {
  me = refl;
  map = refl;
  skew = refl;
  last = refl;
  given = refl;
  reaps = refl;
  records = refl;
  paths = same_paths s.paths s.paths refl;
  ending = refl;
  rows = relocked_not s.rows;
}

pub voted_rows : (v : Vote) (x : Ready) (s : Server) → OnlyRows s (after_vote v x s)
voted_rows vote.Yes x s = record {
  me = refl;
  map = refl;
  skew = refl;
  last = refl;
  given = refl;
  reaps = refl;
  records = refl;
  paths = kept_alike x.txn x.part.freeze s.paths;
  ending = refl;
  rows = locked_so x.txn x.part.uses s.rows;
}
voted_rows (vote.Ended l u n) x s = unchanged s
voted_rows (vote.Moved p to) x s = unchanged s
voted_rows (vote.PathsOut n) x s = unchanged s

pub voted_leading : (v : Vote) (x : Ready) (s : Server) → (after_vote v x s).leading ≡ s.leading
voted_leading vote.Yes x s = refl
voted_leading (vote.Ended l u n) x s = refl
voted_leading (vote.Moved p to) x s = refl
voted_leading (vote.PathsOut n) x s = refl

module _ (skew greatest k : ℕ) (c : Cluster) (s : Server) (at : slice_get c.servers k ≡ Some s) (h : ClusterHolds skew greatest c) where
  here : In s c.servers
  here = In-got c.servers k s at

  me : s.me ≡ k
  me = h.places.numbered k s at

  pub prepare_event : (from : ℕ) (m : PrepareMsg) → IsThere k (event.FromPeer from (peer.Prepare m)) c
      → ClusterHolds skew greatest (after_step k (event.FromPeer from (peer.Prepare m)) (prepare_step from m s) c)
  prepare_event from m comes =
      let v : Vote = vote_here s m.session m.part in
      let x : Ready = ready_of m in
      let t : Server = after_vote v x s in
      let is : InFlight → Bool = is_between from k in
      let left : List InFlight = without_first is c.in_flight in
      let f : InFlight = record { from = from; to = k; message = peer.Prepare m } in
      let answer : PeerMsg = peer.Vote (record { txn = m.txn; number = m.number; vote = v }) in
      let vote : List (Peer × Msg) = to_server from answer ∷ [] in
      let back : List (Peer × Msg) = recalls_for v s m.part in
      let still = recalls_answer_nothing k v s m.part c.lines in
      let same = prepare_awaited k from c s at h.led m comes in
      subst (λ z. ClusterHolds skew greatest (after_step k (event.FromPeer from (peer.Prepare m)) z c)) (sym same)
      (quiet_stands skew greatest k c s t at h left (vote ++ back) (with_sent k back c.lines) (record {
        rows = voted_rows v x s;
        parcels = word_taken is c.in_flight f comes refl;
        decided = undecided_taken c.servers is c.in_flight f comes refl;
        among = λ z i. In_without is c.in_flight z i;
        words = both_words (length c.servers) vote back
            (one_word (length c.servers) from answer (record {
              there = (h.places.goes f (found is c.in_flight f comes).0).from;
              names = vote_names (length c.servers) s m.session m.part (h.places.named s here);
              word = refl;
            }))
            (recalls_for_named (length c.servers) s (h.places.named s here) (h.peers s here) v m.part);
        none = recalls_hand_nothing k v s m.part;
        undecided = λ ss. recalls_decide_nothing ss k v s m.part;
        ends = λ y. ap (λ ls. ends_with y (slice_set c.servers k t) (ls y)) still
            ∙ ends_same c.servers k s t at (voted_leading v x s) (voted_rows v x s).ending y (c.lines y);
        addressed = subst (λ ls. (x : Session) → IsAddressed (ls x)) (sym still) h.addressed;
      })
      (subst (λ z. LedHolds (after_step k (event.FromPeer from (peer.Prepare m)) z c)) same
      ((all_keep_led skew greatest k c s at h).prepared from m comes)))

  pub decide_event : (from : ℕ) (m : DecideMsg) → IsThere k (event.FromPeer from (peer.Decide m)) c
      → ClusterHolds skew greatest (after_step k (event.FromPeer from (peer.Decide m)) (decide_step from m s) c)
  decide_event from m comes =
      let same = decide_awaited k from c s at h.led m comes in
      let led = subst (λ z. LedHolds (after_step k (event.FromPeer from (peer.Decide m)) z c)) same
      ((all_keep_led skew greatest k c s at h).decided from m comes) in
      subst (λ z. ClusterHolds skew greatest (after_step k (event.FromPeer from (peer.Decide m)) z c)) (sym same)
      (all_stand skew greatest k c s at h (after_step k (event.FromPeer from (peer.Decide m)) (applies from m s) c)
      (after_decision m s) refl refl (h.parts s here).0.clock (decided_places k c s at h.places h.led from m comes)
      (peers_still (length c.servers) s.paths (after_decision m s).paths
      (left_alike (is_awaited m.txn (without_prepared m.txn m.number s.prepared)) m.txn s.paths)) led
      (decide_stands k from skew greatest c s at h m comes led) h.addressed)
