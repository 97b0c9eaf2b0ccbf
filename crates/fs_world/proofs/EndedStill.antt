-- A lease that had ended where an operation is led has no row after what another server sent either.
use Rattle.std.proofs.Common.{◌≡◌, ℕ, ◌≤◌, max, true, false, List, [], ◌∷◌, ◌++◌, cond, refl, ap, ap₂, ◌∙◌, subst, arith}
use Rattle.std.specs.Prelude.{Option, None, Some, slice_get}
use Rattle.fs_ident.specs.declared.actor.LeaseNo.{LeaseNo}
use Rattle.fs_ident.specs.declared.actor.Peer.{Peer}
use Rattle.fs_ident.specs.declared.actor.Session.{Session}
use Rattle.fs_ident.specs.declared.actor.TxnNo.{TxnNo}
use Rattle.fs_field.specs.declared.path.PathAnswer.{PathAnswer}
use Rattle.fs_field.specs.declared.vote.Vote.{Vote as AVote}
use Rattle.fs_msg.specs.declared.msg.Msg.{Msg}
use Rattle.fs_msg.specs.declared.peer_msg.PeerMsg.{PeerMsg}
use Rattle.fs_msg.specs.declared.peer_msg.PeerMsg.TheVariants.{Parcel as OfParcel, Prepare, Vote, Decide, Done}
use Rattle.fs_msg.specs.declared.prepare.Prepare.{Prepare as ToPrepare}
use Rattle.fs_msg.specs.declared.decide.Decide.{Decide as ToDecide}
use Rattle.fs_msg.specs.declared.server_note.ServerNote.{ServerNote}
use Rattle.fs_msg.specs.declared.server_note.ServerNote.TheVariants as server_note
use Rattle.fs_record.specs.declared.led_end.LedEnd.{LedEnd}
use Rattle.fs_txn.specs.Deciding.{decision}
use Rattle.fs_txn.specs.Leading.{elsewhere, end_of_decision, without_done}
use Rattle.fs_txn.specs.Ready.{is_awaited, without_prepared}
use Rattle.fs_txn.specs.declared.decision.Decision.{Decision}
use Rattle.fs_txn.specs.declared.leading.Ending.{Ending}
use Rattle.fs_txn.specs.declared.leading.Leading.{Leading}
use Rattle.fs_client.specs.declared.state.Client.{Client}
use Rattle.fs_server.specs.Concludes.{ends_now, goes_on, keeps_for, path_for, tells}
use Rattle.fs_server.specs.Counts.{after_own_vote, asked_at, done_with, with_vote}
use Rattle.fs_server.specs.Follows.{applies, is_prepared, ready_of, recalls_for, vote_here, votes}
use Rattle.fs_server.specs.Moves.{peer_step}
use Rattle.fs_server.specs.Server.{Stepped, begun, strange}
use Rattle.fs_server.specs.Step.{event_step, step}
use Rattle.fs_server.specs.declared.event.ServerEvent.{ServerEvent}
use Rattle.fs_server.specs.declared.event.ServerEvent.TheVariants.{FromPeer}
use Rattle.fs_server.specs.declared.state.Server.{Server}
use Rattle.fs_serial.specs.Cluster.{Cluster, IsThere, after_step, in_flight_from, is_between, parcel_in, parcels_of, without_first}
use Rattle.fs_serial.specs.Cluster.{without_question}
use Rattle.fs_serial.specs.EndedLeases.{WasEnded}
use Rattle.fs_serial.specs.Seen.{ClusterHolds}
use Rattle.fs_serial.proofs.Lists.SetAt.{get_here, set_twice}
use Rattle.fs_serial.proofs.Moves.Parcels.{parcels-append}
use Rattle.fs_serial.proofs.Lists.Traffic.{sent_append}
use Rattle.fs_serial.proofs.Returns.Lapsing.{begun_at, keep, there_begun}
use Rattle.fs_serial.proofs.Returns.Lapsing as lapsing
use Rattle.fs_serial.proofs.Transactions.OtherSteps.{begins_stands}
use Rattle.fs_serial.proofs.Transactions.OthersKeep.{sent_client, taken_client}
use Rattle.fs_serial.proofs.Transactions.PlacesAfter.{AreRelocked, relocked_not, relocked_then, unlocked_so, unlocked_unless}
use Rattle.fs_serial.proofs.Transactions.PlacesAfter.{voted_so, word_taken}
use Rattle.fs_serial.proofs.Transactions.Recalled.{recalls_hand_nothing}
use Rattle.fs_serial.proofs.WholeRuns.EndedLed.{parcels_then}
use Rattle.fs_serial.proofs.WholeRuns.EndedOthers.{other_later}
use Rattle.fs_serial.proofs.WholeRuns.EndedStay.{RowsLater, counts_rise, ended_stays, fewer_later, stepped_later}
use Rattle.fs_serial.proofs.WholeRuns.LedEvents.{voted_rows}
use Rattle.fs_world.proofs.LedEach.{each_done, each_goes, each_vote}

-- ## What is led

-- nothing but locks changes in the rows, and nothing is handed over
record OnlyLocks (k : ℕ) (s : Server) (x : Stepped) : Type 0 where
  rows : AreRelocked s.rows x.server.rows
  given : x.server.given ≡ s.given
  none : parcels_of (in_flight_from k x.out.send) ≡ []

strange_locks : (k : ℕ) (s : Server) → OnlyLocks k s (strange s)
strange_locks k s = record { rows = relocked_not s.rows; given = refl; none = refl }

no_parcels : (k : ℕ) (txn : TxnNo) (d : Decision) (out now : List (ℕ × ℕ)) (by : Session) (e : LedEnd)
    → parcels_of (in_flight_from k (tells txn d out ++ ends_now now by e)) ≡ []
no_parcels k txn d [] [] by e = refl
no_parcels k txn d [] (x ∷ xs) by e = refl
no_parcels k txn d (x ∷ xs) now by e = no_parcels k txn d xs now by e

none_more : (k : ℕ) (sent more : List (Peer × Msg)) → parcels_of (in_flight_from k sent) ≡ [] → parcels_of (in_flight_from k more) ≡ []
    → parcels_of (in_flight_from k (sent ++ more)) ≡ []
none_more k sent more one other =
    ap parcels_of (sent_append k sent more) ∙ parcels-append (in_flight_from k sent) (in_flight_from k more)
    ∙ ap₂ (λ xs ys. xs ++ ys) one other

-- it waits or is decided, after these locks
goes_locks : (k : ℕ) (n : ServerNote) (l : Leading) (path : Option PathAnswer) (sent : List (Peer × Msg)) (s t : Server)
    → AreRelocked s.rows t.rows → t.given ≡ s.given → parcels_of (in_flight_from k sent) ≡ [] → OnlyLocks k s (goes_on n l path sent t)
goes_locks k n l path sent s t q given none =
    let d : Decision = decision l.leader path in
    let out : List (ℕ × ℕ) = elsewhere t.me l in
    let e : LedEnd = end_of_decision d in
    each_goes (OnlyLocks k s) n l path sent t
    (record {
      rows = relocked_then s.rows t.rows _ q (unlocked_unless (keeps_for d out) l.leader.txn t.rows);
      given = given;
      none = none_more k sent (tells l.leader.txn d out ++ ends_now out l.leader.session e) none
          (no_parcels k l.leader.txn d out out l.leader.session e);
    })
    (record { rows = q; given = given; none = none })

done_locks : (k : ℕ) (x : Ending) (left : List (ℕ × ℕ)) (s : Server) → OnlyLocks k s (done_with x left s)
done_locks k x [] s = record { rows = unlocked_so x.txn s.rows; given = refl; none = refl }
done_locks k x (y ∷ ys) s = record { rows = relocked_not s.rows; given = refl; none = refl }

voted_locks : (k from : ℕ) (m : ToPrepare) (s : Server) (v : AVote) → OnlyLocks k s (votes v from m s)
voted_locks k from m s v =
    let q = voted_rows v (ready_of m) s in record { rows = q.rows; given = q.given; none = recalls_hand_nothing k v s m.part }

applied_locks : (k from : ℕ) (m : ToDecide) (s : Server) → OnlyLocks k s (applies from m s)
applied_locks k from m s = record {
  rows = unlocked_unless (is_awaited m.txn (without_prepared m.txn m.number s.prepared)) m.txn s.rows;
  given = refl;
  none = refl;
}

-- ## What comes

module _ (skew greatest k : ℕ) (c : Cluster) (s : Server) (at : slice_get c.servers k ≡ Some s) (h : ClusterHolds skew greatest c)
    (from : ℕ) where
  locks_later : (m : PeerMsg) → parcel_in m ≡ None → IsThere k (FromPeer from m) c
      → OnlyLocks k s (peer_step from m s) → RowsLater c (after_step k (FromPeer from m) (peer_step from m s) c)
  locks_later m plain there q =
      let x : Stepped = peer_step from m s in
      stepped_later k c (after_step k (FromPeer from m) x c) s x.server at h.places refl
      (parcels_then k c (without_first (is_between from k) c.in_flight) x.out.send
      (word_taken (is_between from k) c.in_flight (record { from = from; to = k; message = m }) there plain) q.none) q.given q.rows

  comes_later : (m : PeerMsg) → IsThere k (FromPeer from m) c → RowsLater c (after_step k (FromPeer from m) (peer_step from m s) c)
  comes_later (OfParcel p) there = other_later skew greatest k c s at h (FromPeer from (OfParcel p)) there refl
  comes_later (Prepare m) there = locks_later (Prepare m) refl there
      (elim (is_prepared m.txn m.number s.prepared) as (λ b.
      OnlyLocks k s (cond b (strange s) (votes (vote_here s m.session m.part) from m s))) [
        | true ↦ strange_locks k s
        | false ↦ voted_locks k from m s (vote_here s m.session m.part)
      ])
  comes_later (Vote m) there = locks_later (Vote m) refl there
      (each_vote (OnlyLocks k s) m s (strange_locks k s)
      (λ l p to f. record { rows = relocked_not s.rows; given = refl; none = refl })
      (λ l v f. goes_locks k (server_note.Waits l.leader.txn) (with_vote m.number v l) (path_for l.leader.mode l.leader.op s) [] s s
      (relocked_not s.rows) refl refl)
      (λ l p f. let v : AVote = vote_here s l.leader.session p in
      goes_locks k (server_note.Waits l.leader.txn) (with_vote m.number v (asked_at m.number s.me l))
      (path_for l.leader.mode l.leader.op s) (recalls_for v s p) s (after_own_vote l.leader.txn p v s)
      (voted_so v l.leader.txn p.uses s.rows) refl (recalls_hand_nothing k v s p)))
  comes_later (Decide m) there = locks_later (Decide m) refl there
      (elim (is_prepared m.txn m.number s.prepared) as (λ b. OnlyLocks k s (cond b (applies from m s) (strange s))) [
        | true ↦ applied_locks k from m s
        | false ↦ strange_locks k s
      ])
  comes_later (Done m) there = locks_later (Done m) refl there
      (each_done (OnlyLocks k s) m s (strange_locks k s) (λ x left f. done_locks k (without_done m.number x) left s))
  comes_later m there = other_later skew greatest k c s at h (FromPeer from m) there refl

-- what had ended had so after it too
pub comes_still : (skew greatest now k : ℕ) (s : Server) (c : Cluster) → slice_get c.servers k ≡ Some s → max s.last now ≤ greatest
    → ClusterHolds skew greatest c → (from : ℕ) (m : PeerMsg) → IsThere k (FromPeer from m) c
    → (by : Session) (number : LeaseNo) (end reading : ℕ) → WasEnded c by number end reading
    → WasEnded (after_step k (FromPeer from m) (step s now (FromPeer from m)) c) by number end reading
comes_still skew greatest now k s c at clock h from m there by number end reading w =
    let e : ServerEvent = FromPeer from m in
    let b : Server = begun now s in
    let started : Cluster = begun_at now k s c in
    let fewer : RowsLater c started = fewer_later c started (keep greatest now k s c at clock h.places)
    (lapsing.rows_are greatest now k s c at clock h.places) (counts_rise c.servers k s b at (omega arith)) in
    let after : Cluster = after_step k e (step s now e) c in
    let then : Cluster = after_step k e (event_step e b) started in
    let later : RowsLater started then = comes_later skew greatest k started b (get_here c.servers k s b at)
    (begins_stands skew greatest now k s c at clock h) from m (there_begun now k s e c there) in
    subst (λ (ss : List Server). WasEnded (record after { servers = ss }) by number end reading)
    (set_twice c.servers k b (step s now e).server)
    (ended_stays started then by number end reading later
    (ap (λ (z : Client). z.led) (sent_client k (step s now e).out.send (without_question k e c.lines) by ∙ taken_client k e c.lines by))
    (ended_stays c started by number end reading fewer refl w))
