-- Every event of every server keeps what is told of leases that had ended right.
use Rattle.std.proofs.Common.{◌≡◌, ◌≤◌, ℕ, ◌+◌, max, List, [], ◌∷◌, refl, sym, ap, ◌∙◌, subst, inl, inr, arith}
use Rattle.std.specs.Prelude.{Option, Some, None, slice_get}
use Rattle.fs_ident.specs.In.{In}
use Rattle.fs_ident.specs.declared.actor.LeaseNo.{LeaseNo}
use Rattle.fs_ident.specs.declared.actor.Peer.{Peer}
use Rattle.fs_ident.specs.declared.actor.Peer.TheVariants.{Client as OfSession, Server as OfServer}
use Rattle.fs_ident.specs.declared.actor.Session.{Session}
use Rattle.fs_ident.specs.declared.actor.TxnNo.{TxnNo}
use Rattle.fs_ident.proofs.Passing.{found}
use Rattle.fs_ident.proofs.Standing.{In-got}
use Rattle.fs_field.specs.Table.{same_txn}
use Rattle.fs_field.specs.declared.row.Row.{Row}
use Rattle.fs_field.specs.declared.vote.Vote.{Vote}
use Rattle.fs_field.specs.declared.vote.Vote.TheVariants as vote
use Rattle.fs_record.specs.declared.led_end.LedEnd.{LedEnd}
use Rattle.fs_msg.specs.declared.answer.Answer.TheVariants as answer
use Rattle.fs_msg.specs.declared.client_msg.ClientMsg.{ClientMsg}
use Rattle.fs_msg.specs.declared.client_msg.ClientMsg.TheVariants.{Ask, Renew, Release, Ship, Lead}
use Rattle.fs_msg.specs.declared.decide.Decide.{Decide as DecideMsg}
use Rattle.fs_msg.specs.declared.done.Done.{Done as DoneMsg}
use Rattle.fs_msg.specs.declared.msg.Msg.{Msg}
use Rattle.fs_msg.specs.declared.msg.Msg.TheVariants as msg
use Rattle.fs_msg.specs.declared.peer_msg.PeerMsg.{PeerMsg}
use Rattle.fs_msg.specs.declared.peer_msg.PeerMsg.TheVariants as peer
use Rattle.fs_msg.specs.declared.prepare.Prepare.{Prepare as PrepareMsg}
use Rattle.fs_msg.specs.declared.server_note.ServerNote.{ServerNote}
use Rattle.fs_msg.specs.declared.server_note.ServerNote.TheVariants as note
use Rattle.fs_msg.specs.declared.voted.Voted.{Voted as VotedMsg}
use Rattle.fs_server.specs.Counts.{done_step, done_with}
use Rattle.fs_server.specs.Follows.{after_decision, after_vote, applies, decide_step, prepare_step, ready_of, vote_here, votes}
use Rattle.fs_server.specs.Server.{Stepped, begun, to_session}
use Rattle.fs_server.specs.Step.{event_step, step}
use Rattle.fs_server.specs.declared.event.ServerEvent.{ServerEvent}
use Rattle.fs_server.specs.declared.event.ServerEvent.TheVariants as event
use Rattle.fs_server.specs.declared.state.Server.{Server}
use Rattle.fs_server.proofs.Splitting.{commit_splits}
use Rattle.fs_txn.specs.Leading.{ending_of, leading_of, with_ending, without_done}
use Rattle.fs_txn.specs.Locks.{rows_unlocked}
use Rattle.fs_txn.specs.Ready.{is_awaited, without_prepared}
use Rattle.fs_txn.specs.Stages.{Wanted}
use Rattle.fs_txn.specs.declared.leading.Ending.{Ending}
use Rattle.fs_txn.specs.declared.leading.Leading.{Leading}
use Rattle.fs_txn.proofs.Keys.{txn_is}
use Rattle.fs_serial.specs.Cluster.{Cluster, IsThere, after_step, in_flight_from, is_between, parcels_of, without_first}
use Rattle.fs_serial.specs.EndedLeases.{EndsFair, IsFairAbort, WasEnded, asker_of, session_led}
use Rattle.fs_serial.specs.Leading.{IsLeading}
use Rattle.fs_serial.specs.Seen.{ClusterHolds}
use Rattle.fs_serial.specs.Words.{ended_in, key_of, leading_at, led_in}
use Rattle.fs_serial.proofs.Lists.SetAt.{get_here, set_twice}
use Rattle.fs_serial.proofs.Returns.Lapsing.{begun_at, keep, there_begun}
use Rattle.fs_serial.proofs.Returns.Lapsing as lapsing
use Rattle.fs_serial.proofs.Transactions.AwaitedWords.{IsAskedBy, IsAwaitedBy, asked_by, decide_awaited, done_awaited, done_is}
use Rattle.fs_serial.proofs.Transactions.AwaitedWords.{prepare_awaited, prepare_here}
use Rattle.fs_serial.proofs.Transactions.Desks.{each_after, led_set}
use Rattle.fs_serial.proofs.Transactions.OtherSteps.{begins_stands}
use Rattle.fs_serial.proofs.Transactions.OwnersOfLocks.{in_range}
use Rattle.fs_serial.proofs.Transactions.PlacesAfter.{AreRelocked, relocked_not, unlocked_so, unlocked_unless, word_taken}
use Rattle.fs_serial.proofs.Transactions.Tables.{in_with_ending}
use Rattle.fs_serial.proofs.Transactions.Undecided.{up_led}
use Rattle.fs_serial.proofs.WholeRuns.EndedDecisions.{IsRightStep, noted_none}
use Rattle.fs_serial.proofs.WholeRuns.EndedLed.{answer_votes, lead_fair, parcels_then, voted_fair}
use Rattle.fs_serial.proofs.WholeRuns.EndedOthers.{other_fair}
use Rattle.fs_serial.proofs.WholeRuns.EndedStay.{RowsLater, counts_rise, ended_stays, fewer_later, stepped_later}
use Rattle.fs_serial.proofs.WholeRuns.EndedSteps.{EndFair, VotesFair, event_ending, event_fair, event_leading, event_one, event_still}
use Rattle.fs_serial.proofs.WholeRuns.EndedVotes.{vote_fair}
use Rattle.fs_serial.proofs.WholeRuns.LedWorlds.{OnlyRows}
use Rattle.fs_serial.proofs.Transactions.Recalled.{recalls_are, recalls_hand_nothing}
use Rattle.fs_serial.proofs.WholeRuns.LedEvents.{voted_leading, voted_rows}

-- ## The leader of a transaction

pub record IsLedAt (servers : List Server) (txn : TxnNo) (l : Leading) : Type 0 where
  pub server : Server
  pub there : In server servers
  pub among : In l server.leading
  pub its : l.leader.txn ≡ txn

pub led_at : (servers : List Server) (txn : TxnNo) (l : Leading) → led_in servers txn ≡ Some l → IsLedAt servers txn l
led_at servers txn l = by_server (slice_get servers txn.server) refl
  where
    by_server : (o : Option Server) → slice_get servers txn.server ≡ o → leading_of txn (leading_at o) ≡ Some l → IsLedAt servers txn l
    by_server None e is = absurd (cc is)
    by_server (Some z) e is =
        let q = found (λ (y : Leading). same_txn y.leader.txn txn) z.leading l is in
        record { server = z; there = In-got servers txn.server z e; among = q.0; its = txn_is l.leader.txn txn q.1 }

module _ (skew greatest k : ℕ) (c : Cluster) (s : Server) (at : slice_get c.servers k ≡ Some s) (h : ClusterHolds skew greatest c)
    (f : EndsFair c) where
  here : In s c.servers
  here = In-got c.servers k s at

  -- ## A part is asked for

  module _ (within : greatest ≤ s.last + skew) (from : ℕ) (m : PrepareMsg)
      (comes : IsThere k (event.FromPeer from (peer.Prepare m)) c) where
    abbrev asks : ServerEvent
    asks = event.FromPeer from (peer.Prepare m)

    abbrev v : Vote
    v = vote_here s m.session m.part

    abbrev t : Server
    t = after_vote v (ready_of m) s

    abbrev told : VotedMsg
    told = record { txn = m.txn; number = m.number; vote = v }

    abbrev x : Stepped
    x = votes v from m s

    abbrev then : Cluster
    then = after_step k asks x c

    rows_then : OnlyRows s t
    rows_then = voted_rows v (ready_of m) s

    later : RowsLater c then
    later =
        stepped_later k c then s t at h.places refl
        (parcels_then k c (without_first (is_between from k) c.in_flight) x.out.send
        (word_taken (is_between from k) c.in_flight (record { from = from; to = k; message = peer.Prepare m }) comes refl) (recalls_hand_nothing k v s m.part))
        rows_then.given rows_then.rows

    -- the vote is one for the session whose operation is led
    right : (l : Leading) → led_in c.servers m.txn ≡ Some l → (number : LeaseNo) (end now : ℕ) → v ≡ vote.Ended number end now
        → WasEnded c l.leader.session number end now
    right l is number end now says =
        let by : Session = l.leader.session in
        let z : IsLedAt c.servers m.txn l = led_at c.servers m.txn l is in
        let leads : IsLeading c.lines z.server h.led.parts l = h.led.leading z.server z.there l z.among in
        let word = prepare_here k from c s at h.led m comes in
        let asked : IsAskedBy m.number (led_in c.servers m.txn) k =
        asked_by m.number k (led_in c.servers m.txn) (ended_in c.servers m.txn) word.stage in
        let both : Some asked.leading ≡ Some l = sym asked.is ∙ is in
        let same : asked.leading ≡ l = cc in
        let place : slice_get l.at m.number ≡ Some k = ap (λ (y : Leading). slice_get y.at m.number) (sym same) ∙ asked.place in
        let p = in_range l.at l.leader.parts m.number k leads.asked place in
        let wanted : Wanted = record { session = m.session; part = m.part } in
        let its : wanted ≡ (let w : Wanted = record { session = by; part = p.0 } in w) =
        sym word.wanted ∙ ap (λ u. h.led.parts (key_of u m.number)) (sym z.its) ∙ leads.wanted m.number p.0 p.1 in
        vote_fair skew greatest k c s at h by leads.led
        (up_led skew greatest c s here h by z.server z.there l z.among refl leads.led leads.client.led) leads.client.led within
        l.leader.mode p.0 (subst (In p.0) leads.leader.parts (In-got l.leader.parts m.number p.0 p.1)) number end now
        (ap (λ (w : Wanted). vote_here s w.session w.part) (sym its) ∙ says)

    voted_fair_then : EndsFair then
    voted_fair_then = event_fair skew greatest k c s at h f asks x (record {
      later = later;
      leading = λ l i.
          event_leading skew greatest k c s at h f asks x later l (subst (In l) (voted_leading v (ready_of m) s) i);
      before = λ l o i. event_one skew greatest k c s at h f asks x l o (subst (In l) (voted_leading v (ready_of m) s) i);
      ending = λ y i. event_ending skew greatest k c s at h f asks x later y (subst (In y) rows_then.ending i);
      votes = new_vote;
      answers = λ to z i. absurd (no_answer to z i);
    })
      where
        new_vote : (to : ℕ) (w : VotedMsg) → In (OfServer to, msg.Peer (peer.Vote w)) x.out.send → (l : Leading)
            → led_in then.servers w.txn ≡ Some l → (number : LeaseNo) (end now : ℕ) → w.vote ≡ vote.Ended number end now
            → WasEnded then l.leader.session number end now
        new_vote to w (inl e) l led number end now says =
            let word : msg.Peer (peer.Vote w) ≡ msg.Peer (peer.Vote told) = ap (λ (p : Peer × Msg). p.1) e in
            let same : w ≡ told = cc in
            let is : led_in c.servers m.txn ≡ Some l =
            sym (led_set c.servers k s t at (voted_leading v (ready_of m) s) m.txn)
            ∙ ap (λ (y : VotedMsg). led_in then.servers y.txn) (sym same) ∙ led in
            event_still skew greatest k c s at h f asks x later l.leader.session number end now
            (right l is number end now (ap (λ (y : VotedMsg). y.vote) (sym same) ∙ says))
        new_vote to w (inr z) l led number end now says = absurd (recalls_are v s m.part (OfServer to, msg.Peer (peer.Vote w)) z)

        no_answer : (to : Session) (z : LedEnd) → In (OfSession to, msg.Answer (answer.Led z)) x.out.send → ⊥
        no_answer to z (inl e) = let wrong : OfSession to ≡ OfServer from = ap (λ (p : Peer × Msg). p.0) e in absurd (cc wrong)
        no_answer to z (inr y) = recalls_are v s m.part (OfSession to, msg.Answer (answer.Led z)) y

    pub prepared_fair : IsRightStep k asks c (prepare_step from m s)
    prepared_fair = subst (IsRightStep k asks c) (sym (prepare_awaited k from c s at h.led m comes))
        (voted_fair_then, noted_none c asks then x.out.note (λ txn number end now e. absurd (cc e)))

  -- ## A decision

  module _ (from : ℕ) (m : DecideMsg) (comes : IsThere k (event.FromPeer from (peer.Decide m)) c) where
    abbrev deciding : ServerEvent
    deciding = event.FromPeer from (peer.Decide m)

    abbrev applied : Stepped
    applied = applies from m s

    applied_later : RowsLater c (after_step k deciding applied c)
    applied_later =
        stepped_later k c (after_step k deciding applied c) s (after_decision m s) at h.places refl
        (parcels_then k c (without_first (is_between from k) c.in_flight) applied.out.send
        (word_taken (is_between from k) c.in_flight (record { from = from; to = k; message = peer.Decide m }) comes refl) refl) refl
        (unlocked_unless (is_awaited m.txn (without_prepared m.txn m.number s.prepared)) m.txn s.rows)

    applied_fair : EndsFair (after_step k deciding applied c)
    applied_fair = event_fair skew greatest k c s at h f deciding applied (record {
      later = applied_later;
      leading = event_leading skew greatest k c s at h f deciding applied applied_later;
      before = event_one skew greatest k c s at h f deciding applied;
      ending = event_ending skew greatest k c s at h f deciding applied applied_later;
      votes = λ to v i. absurd (no_vote to v i);
      answers = λ to z i. absurd (no_answer to z i);
    })
      where
        no_vote : (to : ℕ) (v : VotedMsg) → In (OfServer to, msg.Peer (peer.Vote v)) applied.out.send → ⊥
        no_vote to v (inl e) =
            let wrong : msg.Peer (peer.Vote v) ≡ msg.Peer (peer.Done (record { txn = m.txn; number = m.number })) =
            ap (λ (p : Peer × Msg). p.1) e in
            absurd (cc wrong)
        no_vote to v (inr z) = z

        no_answer : (to : Session) (z : LedEnd) → In (OfSession to, msg.Answer (answer.Led z)) applied.out.send → ⊥
        no_answer to z (inl e) = let wrong : OfSession to ≡ OfServer from = ap (λ (p : Peer × Msg). p.0) e in absurd (cc wrong)
        no_answer to z (inr y) = y

    pub decided_fair : IsRightStep k deciding c (decide_step from m s)
    decided_fair = subst (IsRightStep k deciding c) (sym (decide_awaited k from c s at h.led m comes))
        (applied_fair, noted_none c deciding (after_step k deciding applied c) applied.out.note (λ txn number end now e. absurd (cc e)))

  -- ## A part is done

  module _ (from : ℕ) (m : DoneMsg) (comes : IsThere k (event.FromPeer from (peer.Done m)) c) where
    abbrev doing : ServerEvent
    doing = event.FromPeer from (peer.Done m)

    abbrev q : IsAwaitedBy m.number (ending_of m.txn s.ending) from
    q = done_awaited k from c s at h.led m comes

    abbrev y : Ending
    y = q.ending

    abbrev left : Ending
    left = without_done m.number y

    there : In y s.ending
    there = (found (λ (z : Ending). same_txn z.txn m.txn) s.ending y q.is).0

    module _ (n : ServerNote) (rows : List Row) (relocked : AreRelocked s.rows rows) (ms : List (Peer × Msg))
        (quiet : in_flight_from k ms ≡ []) (no_vote : (to : ℕ) (v : VotedMsg) → In (OfServer to, msg.Peer (peer.Vote v)) ms → ⊥)
        (its : (to : Session) (z : LedEnd) → In (OfSession to, msg.Answer (answer.Led z)) ms → (to ≡ y.session) × (z ≡ y.end)) where
      abbrev done : Stepped
      done = record {
        server = record s { rows = rows; ending = with_ending left s.ending };
        out = record { note = n; send = ms; admitted = [] };
      }

      abbrev done_then : Cluster
      done_then = after_step k doing done c

      done_later : RowsLater c done_then
      done_later =
          stepped_later k c done_then s done.server at h.places refl
          (parcels_then k c (without_first (is_between from k) c.in_flight) ms
          (word_taken (is_between from k) c.in_flight (record { from = from; to = k; message = peer.Done m }) comes refl)
          (ap parcels_of quiet))
          refl relocked

      its_end : EndFair done_then y.session y.end
      its_end = event_ending skew greatest k c s at h f doing done done_later y there

      done_right : EndsFair done_then
      done_right = event_fair skew greatest k c s at h f doing done (record {
        later = done_later;
        leading = event_leading skew greatest k c s at h f doing done done_later;
        before = event_one skew greatest k c s at h f doing done;
        ending = λ z i. elim (in_with_ending left s.ending z i) as (λ _. EndFair done_then z.session z.end) [
          | inl p ↦ subst (λ (w : Ending). EndFair done_then w.session w.end) (sym p.0) its_end
          | inr p ↦ event_ending skew greatest k c s at h f doing done done_later z p.0
        ];
        votes = λ to v i. absurd (no_vote to v i);
        answers = λ to z i.
            let p = its to z i in
            subst (λ w. EndFair done_then w z) (sym p.0) (subst (EndFair done_then y.session) (sym p.1) its_end);
      })

    by_awaits : (ys : List (ℕ × ℕ)) → IsRightStep k doing c (done_with left ys s)
    by_awaits [] = (
      done_right (note.Ends y.txn) (rows_unlocked y.txn s.rows) (unlocked_so y.txn s.rows)
          (to_session y.session (answer.Led y.end) ∷ []) refl
          (answer_votes y.session (answer.Led y.end)) told_it,
      noted_none c doing (after_step k doing (done_with left [] s) c) (note.Ends y.txn) (λ txn number end now e. absurd (cc e)),
    )
      where
        told_it : (to : Session) (z : LedEnd)
            → In (OfSession to, msg.Answer (answer.Led z)) (to_session y.session (answer.Led y.end) ∷ []) → (to ≡ y.session) × (z ≡ y.end)
        told_it to z (inl e) =
            let place : OfSession to ≡ OfSession y.session = ap (λ (p : Peer × Msg). p.0) e in
            let word : msg.Answer (answer.Led z) ≡ msg.Answer (answer.Led y.end) = ap (λ (p : Peer × Msg). p.1) e in
            let own : to ≡ y.session = cc in
            let same : z ≡ y.end = cc in
            (own, same)
        told_it to z (inr i) = absurd i
    by_awaits (n ∷ ns) = (
      done_right (note.Waits y.txn) s.rows (relocked_not s.rows) [] refl (λ to v z. z) (λ to z i. absurd i),
      noted_none c doing (after_step k doing (done_with left (n ∷ ns) s) c) (note.Waits y.txn) (λ txn number end now e. absurd (cc e)),
    )

    pub done_fair : IsRightStep k doing c (done_step m s)
    done_fair = subst (IsRightStep k doing c) (sym (done_is k from c s at h.led m q)) (by_awaits left.awaits)

  -- ## All of them

  module _ (within : greatest ≤ s.last + skew) where
    client_fair : (by : Session) (m : ClientMsg) → IsThere k (event.FromClient by m) c
        → IsRightStep k (event.FromClient by m) c (event_step (event.FromClient by m) s)
    client_fair by (Lead m) there = lead_fair skew greatest k c s at h f commit_splits within by m there
    client_fair by (Ask items dir) there = other_fair skew greatest k c s at h f (event.FromClient by (Ask items dir)) there tt
    client_fair by (Renew pairs) there = other_fair skew greatest k c s at h f (event.FromClient by (Renew pairs)) there tt
    client_fair by (Release pairs) there = other_fair skew greatest k c s at h f (event.FromClient by (Release pairs)) there tt
    client_fair by (Ship entries) there = other_fair skew greatest k c s at h f (event.FromClient by (Ship entries)) there tt

    peer_fair : (from : ℕ) (m : PeerMsg) → IsThere k (event.FromPeer from m) c
        → IsRightStep k (event.FromPeer from m) c (event_step (event.FromPeer from m) s)
    peer_fair from (peer.Parcel p) there = other_fair skew greatest k c s at h f (event.FromPeer from (peer.Parcel p)) there refl
    peer_fair from (peer.Prepare m) there = prepared_fair within from m there
    peer_fair from (peer.Vote m) there = voted_fair skew greatest k c s at h f commit_splits within from m there
    peer_fair from (peer.Decide m) there = decided_fair from m there
    peer_fair from (peer.Done m) there = done_fair from m there
    peer_fair from m there = other_fair skew greatest k c s at h f (event.FromPeer from m) there refl

    pub begun_event_fair : (e : ServerEvent) → IsThere k e c → IsRightStep k e c (event_step e s)
    begun_event_fair (event.FromClient by m) there = client_fair by m there
    begun_event_fair (event.FromPeer from m) there = peer_fair from m there
    begun_event_fair event.Turn there = other_fair skew greatest k c s at h f event.Turn there tt
    begun_event_fair (event.Recall field) there = other_fair skew greatest k c s at h f (event.Recall field) there tt
    begun_event_fair (event.Move prefix to) there = other_fair skew greatest k c s at h f (event.Move prefix to) there tt

-- ## From the begin on

-- rows that are over are dropped, and nothing else changes
begins_fair : (skew greatest now k : ℕ) (s : Server) (c : Cluster) → slice_get c.servers k ≡ Some s → max s.last now ≤ greatest
    → ClusterHolds skew greatest c → EndsFair c → EndsFair (begun_at now k s c)
begins_fair skew greatest now k s c at before h f =
    let then : Cluster = begun_at now k s c in
    let later : RowsLater c then = fewer_later c then (keep greatest now k s c at before h.places)
    (lapsing.rows_are greatest now k s c at before h.places) (counts_rise c.servers k s (begun now s) at (omega arith)) in
    let still : (by : Session) (number : LeaseNo) (end reading : ℕ) → WasEnded c by number end reading
    → WasEnded then by number end reading =
    λ by number end reading. ended_stays c then by number end reading later refl in
    let here : In s c.servers = In-got c.servers k s at in
    record {
      counted = each_after (λ z. (l : Leading) → In l z.leading → VotesFair then l.leader.session l.leader.votes) c.servers k (begun now s)
          (λ z i l j number end reading v. still l.leader.session number end reading (f.counted z i l j number end reading v))
          (λ l j number end reading v. still l.leader.session number end reading (f.counted s here l j number end reading v));
      coming = λ g i m e number end reading v l is. still l.leader.session number end reading
          (f.coming g i m e number end reading v l (sym (led_set c.servers k s (begun now s) at refl m.txn) ∙ is));
      kept = each_after (λ z. (x : Ending) → In x z.ending → EndFair then x.session x.end) c.servers k (begun now s)
          (λ z i x j number end reading e. still x.session number end reading (f.kept z i x j number end reading e))
          (λ x j number end reading e. still x.session number end reading (f.kept s here x j number end reading e));
      told = λ by j number end reading i. still by number end reading (f.told by j number end reading i);
    }

-- as long as no clock is ahead of the server's by more than the skew
pub server_keeps_fair : (skew greatest now k : ℕ) (e : ServerEvent) (s : Server) (c : Cluster) → slice_get c.servers k ≡ Some s
    → max s.last now ≤ greatest → greatest ≤ max s.last now + skew → IsThere k e c → ClusterHolds skew greatest c → EndsFair c
    → IsRightStep k e c (step s now e)
server_keeps_fair skew greatest now k e s c at before within there h f =
    let then : Cluster = begun_at now k s c in
    let after : Cluster = after_step k e (step s now e) c in
    let right = subst (λ (ss : List Server).
    EndsFair (record after { servers = ss }) × IsFairAbort then e (record after { servers = ss }) (step s now e).out.note)
    (set_twice c.servers k (begun now s) (step s now e).server)
    (begun_event_fair skew greatest k then (begun now s) (get_here c.servers k s (begun now s) at)
    (begins_stands skew greatest now k s c at before h) (begins_fair skew greatest now k s c at before h f) within e
    (there_begun now k s e c there)) in (
      right.0,
      λ txn number end reading is.
          let q = right.1 txn number end reading is in
          let own = ap (λ o. session_led o (asker_of e)) (led_set c.servers k s (begun now s) at refl txn) in
          (q.0, sym own ∙ q.1, q.2),
    )
