-- The session that a transaction is of: what another server tells the leader changes no transaction's session.
use Rattle.std.proofs.Common.{◌≡◌, ◌==◌, ℕ, Bool, true, false, List, [], ◌∷◌, cond, refl, sym, ap, ◌∙◌}
use Rattle.std.specs.Prelude.{Option, Some, None, slice_get, slice_set}
use Rattle.fs_ident.specs.declared.actor.Peer.{Peer}
use Rattle.fs_ident.specs.declared.actor.Session.{Session}
use Rattle.fs_ident.specs.declared.actor.TxnNo.{TxnNo}
use Rattle.fs_ident.proofs.Passing.{found}
use Rattle.fs_field.specs.Table.{same_txn}
use Rattle.fs_field.specs.declared.path.PathAnswer.{PathAnswer}
use Rattle.fs_field.specs.declared.vote.Vote.{Vote}
use Rattle.fs_msg.specs.declared.decide.Decide.{Decide as ToDecide}
use Rattle.fs_msg.specs.declared.done.Done.{Done as ToldDone}
use Rattle.fs_msg.specs.declared.msg.Msg.{Msg}
use Rattle.fs_msg.specs.declared.peer_msg.PeerMsg.{PeerMsg}
use Rattle.fs_msg.specs.declared.peer_msg.PeerMsg.TheVariants.{Parcel as OfParcel, Prepare, Vote as ToldVote, Decide, Done}
use Rattle.fs_msg.specs.declared.prepare.Prepare.{Prepare as ToPrepare}
use Rattle.fs_msg.specs.declared.server_note.ServerNote.{ServerNote}
use Rattle.fs_msg.specs.declared.server_note.ServerNote.TheVariants as note
use Rattle.fs_msg.specs.declared.voted.Voted.{Voted}
use Rattle.fs_record.specs.declared.parcel.Parcel.{Parcel}
use Rattle.fs_server.specs.Concludes.{goes_on, path_for}
use Rattle.fs_server.specs.Counts.{after_own_vote, asked_at, done_step, done_with, vote_step, with_vote}
use Rattle.fs_server.specs.Follows.{applies, ready_of, recalls_for, vote_here, votes}
use Rattle.fs_server.specs.Moves.{fits_here, parcel_at, peer_step}
use Rattle.fs_server.specs.Server.{Stepped, begun, strange}
use Rattle.fs_server.specs.Step.{step}
use Rattle.fs_server.specs.declared.event.ServerEvent.TheVariants.{FromPeer}
use Rattle.fs_server.specs.declared.state.Server.{Server}
use Rattle.fs_txn.specs.Leading.{leading_of, with_leading, without_done, without_leading}
use Rattle.fs_txn.specs.Ready.{is_prepared}
use Rattle.fs_txn.specs.declared.leading.Ending.{Ending}
use Rattle.fs_txn.specs.declared.leading.Leading.{Leading}
use Rattle.fs_txn.proofs.Keys.{txn_is}
use Rattle.fs_serial.specs.EndedLeases.{session_led, session_of_txn}
use Rattle.fs_serial.specs.Words.{leading_at, led_in}
use Rattle.fs_serial.proofs.Moves.PathSteps.{each_message}
use Rattle.fs_serial.proofs.Transactions.Desks.{is_at, is_still}
use Rattle.fs_serial.proofs.Transactions.Tables.{leading_gone, leading_left, leading_other, leading_set}
use Rattle.fs_serial.proofs.WholeRuns.LedEvents.{voted_leading}
use Rattle.fs_world.proofs.LedEach.{each_done, each_goes, each_vote}

-- where it is of the session that one asker would have it be of, it is so with any asker that is this one, if that is one
pub own_more : (servers : List Server) (asker other : Option Session) (txn : TxnNo) (by : Session)
    → ((x : Session) → asker ≡ Some x → other ≡ Some x) → session_of_txn servers asker txn ≡ Some by
    → session_of_txn servers other txn ≡ Some by
own_more servers asker other txn by same = of_led (led_in servers txn)
  where
    of_led : (o : Option Leading) → session_led o asker ≡ Some by → session_led o other ≡ Some by
    of_led None h = same by h
    of_led (Some l) h = h

-- ## A server's table

-- each transaction of the table was there before, of the same session
abbrev pub KeepsSessions : List Leading → List Leading → Type 0
KeepsSessions before after =
    (txn : TxnNo) (by : Session) → session_led (leading_of txn after) None ≡ Some by → session_led (leading_of txn before) None ≡ Some by

abbrev Keeps : Server → Stepped → Type 0
Keeps s x = KeepsSessions s.leading x.server.leading

-- where one has other votes
with_keeps : (ls : List Leading) (l new : Leading) → leading_of new.leader.txn ls ≡ Some l → l.leader.session ≡ new.leader.session
    → KeepsSessions ls (with_leading new ls)
with_keeps ls l new there session txn by h = of_txn (same_txn txn new.leader.txn) refl
  where
    of_txn : (b : Bool) → same_txn txn new.leader.txn ≡ b → session_led (leading_of txn ls) None ≡ Some by
    of_txn false off = ap (λ o. session_led o None) (sym (leading_other new txn ls off)) ∙ h
    of_txn true its =
        let same : txn ≡ new.leader.txn = txn_is txn new.leader.txn its in
        let new_one : leading_of txn (with_leading new ls) ≡ Some new =
        ap (λ t. leading_of t (with_leading new ls)) same ∙ leading_set new ls in
        ap (λ t. session_led (leading_of t ls) None) same ∙ ap (λ o. session_led o None) there ∙ ap Some session
        ∙ sym (ap (λ o. session_led o None) new_one) ∙ h

-- where one is decided
without_keeps : (ls : List Leading) (gone : TxnNo) → KeepsSessions ls (without_leading gone ls)
without_keeps ls gone txn by h = of_txn (same_txn txn gone) refl
  where
    of_txn : (b : Bool) → same_txn txn gone ≡ b → session_led (leading_of txn ls) None ≡ Some by
    of_txn false off = ap (λ o. session_led o None) (sym (leading_left txn gone ls off)) ∙ h
    of_txn true its =
        let none : leading_of txn (without_leading gone ls) ≡ None =
        ap (λ t. leading_of t (without_leading gone ls)) (txn_is txn gone its) ∙ leading_gone gone ls in
        let wrong : (let o : Option Session = None in o) ≡ Some by = sym (ap (λ o. session_led o None) none) ∙ h in
        absurd (cc wrong)

-- ## What another server tells

-- a transaction of the table goes on, with other votes
goes_keeps : (n : ServerNote) (l new : Leading) (path : Option PathAnswer) (sent : List (Peer × Msg)) (s t : Server)
    → t.leading ≡ s.leading → leading_of new.leader.txn s.leading ≡ Some l → l.leader.session ≡ new.leader.session
    → Keeps s (goes_on n new path sent t)
goes_keeps n l new path sent s t same there session = each_goes (Keeps s) n new path sent t
    (λ txn by h. without_keeps s.leading new.leader.txn txn by
    (ap (λ ls. session_led (leading_of txn (without_leading new.leader.txn ls)) None) (sym same) ∙ h))
    (λ txn by h. with_keeps s.leading l new there session txn by
    (ap (λ ls. session_led (leading_of txn (with_leading new ls)) None) (sym same) ∙ h))

-- it is in the table by its own number
by_own : (m : Voted) (ls : List Leading) (l : Leading) → leading_of m.txn ls ≡ Some l → leading_of l.leader.txn ls ≡ Some l
by_own m ls l there =
    ap (λ t. leading_of t ls) (txn_is l.leader.txn m.txn (found (λ (x : Leading). same_txn x.leader.txn m.txn) ls l there).1) ∙ there

vote_keeps : (m : Voted) (s : Server) → Keeps s (vote_step m s)
vote_keeps m s = each_vote (Keeps s) m s (λ txn by h. h)
    (λ l p to f. with_keeps s.leading l (asked_at m.number to l) (by_own m s.leading l f) refl)
    (λ l v f. goes_keeps (note.Waits l.leader.txn) l (with_vote m.number v l) (path_for l.leader.mode l.leader.op s) [] s s refl
    (by_own m s.leading l f) refl)
    (λ l p f.
    let v : Vote = vote_here s l.leader.session p in
    goes_keeps (note.Waits l.leader.txn) l (with_vote m.number v (asked_at m.number s.me l)) (path_for l.leader.mode l.leader.op s)
    (recalls_for v s p) s (after_own_vote l.leader.txn p v s) refl (by_own m s.leading l f) refl)

left_keeps : (x : Ending) (left : List (ℕ × ℕ)) (s : Server) → Keeps s (done_with x left s)
left_keeps x [] s txn by h = h
left_keeps x (y ∷ ys) s txn by h = h

done_keeps : (m : ToldDone) (s : Server) → Keeps s (done_step m s)
done_keeps m s = each_done (Keeps s) m s (λ txn by h. h) (λ x left f. left_keeps (without_done m.number x) left s)

prepare_keeps : (b : Bool) (v : Vote) (from : ℕ) (m : ToPrepare) (s : Server) → Keeps s (cond b (strange s) (votes v from m s))
prepare_keeps true v from m s txn by h = h
prepare_keeps false v from m s txn by h = ap (λ ls. session_led (leading_of txn ls) None) (sym (voted_leading v (ready_of m) s)) ∙ h

decide_keeps : (b : Bool) (from : ℕ) (m : ToDecide) (s : Server) → Keeps s (cond b (applies from m s) (strange s))
decide_keeps true from m s txn by h = h
decide_keeps false from m s txn by h = h

parcel_keeps : (b : Bool) (p : Parcel) (s : Server) → Keeps s (parcel_at b p s)
parcel_keeps true p s txn by h = h
parcel_keeps false p s txn by h = h

peer_keeps : (from : ℕ) (m : PeerMsg) (s : Server) → Keeps s (peer_step from m s)
peer_keeps from (OfParcel p) s = parcel_keeps (fits_here p s) p s
peer_keeps from (Prepare m) s = prepare_keeps (is_prepared m.txn m.number s.prepared) (vote_here s m.session m.part) from m s
peer_keeps from (ToldVote m) s = vote_keeps m s
peer_keeps from (Decide m) s = decide_keeps (is_prepared m.txn m.number s.prepared) from m s
peer_keeps from (Done m) s = done_keeps m s
peer_keeps from m s = each_message (Keeps s) s (λ n ms paths asking given noted sent txn by h. h) from m tt

-- ## Among the servers

-- each transaction of the servers then was of the same session before
pub own_before : (servers : List Server) (k now from : ℕ) (m : PeerMsg) (c s : Server) → slice_get servers k ≡ Some c
    → (txn : TxnNo) (by : Session)
    → session_of_txn (slice_set servers k (step s now (FromPeer from m)).server) None txn ≡ Some by
    → session_of_txn (slice_set servers k s) None txn ≡ Some by
own_before servers k now from m c s at txn by h = of_server (txn.server == k) refl
  where
    t : Server
    t = (step s now (FromPeer from m)).server

    of_server : (b : Bool) → (txn.server == k) ≡ b → session_of_txn (slice_set servers k s) None txn ≡ Some by
    of_server true its =
        ap (λ o. session_led (leading_of txn (leading_at o)) None) (is_at servers k c s at txn.server its)
        ∙ peer_keeps from m (begun now s) txn by
        (sym (ap (λ o. session_led (leading_of txn (leading_at o)) None) (is_at servers k c t at txn.server its)) ∙ h)
    of_server false off =
        ap (λ o. session_led (leading_of txn (leading_at o)) None) (is_still servers k c s at txn.server off)
        ∙ sym (ap (λ o. session_led (leading_of txn (leading_at o)) None) (is_still servers k c t at txn.server off)) ∙ h
