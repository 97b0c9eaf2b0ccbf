-- A transaction is decided: where it ends since a lease had ended, that is right of a vote that was counted.
use Rattle.std.proofs.Common.{◌≡◌, ℕ, Bool, true, false, List, [], ◌∷◌, ◌++◌, cond, refl, sym, ap, ◌∙◌, subst, inl, inr, arith}
use Rattle.std.specs.Prelude.{Option, Some, None, slice_get}
use Rattle.fs_ident.specs.In.{In}
use Rattle.fs_ident.specs.declared.actor.LeaseNo.{LeaseNo}
use Rattle.fs_ident.specs.declared.actor.Peer.{Peer}
use Rattle.fs_ident.specs.declared.actor.Peer.TheVariants.{Client as OfSession, Server as OfServer}
use Rattle.fs_ident.specs.declared.actor.Session.{Session}
use Rattle.fs_ident.specs.declared.actor.TxnNo.{TxnNo}
use Rattle.fs_ident.proofs.Passing.{found}
use Rattle.fs_field.specs.Table.{same_txn}
use Rattle.fs_field.specs.declared.path.PathAnswer.{PathAnswer}
use Rattle.fs_field.specs.declared.path.PathAnswer.TheVariants.{Frozen, Path, Wanted}
use Rattle.fs_field.specs.declared.vote.Vote.TheVariants as vote
use Rattle.fs_record.specs.declared.led_end.LedEnd.{LedEnd}
use Rattle.fs_record.specs.declared.led_end.LedEnd.TheVariants as led
use Rattle.fs_msg.specs.declared.answer.Answer.TheVariants as answer
use Rattle.fs_msg.specs.declared.item.Item.{Item}
use Rattle.fs_msg.specs.declared.msg.Msg.{Msg}
use Rattle.fs_msg.specs.declared.msg.Msg.TheVariants as msg
use Rattle.fs_msg.specs.declared.peer_msg.PeerMsg.TheVariants as peer
use Rattle.fs_msg.specs.declared.server_note.ServerNote.{ServerNote}
use Rattle.fs_msg.specs.declared.server_note.ServerNote.TheVariants as note
use Rattle.fs_msg.specs.declared.voted.Voted.{Voted as VotedMsg}
use Rattle.fs_server.specs.Concludes.{concludes, end_note, ends_now, goes_on, tells, waits}
use Rattle.fs_server.specs.LeadingLaws.{CommitSplits}
use Rattle.fs_server.specs.Server.{Stepped}
use Rattle.fs_server.specs.declared.event.ServerEvent.{ServerEvent}
use Rattle.fs_server.specs.declared.state.Server.{Server}
use Rattle.fs_txn.specs.Deciding.{agreed, by_files, by_path, commit, decision, has_file, first_end, needs_path, reply_of, told_effects, unless_ended}
use Rattle.fs_txn.specs.Leading.{elsewhere, end_of_decision, leading_of}
use Rattle.fs_txn.specs.Votes.{Votes, is_full}
use Rattle.fs_txn.specs.declared.decision.Decision.{Decision}
use Rattle.fs_txn.specs.declared.leader.Leader.{Leader}
use Rattle.fs_txn.specs.declared.leading.Ending.{Ending}
use Rattle.fs_txn.specs.declared.leading.Leading.{Leading}
use Rattle.fs_txn.specs.declared.mode.Mode2.{Mode2}
use Rattle.fs_txn.specs.declared.mode.Mode2.TheVariants.{Check, Freeze, Plain}
use Rattle.fs_serial.specs.Cluster.{Cluster, after_step, with_items}
use Rattle.fs_serial.specs.Conclusions.{TellsItems, after_concluded}
use Rattle.fs_serial.specs.EndedLeases.{EndsFair, IsFairAbort, asker_of, session_of_txn}
use Rattle.fs_serial.specs.Locks.{at_home}
use Rattle.fs_serial.specs.Seen.{ClusterHolds}
use Rattle.fs_serial.proofs.DecidedEffects.DecisionSeen.{is_relock, relock, rows_are}
use Rattle.fs_serial.proofs.Lists.SetAt.{get_here}
use Rattle.fs_serial.proofs.Places.RelockedRows.{home_relock}
use Rattle.fs_serial.proofs.Transactions.Tables.{in_with_ending, in_without_leading, leading_set}
use Rattle.fs_serial.proofs.WholeRuns.EndedStay.{RowsLater, counts_rise, relocked_later}
use Rattle.fs_serial.proofs.WholeRuns.EndedSteps.{EndFair, old_ending, old_leading, one_leading, step_fair}
use Rattle.fs_serial.proofs.WholeRuns.LedEvents.{behind, same_cluster}

-- ## What is decided

-- the first vote that ends it is one that names the lease
first_names : (votes : Votes) (number : LeaseNo) (end now : ℕ) → first_end votes ≡ Some (led.Ended number end now)
    → In (Some (vote.Ended number end now)) votes
first_names [] number end now h = absurd (cc h)
first_names (None ∷ vs) number end now h = absurd (cc h)
first_names (Some vote.Yes ∷ vs) number end now h = inr (first_names vs number end now h)
first_names (Some (vote.Ended n u a) ∷ vs) number end now h =
    let x : n ≡ number = cc in
    let y : u ≡ end = cc in
    let z : a ≡ now = cc in
    inl (cc (x, y, z))
first_names (Some (vote.PathsOut n) ∷ vs) number end now h = absurd (cc h)
first_names (Some (vote.Moved prefix to) ∷ vs) number end now h = absurd (cc h)

-- where no vote ends it, no lease is named
files_name_none : (l : Leader) (mode : Mode2) (on : Bool) (number : LeaseNo) (end now : ℕ)
    → end_of_decision (by_files l mode on) ≡ led.Ended number end now → ⊥
files_name_none l Check true number end now h = absurd (cc h)
files_name_none l Check false number end now h = absurd (cc h)
files_name_none l Freeze true number end now h = absurd (cc h)
files_name_none l Freeze false number end now h = absurd (cc h)
files_name_none l Plain true number end now h = absurd (cc h)
files_name_none l Plain false number end now h = absurd (cc h)

path_names_none : (l : Leader) (path : Option PathAnswer) (number : LeaseNo) (end now : ℕ)
    → end_of_decision (by_path l path) ≡ led.Ended number end now → ⊥
path_names_none l None number end now h = absurd (cc h)
path_names_none l (Some (Path files)) number end now h = files_name_none l l.mode (has_file files l.file) number end now h
path_names_none l (Some (Wanted file parent)) number end now h = absurd (cc h)
path_names_none l (Some (Frozen file txn)) number end now h = absurd (cc h)

decision_names : (l : Leader) (path : Option PathAnswer) (number : LeaseNo) (end now : ℕ)
    → end_of_decision (decision l path) ≡ led.Ended number end now → In (Some (vote.Ended number end now)) l.votes
decision_names l path number end now = by_end (first_end l.votes) refl
  where
    by_need : (b : Bool) → end_of_decision (cond b (by_path l path) (commit l (reply_of l.op))) ≡ led.Ended number end now → ⊥
    by_need true h = path_names_none l path number end now h
    by_need false h = absurd (cc h)

    by_end : (o : Option LedEnd) → first_end l.votes ≡ o → end_of_decision (unless_ended o (agreed l path)) ≡ led.Ended number end now
        → In (Some (vote.Ended number end now)) l.votes
    by_end (Some e) is h = first_names l.votes number end now (is ∙ ap Some h)
    by_end None is h = absurd (by_need (needs_path l.mode l.op) h)

-- ## What is sent

none_votes : (txn : TxnNo) (d : Decision) (out now : List (ℕ × ℕ)) (by : Session) (e : LedEnd) (to : ℕ) (m : VotedMsg)
    → In (OfServer to, msg.Peer (peer.Vote m)) (tells txn d out ++ ends_now now by e) → ⊥
none_votes txn d [] [] by e to m (inl q) =
    let wrong : OfServer to ≡ OfSession by = ap (λ (p : Peer × Msg). p.0) q in absurd (cc wrong)
none_votes txn d [] [] by e to m (inr z) = z
none_votes txn d [] (x ∷ xs) by e to m i = i
none_votes txn d (x ∷ xs) now by e to m (inl q) =
    let wrong : msg.Peer (peer.Vote m) ≡ msg.Peer (peer.Decide (record { txn = txn; number = x.0; effects = told_effects d x.0 })) =
    ap (λ (p : Peer × Msg). p.1) q in
    absurd (cc wrong)
none_votes txn d (x ∷ xs) now by e to m (inr i) = none_votes txn d xs now by e to m i

-- only its session is told how it ended
its_answer : (txn : TxnNo) (d : Decision) (out now : List (ℕ × ℕ)) (by : Session) (e : LedEnd) (to : Session) (z : LedEnd)
    → In (OfSession to, msg.Answer (answer.Led z)) (tells txn d out ++ ends_now now by e) → (to ≡ by) × (z ≡ e)
its_answer txn d [] [] by e to z (inl q) =
    let place : OfSession to ≡ OfSession by = ap (λ (p : Peer × Msg). p.0) q in
    let word : msg.Answer (answer.Led z) ≡ msg.Answer (answer.Led e) = ap (λ (p : Peer × Msg). p.1) q in
    let its : to ≡ by = cc in
    let same : z ≡ e = cc in
    (its, same)
its_answer txn d [] [] by e to z (inr i) = absurd i
its_answer txn d [] (x ∷ xs) by e to z i = absurd i
its_answer txn d (x ∷ xs) now by e to z (inl q) =
    let wrong : OfSession to ≡ OfServer x.1 = ap (λ (p : Peer × Msg). p.0) q in absurd (cc wrong)
its_answer txn d (x ∷ xs) now by e to z (inr i) = its_answer txn d xs now by e to z i

-- ## The step

module _ (skew greatest k : ℕ) (c : Cluster) (s : Server) (at : slice_get c.servers k ≡ Some s) (h : ClusterHolds skew greatest c)
    (f : EndsFair c) (l : Leading) (path : Option PathAnswer) (leads : leading_of l.leader.txn s.leading ≡ Some l) where
  there : In l s.leading
  there = (found (λ (z : Leading). same_txn z.leader.txn l.leader.txn) s.leading l leads).0

  abbrev d : Decision
  d = decision l.leader path

  abbrev x : Stepped
  x = concludes l path [] s

  abbrev then : Cluster
  then = after_concluded k l path s c

  abbrev journal : List Item
  journal = c.journal ++ x.out.admitted

  abbrev replied : Session → List Item
  replied = with_items x.out.admitted c.replied

  later : RowsLater c then
  later = relocked_later c then (at_home s (relock k skew greatest c s at h l there d))
      (home_relock s (relock k skew greatest c s at h l there d) (is_relock k skew greatest c s at h l there d))
      (rows_are k skew greatest c s at h l there d) (counts_rise c.servers k s x.server at (omega arith))

  pub end_right : EndFair then l.leader.session (end_of_decision d)
  end_right number end now e =
      old_leading skew greatest k c s at h f c.in_flight c.lines x.server x.out.send journal replied later (λ y. refl) l there
      number end now
      (decision_names l.leader path number end now e)

  pub concluded_fair : EndsFair then
  concluded_fair = step_fair skew greatest k c s at h f c.in_flight c.lines x.server x.out.send journal replied (record {
    later = later;
    among = λ z i. i;
    clients = λ y. refl;
    heard = λ y. refl;
    leading = λ z i. old_leading skew greatest k c s at h f c.in_flight c.lines x.server x.out.send journal replied later (λ y. refl) z
        (in_without_leading l.leader.txn s.leading z i).0;
    before = λ z o i. one_leading skew greatest k c s at h f c.in_flight c.lines x.server x.out.send journal replied z o
        (in_without_leading l.leader.txn s.leading z i).0;
    ending = λ z i. elim (in_with_ending (record {
      txn = l.leader.txn;
      session = l.leader.session;
      end = end_of_decision d;
      awaits = elsewhere s.me l;
    }) s.ending z i) as (λ _. EndFair then z.session z.end) [
      | inl q ↦ subst (λ (w : Ending). EndFair then w.session w.end) (sym q.0) end_right
      | inr q ↦ old_ending skew greatest k c s at h f c.in_flight c.lines x.server x.out.send journal replied later (λ y. refl) z q.0
    ];
    votes = λ to m i. absurd (none_votes l.leader.txn d (elsewhere s.me l) (elsewhere s.me l) l.leader.session (end_of_decision d) to m i);
    answers = λ to z i.
        let q = its_answer l.leader.txn d (elsewhere s.me l) (elsewhere s.me l) l.leader.session (end_of_decision d) to z i in
        subst (λ w. EndFair then w z) (sym q.0) (subst (EndFair then l.leader.session) (sym q.1) end_right);
  })

-- ## What is noted

-- nothing is said of a lease
abbrev pub NamesNone : ServerNote → Type 0
NamesNone n = (txn : TxnNo) (number : LeaseNo) (end now : ℕ) → n ≡ note.AbortsEnded txn number end now → ⊥

pub noted_none : (c : Cluster) (e : ServerEvent) (after : Cluster) (n : ServerNote) → NamesNone n → IsFairAbort c e after n
noted_none c e after n none txn number end now is = absurd (none txn number end now is)

-- where it is the transaction's own session, what is noted of its end is right
end_noted : (c : Cluster) (e : ServerEvent) (after : Cluster) (txn : TxnNo) (by : Session) (z : LedEnd)
    → session_of_txn c.servers (asker_of e) txn ≡ Some by → EndFair after by z → IsFairAbort c e after (end_note txn z)
end_noted c e after txn by (led.Done r) own right t number end now is = absurd (cc is)
end_noted c e after txn by (led.Again w) own right t number end now is = absurd (cc is)
end_noted c e after txn by (led.Ended n u a) own right t number end now is =
    let its : txn ≡ t = cc in
    let x : n ≡ number = cc in
    let y : u ≡ end = cc in
    let z : a ≡ now = cc in
    (by, ap (session_of_txn c.servers (asker_of e)) (sym its) ∙ own, right number end now (cc (x, y, z)))

-- all that is told after the step, and what is noted, is right
abbrev pub IsRightStep : ℕ → ServerEvent → Cluster → Stepped → Type 0
IsRightStep k e c x = EndsFair (after_step k e x c) × IsFairAbort c e (after_step k e x c) x.out.note

-- it waits, and is decided then
module _ (skew greatest k : ℕ) (c : Cluster) (s : Server) (at : slice_get c.servers k ≡ Some s) (e : ServerEvent) (tells : TellsItems e)
    (splits : CommitSplits) (n : ServerNote) (l : Leading) (path : Option PathAnswer) (sent : List (Peer × Msg)) (t : Server) where
  abbrev waiting : Server
  waiting = (waits n l sent t).server

  pub goes_on_fair : NamesNone n → session_of_txn c.servers (asker_of e) l.leader.txn ≡ Some l.leader.session
      → ClusterHolds skew greatest (behind skew greatest k c s at e tells splits n l path sent t)
      → EndsFair (behind skew greatest k c s at e tells splits n l path sent t) → IsRightStep k e c (goes_on n l path sent t)
  goes_on_fair none own h f = by (is_full l.leader.votes)
    where
      by : (b : Bool) → IsRightStep k e c (cond b (concludes l path sent t) (waits n l sent t))
      by true =
          let before : Cluster = behind skew greatest k c s at e tells splits n l path sent t in
          let now : slice_get before.servers k ≡ Some waiting = get_here c.servers k s waiting at in
          let led : leading_of l.leader.txn waiting.leading ≡ Some l = leading_set l t.leading in
          let last : ServerNote = end_note l.leader.txn (end_of_decision (decision l.leader path)) in
          subst (λ (d : Cluster). EndsFair d × IsFairAbort c e d last) (same_cluster skew greatest k c s at e tells splits n l path sent t) (
            concluded_fair skew greatest k before waiting now h f l path led,
            end_noted c e (after_concluded k l path waiting before) l.leader.txn l.leader.session
                (end_of_decision (decision l.leader path)) own
                (end_right skew greatest k before waiting now h f l path led),
          )
      by false = (f, noted_none c e (after_step k e (waits n l sent t) c) n none)
