-- A leader decides a transaction of which all parts have voted: all that is told of path leases goes on to hold.
use Rattle.std.proofs.Common.{◌≡◌, ℕ, Bool, true, false, List, [], ◌∷◌, cond, refl, sym, ap, subst, inl, inr}
use Rattle.std.specs.Prelude.{Option, Some, None, slice_get}
use Rattle.fs_ident.specs.In.{In}
use Rattle.fs_ident.specs.declared.actor.Peer.{Peer}
use Rattle.fs_ident.specs.declared.actor.Session.{Session}
use Rattle.fs_ident.specs.declared.actor.TxnNo.{TxnNo}
use Rattle.fs_ident.specs.declared.kind.Kind.TheVariants.{Dir}
use Rattle.fs_ident.proofs.Passing.{found}
use Rattle.fs_ident.proofs.Standing.{In-got}
use Rattle.fs_field.specs.Table.{same_txn}
use Rattle.fs_field.specs.declared.path.PathAnswer.{PathAnswer}
use Rattle.fs_model.specs.declared.reply.Reply.TheVariants as reply
use Rattle.fs_msg.specs.declared.answer.Answer.TheVariants as answer
use Rattle.fs_msg.specs.declared.msg.Msg.{Msg}
use Rattle.fs_msg.specs.declared.msg.Msg.TheVariants as msg
use Rattle.fs_msg.specs.declared.peer_msg.PeerMsg.{PeerMsg}
use Rattle.fs_msg.specs.declared.peer_msg.PeerMsg.TheVariants as peer
use Rattle.fs_msg.specs.declared.server_note.ServerNote.{ServerNote}
use Rattle.fs_record.specs.Applied.{records_after_all}
use Rattle.fs_record.specs.declared.led_end.LedEnd.{LedEnd}
use Rattle.fs_server.specs.Concludes.{concludes, ends_now, ends_with, goes_on, tells, waits}
use Rattle.fs_server.specs.LeadingLaws.{CommitSplits}
use Rattle.fs_server.specs.Server.{Stepped}
use Rattle.fs_server.specs.declared.event.ServerEvent.{ServerEvent}
use Rattle.fs_server.specs.declared.event.ServerEvent.TheVariants.{Turn}
use Rattle.fs_server.specs.declared.state.Server.{Server}
use Rattle.fs_txn.specs.Deciding.{commit, decision, first_end, needs_path, reply_of, told_effects}
use Rattle.fs_txn.specs.Leading.{elsewhere, end_of_decision, leading_of, own_parts}
use Rattle.fs_txn.specs.Votes.{is_full}
use Rattle.fs_txn.specs.declared.decision.Decision.{Decision}
use Rattle.fs_txn.specs.declared.decision.Decision.TheVariants.{Abort}
use Rattle.fs_txn.specs.declared.leading.Leading.{Leading}
use Rattle.fs_serial.specs.Cluster.{Cluster, after_step}
use Rattle.fs_serial.specs.Conclusions.{TellsCycles, TellsItems, after_concluded}
use Rattle.fs_serial.specs.KeptFiles.{FilesKept}
use Rattle.fs_serial.specs.Leading.{LedHolds}
use Rattle.fs_serial.specs.Paths.{LeavesPaths, PathsHold}
use Rattle.fs_serial.specs.Seen.{ClusterHolds}
use Rattle.fs_serial.proofs.Lists.SetAt.{get_here}
use Rattle.fs_serial.proofs.Paths.ClientsKeep.{paths_later}
use Rattle.fs_serial.proofs.Paths.Committed.{places_stay, records_stay}
use Rattle.fs_serial.proofs.Paths.KeptOff.{freed_less}
use Rattle.fs_serial.proofs.Lists.Journals.{made_kept}
use Rattle.fs_serial.proofs.Paths.Together.{others_keep}
use Rattle.fs_serial.proofs.Paths.Untold.{AreQuietWords, AreSilent, IsQuietWord, SaysNoPath}
use Rattle.fs_serial.proofs.Paths.Untold.{answers_quiet, none_quiet, quiet_both, quiet_silent, silent_both, silent_sent, word_step_leaves}
use Rattle.fs_serial.proofs.Transactions.Tables.{leading_set}
use Rattle.fs_serial.proofs.Transactions.Agreements.{Decides, IsClear, TellsNone, aborts, carries, cycle_tells_none, cycles, decides_so, none_told}
use Rattle.fs_serial.proofs.WholeRuns.LedEvents.{same_cluster}
use Rattle.fs_serial.proofs.WholeRuns.LedKept.{all_keep_led}

-- ## What is told

now_quiet : (out : List (ℕ × ℕ)) (by : Session) (e : LedEnd) → AreQuietWords (ends_now out by e)
now_quiet [] by e = answers_quiet by (answer.Led e)
now_quiet (x ∷ xs) by e = none_quiet

tells_silent : (txn : TxnNo) (d : Decision) (out : List (ℕ × ℕ)) → AreSilent (tells txn d out)
tells_silent txn d [] to m i = absurd i
tells_silent txn d (x ∷ xs) to m (inl e) =
    let told : PeerMsg = peer.Decide (record { txn = txn; number = x.0; effects = told_effects d x.0 }) in
    let word : msg.Peer m ≡ msg.Peer told = ap (λ (y : Peer × Msg). y.1) e in
    let same : m ≡ told = cc word in
    subst SaysNoPath (sym same) tt
tells_silent txn d (x ∷ xs) to m (inr i) = tells_silent txn d xs to m i

module _ (skew greatest k : ℕ) (c : Cluster) (s : Server) (l : Leading) (path : Option PathAnswer) (at : slice_get c.servers k ≡ Some s)
    (h : ClusterHolds skew greatest c) (tells_so : TellsCycles c l path) (kept : FilesKept c) (p : PathsHold c) where
  abbrev x : Stepped
  x = concludes l path [] s

  abbrev out : List (ℕ × ℕ)
  out = elsewhere s.me l

  -- ## It changes nothing

  -- no part is told to do anything
  tells_none : (d : Decision) → TellsNone d → (out : List (ℕ × ℕ)) → AreQuietWords (tells l.leader.txn d out)
  tells_none d none [] to m i = absurd i
  tells_none d none (n ∷ ns) to m (inl q) =
      let told : PeerMsg = peer.Decide (record { txn = l.leader.txn; number = n.0; effects = told_effects d n.0 }) in
      let word : msg.Peer m ≡ msg.Peer told = ap (λ (y : Peer × Msg). y.1) q in
      let same : m ≡ told = cc word in
      subst IsQuietWord (sym same) (record { path = tt; parcel = refl; effects = none n.0 })
  tells_none d none (n ∷ ns) to m (inr i) = tells_none d none ns to m i

  unapplied_leaves : (d : Decision) → TellsNone d
      → LeavesPaths k Turn s (ends_with d out l [] s) c (after_step k Turn (ends_with d out l [] s) c)
  unapplied_leaves d none =
      let y : Stepped = ends_with d out l [] s in
      let silent : Stepped = record y { out = record (y.out) { admitted = [] } } in
      let now : List (Peer × Msg) = ends_now out l.leader.session (end_of_decision d) in
      let q : LeavesPaths k Turn s silent c (after_step k Turn silent c) =
      word_step_leaves c k Turn s silent at (record {
        server = record {
          me = refl;
          records = ap (records_after_all s.records) (none_told d none (own_parts s.me l));
          issued = refl;
          held = refl;
          given = refl;
          kept = λ f is. inl (freed_less s l.leader.txn f is);
        };
        admitted = refl;
        sent = quiet_both (tells l.leader.txn d out) now (tells_none d none out) (now_quiet out l.leader.session (end_of_decision d));
        takes = record { parcels = refl; effects = refl };
        taken = λ number. refl;
      }) in
      record {
        me = refl;
        issued = refl;
        held = refl;
        kept = q.kept;
        given = refl;
        sent = silent_sent (after_step k Turn y c) k y.out.send (silent_both (tells l.leader.txn d out) now (tells_silent l.leader.txn d out)
            (quiet_silent now (now_quiet out l.leader.session (end_of_decision d))));
        taken = λ number. refl;
        journal = λ f e. made_kept c.journal y.out.admitted f Dir e;
        up = q.up;
        here = q.here;
      }

  -- ## It is

  module _ (leading : leading_of l.leader.txn s.leading ≡ Some l) (full : is_full l.leader.votes ≡ true) (splits : CommitSplits) where
    abbrev pub there : In l s.leading
    there = (found (λ (z : Leading). same_txn z.leader.txn l.leader.txn) s.leading l leading).0

    led : LedHolds (after_concluded k l path s c)
    led = (all_keep_led skew greatest k c s at h).concluded l path tells_so leading full

    module _ (yes : first_end l.leader.votes ≡ None) (clear : needs_path l.leader.mode l.leader.op ≡ true → IsClear l.leader path)
        (decided_so : decision l.leader path ≡ commit l.leader (reply_of l.leader.op)) where
      commit_leaves : LeavesPaths k Turn s x c (after_step k Turn x c)
      commit_leaves = record {
        me = refl;
        issued = refl;
        held = refl;
        kept = λ f is. inl (freed_less s l.leader.txn f is);
        given = refl;
        sent =
            let y : Decision = decision l.leader path in
            let now : List (Peer × Msg) = ends_now out l.leader.session (end_of_decision y) in
            silent_sent (after_step k Turn x c) k x.out.send
            (silent_both (tells l.leader.txn y out) now (tells_silent l.leader.txn y out)
            (quiet_silent now (now_quiet out l.leader.session (end_of_decision y))));
        taken = λ number. refl;
        journal = λ f e. made_kept c.journal x.out.admitted f Dir e;
        up = places_stay k skew greatest c s at h kept p l there yes path tells_so clear decided_so splits led;
        here = records_stay k skew greatest c s at h kept p l there yes path tells_so clear decided_so;
      }

    -- ## Whatever the decision

    leaves : Decides l.leader path → LeavesPaths k Turn s x c (after_step k Turn x c)
    leaves (carries none clear is) = commit_leaves none clear is
    leaves (cycles none n on is) =
        subst (λ (y : Decision). LeavesPaths k Turn s (ends_with y out l [] s) c (after_step k Turn (ends_with y out l [] s) c)) (sym is)
        (unapplied_leaves (commit l.leader reply.Cycle) (cycle_tells_none l.leader))
    leaves (aborts e is) =
        subst (λ (y : Decision). LeavesPaths k Turn s (ends_with y out l [] s) c (after_step k Turn (ends_with y out l [] s) c)) (sym is)
        (unapplied_leaves (Abort e) (λ i. refl))

    pub decision_keeps_paths : PathsHold (after_concluded k l path s c)
    decision_keeps_paths =
        let then : Cluster = after_concluded k l path s c in
        paths_later (after_step k Turn x c) then.journal then.replied then.lines (λ f e. e)
        (others_keep c k Turn s x p at (leaves (decides_so l.leader (h.led.leading s (In-got c.servers k s at) l there).led.kind path (h.led.leading s (In-got c.servers k s at) l there).leader.mode)))

-- ## It waits, and is decided then

module _ (skew greatest k : ℕ) (c : Cluster) (s : Server) (at : slice_get c.servers k ≡ Some s) (e : ServerEvent) (tells : TellsItems e)
    (splits : CommitSplits) (n : ServerNote) (l : Leading) (path : Option PathAnswer) (sent : List (Peer × Msg)) (t : Server) where
  abbrev first : Stepped
  first = waits n l sent t

  abbrev behind : Cluster
  behind = after_step k e first c

  pub goes_on_keeps_paths : (h : ClusterHolds skew greatest behind) → TellsCycles behind l path → FilesKept behind → PathsHold behind
      → PathsHold (after_step k e (goes_on n l path sent t) c)
  goes_on_keeps_paths h tell kept p = by (is_full l.leader.votes) refl
    where
      by : (b : Bool) → is_full l.leader.votes ≡ b → PathsHold (after_step k e (cond b (concludes l path sent t) first) c)
      by true full =
          subst PathsHold (same_cluster skew greatest k c s at e tells splits n l path sent t)
          (decision_keeps_paths skew greatest k behind first.server l path (get_here c.servers k s first.server at) h tell kept p
          (leading_set l t.leading) full splits)
      by false full = p
