-- Every event of every server keeps all that holds of paths, where servers keep what they have to keep: a transaction waits in the event in
-- which its last vote is counted, and is decided then.
use Rattle.std.proofs.Common.{◌≡◌, ◌==◌, ℕ, Bool, true, false, not, [], cond, refl, sym, ap, subst}
use Rattle.std.specs.Prelude.{Some, slice_get}
use Rattle.fs_ident.specs.Ident.{same}
use Rattle.fs_ident.specs.declared.actor.Session.{Session}
use Rattle.fs_ident.specs.declared.kind.Kind.{Kind}
use Rattle.fs_ident.specs.declared.kind.Kind.TheVariants.{File, Dir}
use Rattle.fs_ident.proofs.Booleans.{second}
use Rattle.fs_field.specs.declared.used.Part.{Part}
use Rattle.fs_field.specs.declared.vote.Vote.{Vote}
use Rattle.fs_field.specs.declared.vote.Vote.TheVariants as vote
use Rattle.fs_map.specs.Map.{server_of}
use Rattle.fs_model.specs.Asking.{home_of}
use Rattle.fs_model.specs.declared.op.Op.{Op}
use Rattle.fs_model.specs.declared.op.Op.TheVariants as op
use Rattle.fs_msg.specs.declared.client_msg.ClientMsg.{ClientMsg}
use Rattle.fs_msg.specs.declared.client_msg.ClientMsg.TheVariants.{Ask, Renew, Release, Ship, Lead}
use Rattle.fs_msg.specs.declared.lead.Lead.{Lead as ToLead}
use Rattle.fs_msg.specs.declared.peer_msg.PeerMsg.{PeerMsg}
use Rattle.fs_msg.specs.declared.peer_msg.PeerMsg.TheVariants as peer
use Rattle.fs_msg.specs.declared.server_note.ServerNote.TheVariants as note
use Rattle.fs_msg.specs.declared.voted.Voted.{Voted as VotedMsg}
use Rattle.fs_record.specs.declared.led_end.Why.TheVariants as why
use Rattle.fs_server.specs.Begins.{Round, leader_with, round_of, txn_of}
use Rattle.fs_server.specs.Concludes.{path_for, waits}
use Rattle.fs_server.specs.Counts.{after_own_vote, asked_at, comes_home, counts, counts_own, seeks, sent_on, vote_step, voted, with_vote}
use Rattle.fs_server.specs.Follows.{decide_step, prepare_step, recalls_for, vote_here}
use Rattle.fs_server.specs.Counts.{done_step}
use Rattle.fs_server.specs.Leads.{lead_step, refuses, takes_path}
use Rattle.fs_server.specs.Server.{Stepped, is_mine, strange}
use Rattle.fs_server.specs.Step.{event_step}
use Rattle.fs_server.specs.declared.event.ServerEvent.{ServerEvent}
use Rattle.fs_server.specs.declared.event.ServerEvent.TheVariants as event
use Rattle.fs_server.specs.declared.state.Server.{Server}
use Rattle.fs_server.proofs.Splitting.{commit_splits}
use Rattle.fs_server.proofs.Leading.{LeadEnds, begun, kept, lead_ends, put_off, unled, wanted}
use Rattle.fs_txn.specs.Votes.{is_moved}
use Rattle.fs_txn.specs.declared.leading.Leading.{Leading}
use Rattle.fs_serial.specs.Cluster.{Cluster, IsThere, after_step}
use Rattle.fs_serial.specs.Conclusions.{PathsTell}
use Rattle.fs_serial.specs.KeptFiles.{FilesKept}
use Rattle.fs_serial.specs.Paths.{PathsHold, PathsStand, has_record}
use Rattle.fs_serial.specs.Seen.{ClusterHolds}
use Rattle.fs_serial.proofs.Paths.AppliedLeaves.{decided_leaves}
use Rattle.fs_serial.proofs.Paths.Concluded.{goes_on_keeps_paths}
use Rattle.fs_serial.proofs.Paths.EventsLeave.{events_keep_paths, put_off_leaves, strange_lead_leaves}
use Rattle.fs_serial.proofs.Paths.KeptBegun.{begun_kept}
use Rattle.fs_serial.proofs.Paths.KeptVotes.{counted_kept, own_kept}
use Rattle.fs_serial.proofs.Paths.LedWaits.{begun_leaves, counted_leaves, done_leaves, own_leaves, prepared_leaves, sought_leaves}
use Rattle.fs_serial.proofs.Paths.Standing.{paths_stand}
use Rattle.fs_serial.proofs.Paths.Together.{others_keep}
use Rattle.fs_serial.proofs.Paths.Taken.{wanted_made}
use Rattle.fs_serial.proofs.Paths.TellCycles.{paths_tell}
use Rattle.fs_serial.proofs.Paths.Wanted.{wanted_keeps_paths}
use Rattle.fs_serial.proofs.Transactions.AwaitedWords.{IsAwaited, vote_is}
use Rattle.fs_serial.proofs.WholeRuns.LedQuestions.{begins, home_made}
use Rattle.fs_serial.proofs.WholeRuns.LedVotes as led_votes
use Rattle.fs_serial.proofs.WholeRuns.LedVotes.{counted_waits, own_waits}

-- a record of its home is where it stands on the path of that
has_home : (s : Server) (o : Op) (kind : Kind) → takes_path s o kind ≡ true → has_record s (home_of o) ≡ true
has_home s (op.Rename sdir sname ddir dname) Dir t = second (not (same sdir ddir)) (has_record s ddir) t
has_home s o File t = absurd (cc t)
has_home s o Dir t = absurd (cc t)

module _ (skew greatest k : ℕ) (c : Cluster) (s : Server) (at : slice_get c.servers k ≡ Some s) (h : ClusterHolds skew greatest c)
    (f : FilesKept c) (p : PathsHold c) where
  tell : PathsTell c
  tell = paths_tell c (paths_stand skew greatest c h f) p

  -- ## An operation is to be led

  module _ (by : Session) (m : ToLead) (comes : IsThere k (event.FromClient by (Lead m)) c) where
    abbrev asks : ServerEvent
    asks = event.FromClient by (Lead m)

    by_end : (x : Stepped) → LeadEnds by m s x → PathsHold (after_step k asks x c)
    by_end x (unled l) = others_keep c k asks s (strange s) p at (strange_lead_leaves c k s p at by m)
    by_end x (put_off w l r) = others_keep c k asks s (refuses by w s) p at (put_off_leaves c k s p at by m w)
    by_end x (wanted top dir l o) =
        wanted_keeps_paths skew greatest k c s at h by m comes top dir p
        (wanted_made c k s (paths_stand skew greatest c h f) p at (home_of m.op) top dir
        (home_made skew greatest k c s at h commit_splits by m comes) (has_home s m.op m.kind o.takes) o.known)
    by_end x (kept file txn l o) = others_keep c k asks s (refuses by (why.Frozen file txn) s) p at (put_off_leaves c k s p at by m (why.Frozen file txn))
    by_end x (begun mode l b) =
        let r : Round = round_of mode by m s in
        let new : Leading = record { leader = leader_with mode (txn_of s) by m r.votes; at = r.at } in
        let w = begins skew greatest k c s at h commit_splits by m comes mode b in
        goes_on_keeps_paths skew greatest k c s at asks (λ items replied. refl) commit_splits (note.Prepares (txn_of s)) new (path_for mode m.op s)
        r.send r.server w.0 (w.1 (path_for mode m.op s) (tell k s new at)) (begun_kept skew greatest k c s at h f by m comes mode b)
        (others_keep c k asks s (waits (note.Prepares (txn_of s)) new r.send r.server) p at (begun_leaves c k s at mode by m))

    lead_keeps : PathsHold (after_step k asks (lead_step by m s) c)
    lead_keeps = by_end (lead_step by m s) (lead_ends by m s)

  -- ## A vote comes

  module _ (from : ℕ) (m : VotedMsg) (comes : IsThere k (event.FromPeer from (peer.Vote m)) c) where
    abbrev e : ServerEvent
    e = event.FromPeer from (peer.Vote m)

    abbrev q : IsAwaited s m
    q = led_votes.q skew greatest k c s at h commit_splits from m comes

    abbrev l : Leading
    l = q.leading

    counted : is_moved m.vote ≡ false → PathsHold (after_step k e (counts m.number m.vote l s) c)
    counted stays =
        goes_on_keeps_paths skew greatest k c s at e (λ items replied. refl) commit_splits (note.Waits l.leader.txn)
        (with_vote m.number m.vote l) (path_for l.leader.mode l.leader.op s) [] s
        (counted_waits skew greatest k c s at h commit_splits from m comes stays).0
        ((counted_waits skew greatest k c s at h commit_splits from m comes stays).1 tell) (counted_kept skew greatest k c s at h f from m comes q stays)
        (others_keep c k e s (waits (note.Waits l.leader.txn) (with_vote m.number m.vote l) [] s) p at
        (counted_leaves c k s at from m comes (note.Waits l.leader.txn) m.number m.vote l))

    module _ (part : Part) (is : slice_get l.leader.parts m.number ≡ Some part) (moved : is_moved m.vote ≡ true) where
      own : is_mine s part.file ≡ true → PathsHold (after_step k e (counts_own m.number part (vote_here s l.leader.session part) l s) c)
      own mine =
          let v : Vote = vote_here s l.leader.session part in
          goes_on_keeps_paths skew greatest k c s at e (λ items replied. refl) commit_splits (note.Waits l.leader.txn)
          (with_vote m.number v (asked_at m.number s.me l)) (path_for l.leader.mode l.leader.op s) (recalls_for v s part)
          (after_own_vote l.leader.txn part v s) (own_waits skew greatest k c s at h commit_splits from m comes part is moved mine).0
          ((own_waits skew greatest k c s at h commit_splits from m comes part is moved mine).1 tell)
          (own_kept skew greatest k c s at h f from m comes q part is moved mine)
          (others_keep c k e s (waits (note.Waits l.leader.txn) (with_vote m.number v (asked_at m.number s.me l)) (recalls_for v s part)
          (after_own_vote l.leader.txn part v s)) p at (own_leaves c k s at from m comes (note.Waits l.leader.txn) m.number part l))

      sought : (to : ℕ) → PathsHold (after_step k e (seeks m.number to part l s) c)
      sought to = others_keep c k e s (seeks m.number to part l s) p at (sought_leaves c k s at from m comes m.number to part l)

      home : (b : Bool) → is_mine s part.file ≡ b → PathsHold (after_step k e
          (cond b (counts_own m.number part (vote_here s l.leader.session part) l s) (seeks m.number (server_of s.map part.file) part l s)) c)
      home true mine = own mine
      home false off = sought (server_of s.map part.file)

      sent : (to : ℕ) (b : Bool) → PathsHold (after_step k e (cond b (comes_home m.number part l s) (seeks m.number to part l s)) c)
      sent to true = home (is_mine s part.file) refl
      sent to false = sought to

    by_vote : (v : Vote) → m.vote ≡ v → PathsHold (after_step k e (voted m.number v l s) c)
    by_vote vote.Yes is = subst (λ v. PathsHold (after_step k e (counts m.number v l s) c)) is (counted (ap is_moved is))
    by_vote (vote.Ended a b d) is = subst (λ v. PathsHold (after_step k e (counts m.number v l s) c)) is (counted (ap is_moved is))
    by_vote (vote.PathsOut n) is = subst (λ v. PathsHold (after_step k e (counts m.number v l s) c)) is (counted (ap is_moved is))
    by_vote (vote.Moved prefix to) is =
        subst (λ o. PathsHold (after_step k e (sent_on m.number to o l s) c)) (sym q.part) (sent q.wanted q.part (ap is_moved is) to (to == s.me))

    vote_keeps : PathsHold (after_step k e (vote_step m s) c)
    vote_keeps = subst (λ x. PathsHold (after_step k e x c)) (sym (vote_is k from c s at h.led m q)) (by_vote m.vote refl)

  -- ## Every event

  stand : PathsStand c
  stand = paths_stand skew greatest c h f

  by_client : (by : Session) (m : ClientMsg) → IsThere k (event.FromClient by m) c
      → PathsHold (after_step k (event.FromClient by m) (event_step (event.FromClient by m) s) c)
  by_client by (Lead m) there = lead_keeps by m there
  by_client by (Ask items dir) there = events_keep_paths skew greatest k c s at h p (event.FromClient by (Ask items dir)) stand there tt
  by_client by (Renew pairs) there = events_keep_paths skew greatest k c s at h p (event.FromClient by (Renew pairs)) stand there tt
  by_client by (Release pairs) there = events_keep_paths skew greatest k c s at h p (event.FromClient by (Release pairs)) stand there tt
  by_client by (Ship entries) there = events_keep_paths skew greatest k c s at h p (event.FromClient by (Ship entries)) stand there tt

  by_server : (from : ℕ) (m : PeerMsg) → IsThere k (event.FromPeer from m) c
      → PathsHold (after_step k (event.FromPeer from m) (event_step (event.FromPeer from m) s) c)
  by_server from (peer.Prepare m) there =
      others_keep c k (event.FromPeer from (peer.Prepare m)) s (prepare_step from m s) p at (prepared_leaves c k s at from m there)
  by_server from (peer.Vote m) there = vote_keeps from m there
  by_server from (peer.Decide m) there =
      others_keep c k (event.FromPeer from (peer.Decide m)) s (decide_step from m s) p at
      (decided_leaves skew greatest k from c s at h p m there)
  by_server from (peer.Done m) there =
      others_keep c k (event.FromPeer from (peer.Done m)) s (done_step m s) p at (done_leaves c k s at from m there)
  by_server from m there = events_keep_paths skew greatest k c s at h p (event.FromPeer from m) stand there refl

  pub step_keeps_paths : (e : ServerEvent) → IsThere k e c → PathsHold (after_step k e (event_step e s) c)
  step_keeps_paths (event.FromClient by m) there = by_client by m there
  step_keeps_paths (event.FromPeer from m) there = by_server from m there
  step_keeps_paths event.Turn there = events_keep_paths skew greatest k c s at h p event.Turn stand there tt
  step_keeps_paths (event.Recall field) there = events_keep_paths skew greatest k c s at h p (event.Recall field) stand there tt
  step_keeps_paths (event.Move prefix to) there = events_keep_paths skew greatest k c s at h p (event.Move prefix to) stand there tt
