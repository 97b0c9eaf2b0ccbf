-- Every event of every server keeps what servers keep: a transaction waits in the event in which its last vote is counted, and then it is
-- decided.
use Rattle.std.proofs.Common.{◌≡◌, ◌∙◌, ◌==◌, ℕ, Bool, true, false, List, [], cond, refl, sym, ap, subst}
use Rattle.std.specs.Prelude.{Option, Some, slice_get}
use Rattle.fs_ident.specs.In.{In}
use Rattle.fs_ident.specs.declared.actor.Peer.{Peer}
use Rattle.fs_ident.specs.declared.actor.Session.{Session}
use Rattle.fs_ident.proofs.Standing.{In-got}
use Rattle.fs_field.specs.declared.used.Part.{Part}
use Rattle.fs_field.specs.declared.vote.Vote.{Vote}
use Rattle.fs_field.specs.declared.vote.Vote.TheVariants as vote
use Rattle.fs_field.specs.declared.path.PathAnswer.{PathAnswer}
use Rattle.fs_map.specs.Map.{server_of}
use Rattle.fs_msg.specs.declared.client_msg.ClientMsg.{ClientMsg}
use Rattle.fs_msg.specs.declared.client_msg.ClientMsg.TheVariants.{Ask, Renew, Release, Ship, Lead}
use Rattle.fs_msg.specs.declared.lead.Lead.{Lead as ToLead}
use Rattle.fs_msg.specs.declared.msg.Msg.{Msg}
use Rattle.fs_msg.specs.declared.peer_msg.PeerMsg.{PeerMsg}
use Rattle.fs_msg.specs.declared.peer_msg.PeerMsg.TheVariants as peer
use Rattle.fs_msg.specs.declared.server_note.ServerNote.{ServerNote}
use Rattle.fs_msg.specs.declared.server_note.ServerNote.TheVariants as note
use Rattle.fs_msg.specs.declared.voted.Voted.{Voted as VotedMsg}
use Rattle.fs_record.specs.declared.led_end.Why.TheVariants as why
use Rattle.fs_server.specs.Begins.{leader_with, round_of, txn_of}
use Rattle.fs_server.specs.Concludes.{concludes, goes_on, path_for, waits}
use Rattle.fs_server.specs.Counts.{after_own_vote, asked_at, comes_home, counts, counts_own, seeks, sent_on, vote_step, voted, with_vote}
use Rattle.fs_server.specs.Follows.{recalls_for, vote_here}
use Rattle.fs_server.specs.Leads.{lead_step}
use Rattle.fs_server.specs.Server.{Stepped, is_mine}
use Rattle.fs_server.specs.Step.{event_step}
use Rattle.fs_server.specs.declared.event.ServerEvent.{ServerEvent}
use Rattle.fs_server.specs.declared.event.ServerEvent.TheVariants as event
use Rattle.fs_server.specs.declared.state.Server.{Server}
use Rattle.fs_server.proofs.Splitting.{commit_splits}
use Rattle.fs_server.proofs.Leading.{LeadEnds, begun, kept, lead_ends, put_off, unled, wanted}
use Rattle.fs_txn.specs.Votes.{is_full, is_moved}
use Rattle.fs_txn.specs.declared.leading.Leading.{Leading}
use Rattle.fs_serial.specs.Cluster.{Cluster, IsThere, after_step}
use Rattle.fs_serial.specs.Conclusions.{PathsTell, TellsCycles, TellsItems}
use Rattle.fs_serial.specs.KeptFiles.{FilesKept}
use Rattle.fs_serial.specs.Seen.{ClusterHolds}
use Rattle.fs_serial.proofs.Lists.SetAt.{get_here}
use Rattle.fs_serial.proofs.Paths.KeptBegun.{begun_kept, put_off_kept}
use Rattle.fs_serial.proofs.Paths.KeptCommits.{concluded_kept}
use Rattle.fs_serial.proofs.Paths.KeptDecided.{decide_kept, done_kept}
use Rattle.fs_serial.proofs.Paths.KeptOthers.{other_kept}
use Rattle.fs_serial.proofs.Paths.KeptVotes.{counted_kept, own_kept, prepare_kept, sought_kept}
use Rattle.fs_serial.proofs.Paths.Wanted.{wanted_kept}
use Rattle.fs_serial.proofs.Transactions.AwaitedWords.{IsAwaited, vote_is}
use Rattle.fs_serial.proofs.Transactions.Tables.{leading_set}
use Rattle.fs_serial.proofs.WholeRuns.LedEvents.{same_cluster}
use Rattle.fs_serial.proofs.WholeRuns.LedQuestions.{begins, led_there}
use Rattle.fs_serial.proofs.WholeRuns.LedVotes.{counted_waits, own_waits}
use Rattle.fs_serial.proofs.WholeRuns.LedVotes as led_votes

module _ (skew greatest k : ℕ) (c : Cluster) (s : Server) (at : slice_get c.servers k ≡ Some s) (h : ClusterHolds skew greatest c)
    (f : FilesKept c) (tell : PathsTell c) where
  abbrev here : In s c.servers
  here = In-got c.servers k s at

  -- where it waits all is kept, so it is where it is decided
  goes_on_kept : (e : ServerEvent) → TellsItems e → (n : ServerNote) (l : Leading) (path : Option PathAnswer) (sent : List (Peer × Msg)) (t : Server)
      → ClusterHolds skew greatest (after_step k e (waits n l sent t) c) × TellsCycles (after_step k e (waits n l sent t) c) l path → FilesKept (after_step k e (waits n l sent t) c)
      → FilesKept (after_step k e (goes_on n l path sent t) c)
  goes_on_kept e tells n l path sent t holds files = by (is_full l.leader.votes) refl
    where
      by : (b : Bool) → is_full l.leader.votes ≡ b
          → FilesKept (after_step k e (cond b (concludes l path sent t) (waits n l sent t)) c)
      by true full =
          subst FilesKept (same_cluster skew greatest k c s at e tells commit_splits n l path sent t)
          (concluded_kept skew greatest k (after_step k e (waits n l sent t) c) (waits n l sent t).server l path
          (get_here c.servers k s (waits n l sent t).server at) holds.0 holds.1 files (leading_set l t.leading) full commit_splits)
      by false full = files

  -- ## A vote comes

  module _ (from : ℕ) (m : VotedMsg) (comes : IsThere k (event.FromPeer from (peer.Vote m)) c) where
    abbrev e : ServerEvent
    e = event.FromPeer from (peer.Vote m)

    abbrev q : IsAwaited s m
    q = led_votes.q skew greatest k c s at h commit_splits from m comes

    abbrev l : Leading
    l = q.leading

    counted : is_moved m.vote ≡ false → FilesKept (after_step k e (counts m.number m.vote l s) c)
    counted stays =
        goes_on_kept e (λ items replied. refl) (note.Waits l.leader.txn) (with_vote m.number m.vote l) (path_for l.leader.mode l.leader.op s) [] s
        (let w = counted_waits skew greatest k c s at h commit_splits from m comes stays in (w.0, w.1 tell))
        (counted_kept skew greatest k c s at h f from m comes q stays)

    module _ (p : Part) (part : slice_get l.leader.parts m.number ≡ Some p) (moved : is_moved m.vote ≡ true) where
      own : is_mine s p.file ≡ true → FilesKept (after_step k e (counts_own m.number p (vote_here s l.leader.session p) l s) c)
      own mine =
          let v : Vote = vote_here s l.leader.session p in
          goes_on_kept e (λ items replied. refl) (note.Waits l.leader.txn) (with_vote m.number v (asked_at m.number s.me l))
          (path_for l.leader.mode l.leader.op s) (recalls_for v s p) (after_own_vote l.leader.txn p v s)
          (let w = own_waits skew greatest k c s at h commit_splits from m comes p part moved mine in (w.0, w.1 tell))
          (own_kept skew greatest k c s at h f from m comes q p part moved mine)

      home : (b : Bool) → is_mine s p.file ≡ b → FilesKept (after_step k e
          (cond b (counts_own m.number p (vote_here s l.leader.session p) l s) (seeks m.number (server_of s.map p.file) p l s)) c)
      home true mine = own mine
      home false off = sought_kept skew greatest k c s at h f from m comes q p part moved (server_of s.map p.file) off

      sent : (to : ℕ) (b : Bool) → (to == s.me) ≡ b
          → FilesKept (after_step k e (cond b (comes_home m.number p l s) (seeks m.number to p l s)) c)
      sent to true is = home (is_mine s p.file) refl
      sent to false off = sought_kept skew greatest k c s at h f from m comes q p part moved to off

    by_vote : (v : Vote) → m.vote ≡ v → FilesKept (after_step k e (voted m.number v l s) c)
    by_vote vote.Yes is = subst (λ v. FilesKept (after_step k e (counts m.number v l s) c)) is (counted (ap is_moved is))
    by_vote (vote.Ended a b d) is = subst (λ v. FilesKept (after_step k e (counts m.number v l s) c)) is (counted (ap is_moved is))
    by_vote (vote.PathsOut n) is = subst (λ v. FilesKept (after_step k e (counts m.number v l s) c)) is (counted (ap is_moved is))
    by_vote (vote.Moved prefix to) is =
        subst (λ o. FilesKept (after_step k e (sent_on m.number to o l s) c)) (sym q.part)
        (sent q.wanted q.part (ap is_moved is) to (to == s.me) refl)

    vote_kept : FilesKept (after_step k e (vote_step m s) c)
    vote_kept = subst (λ x. FilesKept (after_step k e x c)) (sym (vote_is k from c s at h.led m q)) (by_vote m.vote refl)

  -- ## An operation is to be led

  module _ (by : Session) (m : ToLead) (comes : IsThere k (event.FromClient by (Lead m)) c) where
    abbrev asks : ServerEvent
    asks = event.FromClient by (Lead m)

    by_end : (x : Stepped) → LeadEnds by m s x → FilesKept (after_step k asks x c)
    by_end x (unled l) =
        let wrong : true ≡ false = sym (led_there skew greatest k c s at h commit_splits by m comes) ∙ l in absurd (cc wrong)
    by_end x (put_off w l r) = put_off_kept skew greatest k c s at h f by m comes w
    by_end x (wanted top dir l o) = wanted_kept skew greatest k c s at h by m comes top dir f
    by_end x (kept file txn l o) = put_off_kept skew greatest k c s at h f by m comes (why.Frozen file txn)
    by_end x (begun mode l b) =
        let r = round_of mode by m s in
        let new : Leading = record { leader = leader_with mode (txn_of s) by m r.votes; at = r.at } in
        let w = begins skew greatest k c s at h commit_splits by m comes mode b in
        goes_on_kept asks (λ items replied. refl) (note.Prepares (txn_of s)) new (path_for mode m.op s) r.send r.server
        (w.0, w.1 (path_for mode m.op s) (tell k s new at)) (begun_kept skew greatest k c s at h f by m comes mode b)

    lead_kept : FilesKept (after_step k asks (lead_step by m s) c)
    lead_kept = by_end (lead_step by m s) (lead_ends by m s)

  -- ## Every event

  client_message : (by : Session) (m : ClientMsg) → IsThere k (event.FromClient by m) c
      → FilesKept (after_step k (event.FromClient by m) (event_step (event.FromClient by m) s) c)
  client_message by (Lead m) there = lead_kept by m there
  client_message by (Ask items dir) there = other_kept skew greatest k c s at h f (event.FromClient by (Ask items dir)) there tt
  client_message by (Renew pairs) there = other_kept skew greatest k c s at h f (event.FromClient by (Renew pairs)) there tt
  client_message by (Release pairs) there = other_kept skew greatest k c s at h f (event.FromClient by (Release pairs)) there tt
  client_message by (Ship entries) there = other_kept skew greatest k c s at h f (event.FromClient by (Ship entries)) there tt

  peer_message : (from : ℕ) (m : PeerMsg) → IsThere k (event.FromPeer from m) c
      → FilesKept (after_step k (event.FromPeer from m) (event_step (event.FromPeer from m) s) c)
  peer_message from (peer.Parcel p) there = other_kept skew greatest k c s at h f (event.FromPeer from (peer.Parcel p)) there refl
  peer_message from (peer.Prepare m) there = prepare_kept skew greatest k c s at h f from m there
  peer_message from (peer.Vote m) there = vote_kept from m there
  peer_message from (peer.Decide m) there = decide_kept skew greatest k c s at h f from m there
  peer_message from (peer.Done m) there = done_kept skew greatest k c s at h f from m there
  peer_message from (peer.PathAsk file dir) there = other_kept skew greatest k c s at h f (event.FromPeer from (peer.PathAsk file dir)) there refl
  peer_message from (peer.PathGrant number file path) there =
      other_kept skew greatest k c s at h f (event.FromPeer from (peer.PathGrant number file path)) there refl
  peer_message from (peer.PathNo file w) there = other_kept skew greatest k c s at h f (event.FromPeer from (peer.PathNo file w)) there refl
  peer_message from (peer.PathRecall number) there =
      other_kept skew greatest k c s at h f (event.FromPeer from (peer.PathRecall number)) there refl
  peer_message from (peer.PathRelease number) there =
      other_kept skew greatest k c s at h f (event.FromPeer from (peer.PathRelease number)) there refl

  pub step_kept : (e : ServerEvent) → IsThere k e c → FilesKept (after_step k e (event_step e s) c)
  step_kept (event.FromClient by m) there = client_message by m there
  step_kept (event.FromPeer from m) there = peer_message from m there
  step_kept event.Turn there = other_kept skew greatest k c s at h f event.Turn there tt
  step_kept (event.Recall field) there = other_kept skew greatest k c s at h f (event.Recall field) there tt
  step_kept (event.Move prefix to) there = other_kept skew greatest k c s at h f (event.Move prefix to) there tt
