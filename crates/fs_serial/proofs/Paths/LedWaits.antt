-- Steps of transactions in which nothing is decided and nothing applied leave path leases as they are: one begins, a vote is counted or
-- asked for elsewhere, another server's part is voted on, and what was decided is done.
use Rattle.std.proofs.Common.{◌≡◌, Bool, true, false, List, [], ◌∷◌, ℕ, refl, cond}
use Rattle.std.specs.Prelude.{Option, Some, None, slice_get}
use Rattle.fs_ident.specs.declared.actor.Session.{Session}
use Rattle.fs_field.specs.declared.used.Part.{Part}
use Rattle.fs_field.specs.declared.vote.Vote.{Vote}
use Rattle.fs_msg.specs.declared.answer.Answer.TheVariants as answer
use Rattle.fs_msg.specs.declared.client_msg.ClientMsg.TheVariants.{Lead}
use Rattle.fs_msg.specs.declared.done.Done.{Done as DoneMsg}
use Rattle.fs_msg.specs.declared.lead.Lead.{Lead as ToLead}
use Rattle.fs_msg.specs.declared.peer_msg.PeerMsg.{PeerMsg}
use Rattle.fs_msg.specs.declared.peer_msg.PeerMsg.TheVariants as peer
use Rattle.fs_msg.specs.declared.prepare.Prepare.{Prepare as PrepareMsg}
use Rattle.fs_msg.specs.declared.server_note.ServerNote.{ServerNote}
use Rattle.fs_msg.specs.declared.server_note.ServerNote.TheVariants as note
use Rattle.fs_msg.specs.declared.voted.Voted.{Voted as VotedMsg}
use Rattle.fs_server.specs.Begins.{Round, first_round, leader_with, parts_in, round_of, txn_of}
use Rattle.fs_server.specs.Concludes.{waits}
use Rattle.fs_server.specs.Counts.{after_own_vote, asked_at, done_of, done_step, done_with, seeks, with_vote}
use Rattle.fs_server.specs.Follows.{prepare_step, ready_of, recalls_for, to_server, vote_here, votes}
use Rattle.fs_server.specs.Server.{Stepped, strange}
use Rattle.fs_server.specs.declared.event.ServerEvent.{ServerEvent}
use Rattle.fs_server.specs.declared.event.ServerEvent.TheVariants as event
use Rattle.fs_server.specs.declared.state.Server.{Server}
use Rattle.fs_txn.specs.Leading.{awaits_done, ending_of, without_done}
use Rattle.fs_txn.specs.Ready.{is_prepared}
use Rattle.fs_txn.specs.declared.leading.Ending.{Ending}
use Rattle.fs_txn.specs.declared.leading.Leading.{Leading}
use Rattle.fs_txn.specs.declared.mode.Mode2.{Mode2}
use Rattle.fs_serial.specs.Cluster.{Cluster, IsThere, after_step}
use Rattle.fs_serial.specs.Paths.{LeavesPaths}
use Rattle.fs_serial.proofs.Paths.KeptOff.{asks_quiet, own_vote_leaves, recalls_quiet, rounds_leave, rounds_quiet, vote_leaves}
use Rattle.fs_serial.proofs.Paths.Untold.{AreQuietWords, IsQuietWord, KeepsOffPaths}
use Rattle.fs_serial.proofs.Paths.Untold.{keeps_itself, answers_quiet, keeps_same, keeps_then, none_quiet}
use Rattle.fs_serial.proofs.Paths.Untold.{quiet_both, quiet_one, quiet_taken, silent_taken, word_step_leaves}

module _ (c : Cluster) (k : ℕ) (s : Server) (at : slice_get c.servers k ≡ Some s) where
  -- ## A transaction begins

  pub begun_leaves : (mode : Mode2) (by : Session) (m : ToLead)
      → let r : Round = round_of mode by m s in
      let e : ServerEvent = event.FromClient by (Lead m) in
      let x : Stepped =
      waits (note.Prepares (txn_of s)) (record { leader = leader_with mode (txn_of s) by m r.votes; at = r.at }) r.send r.server in
      LeavesPaths k e s x c (after_step k e x c)
  begun_leaves mode by m =
      let r : Round = round_of mode by m s in
      let e : ServerEvent = event.FromClient by (Lead m) in
      let x : Stepped =
      waits (note.Prepares (txn_of s)) (record { leader = leader_with mode (txn_of s) by m r.votes; at = r.at }) r.send r.server in
      word_step_leaves c k e s x at (record {
        server = keeps_then s r.server x.server
            (rounds_leave (txn_of s) 0 by (parts_in mode m) (first_round s) s (keeps_same s (first_round s).server refl refl refl refl))
            (keeps_same r.server x.server refl refl refl refl);
        admitted = refl;
        sent = rounds_quiet (txn_of s) 0 by (parts_in mode m) (first_round s) none_quiet;
        takes = record { parcels = refl; effects = refl };
        taken = λ number. refl;
      })

  -- ## A word comes

  module _ (from : ℕ) where
    -- one that brings nothing, and after which it waits
    module _ (m : PeerMsg) (comes : IsThere k (event.FromPeer from m) c) (quiet : IsQuietWord m) where
      word_leaves : (x : Stepped) → KeepsOffPaths s x.server → x.out.admitted ≡ [] → AreQuietWords x.out.send
          → LeavesPaths k (event.FromPeer from m) s x c (after_step k (event.FromPeer from m) x c)
      word_leaves x server admitted sent = word_step_leaves c k (event.FromPeer from m) s x at (record {
        server = server;
        admitted = admitted;
        sent = sent;
        takes = quiet_taken k from m c comes quiet;
        taken = silent_taken k from m c comes quiet.path;
      })

      strange_leaves : LeavesPaths k (event.FromPeer from m) s (strange s) c (after_step k (event.FromPeer from m) (strange s) c)
      strange_leaves = word_leaves (strange s) (keeps_itself s) refl none_quiet

    module _ (m : VotedMsg) (comes : IsThere k (event.FromPeer from (peer.Vote m)) c) where
      abbrev e : ServerEvent
      e = event.FromPeer from (peer.Vote m)

      quiet : IsQuietWord (peer.Vote m)
      quiet = record { path = tt; parcel = refl; effects = refl }

      pub counted_leaves : (n : ServerNote) (number : ℕ) (v : Vote) (l : Leading)
          → LeavesPaths k e s (waits n (with_vote number v l) [] s) c (after_step k e (waits n (with_vote number v l) [] s) c)
      counted_leaves n number v l =
          let x : Stepped = waits n (with_vote number v l) [] s in
          word_leaves (peer.Vote m) comes quiet x (keeps_same s x.server refl refl refl refl) refl none_quiet

      -- on a part of its own
      pub own_leaves : (n : ServerNote) (number : ℕ) (p : Part) (l : Leading)
          → let v : Vote = vote_here s l.leader.session p in
          let x : Stepped =
          waits n (with_vote number v (asked_at number s.me l)) (recalls_for v s p) (after_own_vote l.leader.txn p v s) in
          LeavesPaths k e s x c (after_step k e x c)
      own_leaves n number p l =
          let v : Vote = vote_here s l.leader.session p in
          let t : Server = after_own_vote l.leader.txn p v s in
          let x : Stepped = waits n (with_vote number v (asked_at number s.me l)) (recalls_for v s p) t in
          word_leaves (peer.Vote m) comes quiet x
          (keeps_then s t x.server (own_vote_leaves s l.leader.session l.leader.txn p v refl) (keeps_same t x.server refl refl refl refl))
          refl (recalls_quiet v s p)

      pub sought_leaves : (number to : ℕ) (p : Part) (l : Leading)
          → LeavesPaths k e s (seeks number to p l s) c (after_step k e (seeks number to p l s) c)
      sought_leaves number to p l =
          let x : Stepped = seeks number to p l s in
          word_leaves (peer.Vote m) comes quiet x (keeps_same s x.server refl refl refl refl) refl
          (asks_quiet to l.leader.txn number l.leader.session p)

      pub odd_vote_leaves : LeavesPaths k e s (strange s) c (after_step k e (strange s) c)
      odd_vote_leaves = strange_leaves (peer.Vote m) comes quiet

    -- another server asks for a part
    pub prepared_leaves : (m : PrepareMsg) → IsThere k (event.FromPeer from (peer.Prepare m)) c
        → LeavesPaths k (event.FromPeer from (peer.Prepare m)) s (prepare_step from m s) c
        (after_step k (event.FromPeer from (peer.Prepare m)) (prepare_step from m s) c)
    prepared_leaves m comes = by (is_prepared m.txn m.number s.prepared)
      where
        quiet : IsQuietWord (peer.Prepare m)
        quiet = record { path = tt; parcel = refl; effects = refl }

        by : (b : Bool) → let x : Stepped = cond b (strange s) (votes (vote_here s m.session m.part) from m s) in
            LeavesPaths k (event.FromPeer from (peer.Prepare m)) s x c (after_step k (event.FromPeer from (peer.Prepare m)) x c)
        by true = strange_leaves (peer.Prepare m) comes quiet
        by false =
            let v : Vote = vote_here s m.session m.part in
            let answer : PeerMsg = peer.Vote (record { txn = m.txn; number = m.number; vote = v }) in
            word_leaves (peer.Prepare m) comes quiet (votes v from m s) (vote_leaves s m.session (ready_of m) v refl) refl
            (quiet_both (to_server from answer ∷ []) (recalls_for v s m.part)
            (quiet_one from answer (record { path = tt; parcel = refl; effects = refl })) (recalls_quiet v s m.part))

    -- what was decided is done
    pub done_leaves : (m : DoneMsg) → IsThere k (event.FromPeer from (peer.Done m)) c
        → LeavesPaths k (event.FromPeer from (peer.Done m)) s (done_step m s) c
        (after_step k (event.FromPeer from (peer.Done m)) (done_step m s) c)
    done_leaves m comes = of (ending_of m.txn s.ending)
      where
        Leaves : Stepped → Type 0
        Leaves x = LeavesPaths k (event.FromPeer from (peer.Done m)) s x c (after_step k (event.FromPeer from (peer.Done m)) x c)

        quiet : IsQuietWord (peer.Done m)
        quiet = record { path = tt; parcel = refl; effects = refl }

        ends : (x : Ending) (left : List (ℕ × ℕ)) → Leaves (done_with x left s)
        ends x [] =
            let y : Stepped = done_with x [] s in
            word_leaves (peer.Done m) comes quiet y (keeps_same s y.server refl refl refl refl) refl
            (answers_quiet x.session (answer.Led x.end))
        ends x (z ∷ zs) =
            let y : Stepped = done_with x (z ∷ zs) s in
            word_leaves (peer.Done m) comes quiet y (keeps_same s y.server refl refl refl refl) refl none_quiet

        by : (x : Ending) (b : Bool) → Leaves (cond b (done_with (without_done m.number x) (without_done m.number x).awaits s) (strange s))
        by x true = ends (without_done m.number x) (without_done m.number x).awaits
        by x false = strange_leaves (peer.Done m) comes quiet

        of : (o : Option Ending) → Leaves (done_of o m s)
        of None = strange_leaves (peer.Done m) comes quiet
        of (Some x) = by x (awaits_done m.number x.awaits)
