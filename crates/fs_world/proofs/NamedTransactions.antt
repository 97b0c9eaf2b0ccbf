-- What a server that leads operations, or has parts of them, has and sends at each step.
use Rattle.std.proofs.Common.{◌≡◌, ◌≢◌, ◌<◌, ℕ, ◌+◌, Bool, true, false, List, [], ◌∷◌, ◌++◌, Option, Some, None, refl, sym, subst}
use Rattle.std.proofs.Common.{cond, inl, inr, arith}
use Rattle.std.specs.List.{AllByRecursion, list_all}
use Rattle.std.specs.Prelude.{◌==◌, filter, slice_get}
use Rattle.fs_ident.specs.declared.actor.Peer.{Peer}
use Rattle.fs_ident.specs.declared.actor.Session.{Session}
use Rattle.fs_ident.specs.In.{In}
use Rattle.fs_ident.specs.declared.actor.TxnNo.{TxnNo}
use Rattle.fs_ident.proofs.Passing.{found}
use Rattle.fs_ident.proofs.Standing.{In-more}
use Rattle.fs_field.specs.Table.{same_txn}
use Rattle.fs_field.specs.declared.effect.Effect.{Effect}
use Rattle.fs_field.specs.declared.path.PathAnswer.{PathAnswer}
use Rattle.fs_field.specs.declared.used.Part.{Part}
use Rattle.fs_field.specs.declared.vote.Vote.{Vote}
use Rattle.fs_field.specs.declared.vote.Vote.TheVariants as vote
use Rattle.fs_map.specs.Map.{server_of}
use Rattle.fs_msg.specs.declared.lead.Lead.{Lead as ToLead}
use Rattle.fs_msg.specs.declared.msg.Msg.{Msg}
use Rattle.fs_msg.specs.declared.peer_msg.PeerMsg.{PeerMsg}
use Rattle.fs_msg.specs.declared.decide.Decide.{Decide}
use Rattle.fs_msg.specs.declared.done.Done.{Done}
use Rattle.fs_msg.specs.declared.prepare.Prepare.{Prepare}
use Rattle.fs_msg.specs.declared.server_note.ServerNote.{ServerNote}
use Rattle.fs_msg.specs.declared.server_note.ServerNote.TheVariants as note
use Rattle.fs_msg.specs.declared.voted.Voted.{Voted}
use Rattle.fs_record.specs.Records.{RecordMap}
use Rattle.fs_record.proofs.AllApplied.{after_all_kept}
use Rattle.fs_record.specs.Applied.{is_undoable, records_after_all, takes_away}
use Rattle.fs_record.specs.declared.led_end.LedEnd.{LedEnd}
use Rattle.fs_serial.proofs.Lists.SetAt.{In_set}
use Rattle.fs_serial.proofs.Moves.KeptPaths.{kept_alike, left_alike, voted_alike}
use Rattle.fs_serial.proofs.Transactions.PlacesAfter.{locked_so, unlocked_so, unlocked_unless, vote_names, voted_so}
use Rattle.fs_server.specs.Server.{Stepped, is_mine, strange}
use Rattle.fs_server.specs.declared.state.Server.{Server as Core}
use Rattle.fs_server.specs.Begins.{Round, asked_part, begins, first_round, leader_with, own_part, part_round, parts_in, round_of, rounds}
use Rattle.fs_server.specs.Begins.{txn_of}
use Rattle.fs_server.specs.Concludes.{concludes, ends_now, goes_on, keeps_for, path_for, tells, waits}
use Rattle.fs_server.specs.Counts.{after_own_vote, ask_for, asked_at, comes_home, counts, counts_own, done_of, done_step, done_with, seeks}
use Rattle.fs_server.specs.Counts.{paths_voted, sent_on, vote_of, vote_step, voted, with_vote}
use Rattle.fs_server.specs.Follows.{after_vote, applies, decide_step, is_prepared, paths_kept, prepare_step, ready_of, recalls_for}
use Rattle.fs_server.specs.Follows.{to_server, vote_here, votes}
use Rattle.fs_txn.specs.Deciding.{decision, told_effects}
use Rattle.fs_txn.specs.Leading.{awaits_done, elsewhere, end_of_decision, ending_of, leading_of, own_effects, without_done}
use Rattle.fs_txn.specs.Preparing.{rows_locked, rows_voted}
use Rattle.fs_txn.specs.Ready.{is_awaited, without_prepared}
use Rattle.fs_txn.specs.Votes.{Votes, awaits, is_full}
use Rattle.fs_txn.specs.declared.decision.Decision.{Decision}
use Rattle.fs_txn.specs.declared.leading.Ending.{Ending}
use Rattle.fs_txn.specs.declared.leading.Leading.{Leading}
use Rattle.fs_txn.specs.declared.mode.Mode2.{Mode2}
use Rattle.fs_txn.specs.declared.ready.Ready.{Ready}
use Rattle.fs_wire.specs.Readable.{is_readable_effect}
use Rattle.fs_serial.specs.Places.{VoteNames}
use Rattle.fs_world.specs.Served.{SessionStates}
use Rattle.fs_world.specs.Linked.{Brings, HasJoined, IsEndingOf, IsLeadingOf, IsNamedLed, IsServed}
use Rattle.fs_world.proofs.NamedLeading.{AreNamedVotes, TellsOpen, decision_ends, decision_tells, elsewhere_at, ending_more, leading_less}
use Rattle.fs_world.proofs.NamedLeading.{leading_more, own_tellable, read_open, relocked_of, tellable_open, tellable_read, votes_named}
use Rattle.fs_world.proofs.NamedMaps.{server_named}
use Rattle.fs_world.proofs.NamedPaths.{others_still, recalls_sent}
use Rattle.fs_world.proofs.NamedSends.{AreSent, IsSent, IsStepped, differ, either_goes, strange_goes}
use Rattle.fs_world.proofs.OpenHandles.{AddsOpen, each_both, each_left, open_after_all}

module _ (servers : ℕ) (sessions : SessionStates) (k : ℕ) (some : k < servers) where
  abbrev Fine : Core → Type 0
  Fine s = IsServed servers sessions k s

  abbrev Goes : Stepped → Type 0
  Goes x = IsStepped servers sessions k x

  -- ## What is sent

  -- what is not here is at another server that there is
  not_here : (s : Core) (id : List ℕ) → is_mine s id ≡ false → Fine s → k ≢ server_of s.map id
  not_here s id e h = differ servers sessions k (server_of s.map id) s h e

  map_named : (s : Core) (id : List ℕ) → Fine s → server_of s.map id < servers
  map_named s id h = server_named servers s.map id (omega (arith, some)) h.named

  vote_fine : (by : Session) (p : Part) (s : Core) → Fine s → VoteNames servers (vote_here s by p)
  vote_fine by p s h = vote_names servers s by p (λ id. map_named s id h)

  -- a message to another server
  sends_one : (to : ℕ) (m : PeerMsg) → to < servers → k ≢ to → Brings servers sessions m → AreSent servers sessions k (to_server to m ∷ [])
  sends_one to m few apart brings = (record { from = some; to = few; apart = apart; brings = brings }, tt)

  -- with other locks, and other files that transactions keep
  voted_fine : (txn : TxnNo) (p : Part) (v : Vote) (s : Core) → Fine s → Fine (after_own_vote txn p v s)
  voted_fine txn p v s h = record {
    me = h.me;
    peers = others_still servers k s.paths (paths_voted v txn p.freeze s.paths) (voted_alike v txn p.freeze s.paths) h.peers;
    named = h.named;
    records = h.records;
    handles = h.handles;
    rows = relocked_of (HasJoined sessions) s.rows (rows_voted v txn p.uses s.rows) (voted_so v txn p.uses s.rows) h.rows;
    leading = h.leading;
    ending = h.ending;
  }

  -- all parts have voted
  end_sends : (out : List (ℕ × ℕ)) (by : Session) (e : LedEnd) → HasJoined sessions by → IsNamedLed servers e
      → AreSent servers sessions k (ends_now out by e)
  end_sends [] by e of named = ((of, named, refl), tt)
  end_sends (x ∷ xs) by e of named = tt

  tells_sent : (txn : TxnNo) (d : Decision) (out : List (ℕ × ℕ)) → TellsOpen d → ((x : ℕ × ℕ) → In x out → (x.1 < servers) × (k ≢ x.1))
      → AreSent servers sessions k (tells txn d out)
  tells_sent txn d [] plain others = tt
  tells_sent txn d (x ∷ xs) plain others = (
    record {
      from = some;
      to = (others x (inl refl)).0;
      apart = (others x (inl refl)).1;
      brings = tellable_read (told_effects d x.0) (plain x.0);
    },
    tells_sent txn d xs plain (λ y i. others y (inr i)),
  )

  conclude_goes : (l : Leading) (path : Option PathAnswer) (sent : List (Peer × Msg)) (s : Core) → IsLeadingOf servers sessions l
      → AreSent servers sessions k sent → Fine s → Goes (concludes l path sent s)
  conclude_goes l path sent s own sends h =
      let d : Decision = decision l.leader path in
      let out : List (ℕ × ℕ) = elsewhere s.me l in
      let plain : TellsOpen d = decision_tells l.leader path in
      let named : IsNamedLed servers (end_of_decision d) = decision_ends servers l.leader path own.votes in
      let es : List Effect = own_effects s.me l d in
      let x : Ending = record { txn = l.leader.txn; session = l.leader.session; end = end_of_decision d; awaits = out } in
      record {
        server = record {
          me = h.me;
          peers = h.peers;
          named = h.named;
          records = after_all_kept s.records es h.records;
          handles = open_after_all s.records es (tellable_open es (own_tellable s.me l d plain)) h.handles;
          rows = relocked_of (HasJoined sessions) s.rows _ (unlocked_unless (keeps_for d out) l.leader.txn s.rows) h.rows;
          leading = leading_less servers sessions l.leader.txn s.leading h.leading;
          ending = ending_more servers sessions x s.ending (record { session = own.session; end = named }) h.ending;
        };
        sends = each_both (IsSent servers sessions k) sent _ sends
            (each_both (IsSent servers sessions k) (tells l.leader.txn d out) _
            (tells_sent l.leader.txn d out plain
            (λ y i. let q = elsewhere_at s.me l y i in (own.at y.1 q.0, differ servers sessions k y.1 s h q.1)))
            (end_sends out l.leader.session (end_of_decision d) own.session named));
      }

  wait_goes : (n : ServerNote) (l : Leading) (sent : List (Peer × Msg)) (s : Core) → IsLeadingOf servers sessions l
      → AreSent servers sessions k sent → Fine s → Goes (waits n l sent s)
  wait_goes n l sent s own sends h = record {
    server = record {
      me = h.me;
      peers = h.peers;
      named = h.named;
      records = h.records;
      handles = h.handles;
      rows = h.rows;
      leading = leading_more servers sessions l s.leading own h.leading;
      ending = h.ending;
    };
    sends = sends;
  }

  on_goes : (n : ServerNote) (l : Leading) (path : Option PathAnswer) (sent : List (Peer × Msg)) (s : Core)
      → IsLeadingOf servers sessions l → AreSent servers sessions k sent → Fine s → Goes (goes_on n l path sent s)
  on_goes n l path sent s own sends h =
      either_goes servers sessions k (is_full l.leader.votes) (concludes l path sent s) (waits n l sent s)
      (conclude_goes l path sent s own sends h) (wait_goes n l sent s own sends h)

  -- ## A transaction begins

  -- the server, the votes so far, whom its parts were asked of, and what is sent
  record IsRound (r : Round) : Type 0 where
    server : Fine r.server
    votes : AreNamedVotes servers r.votes
    at : (j : ℕ) → In j r.at → j < servers
    sends : AreSent servers sessions k r.send

  one_vote : (votes : Votes) (v : Option Vote) → ((w : Vote) → v ≡ Some w → VoteNames servers w) → AreNamedVotes servers votes
      → AreNamedVotes servers (votes ++ v ∷ [])
  one_vote votes v named h w i = In-more (Some w) votes v (VoteNames servers w) (λ j. h w j) (λ e. named w (sym e)) i

  one_place : (at : List ℕ) (to : ℕ) → to < servers → ((j : ℕ) → In j at → j < servers) → (j : ℕ) → In j (at ++ to ∷ []) → j < servers
  one_place at to few h j i = In-more j at to (j < servers) (λ q. h j q) (λ e. subst (λ (n : ℕ). n < servers) (sym e) few) i

  own_round : (txn : TxnNo) (by : Session) (p : Part) (r : Round) → IsRound r → IsRound (own_part txn p (vote_here r.server by p) r)
  own_round txn by p r h =
      let v : Vote = vote_here r.server by p in
      record {
        server = voted_fine txn p v r.server h.server;
        votes =
            one_vote r.votes (Some v)
            (λ w e. let is : v ≡ w = cc in subst (VoteNames servers) is (vote_fine by p r.server h.server)) h.votes;
        at = one_place r.at r.server.me (subst (λ (n : ℕ). n < servers) (sym h.server.me) some) h.at;
        sends = each_both (IsSent servers sessions k) r.send _ h.sends (recalls_sent servers sessions k some v p r.server h.server);
      }

  asked_round : (txn : TxnNo) (number : ℕ) (by : Session) (p : Part) (to : ℕ) (r : Round) → to < servers → k ≢ to → HasJoined sessions by
      → IsRound r → IsRound (asked_part txn number by p to r)
  asked_round txn number by p to r few apart of h = record {
    server = h.server;
    votes = one_vote r.votes None (λ w e. absurd (cc)) h.votes;
    at = one_place r.at to few h.at;
    sends = each_both (IsSent servers sessions k) r.send _ h.sends (sends_one to (ask_for txn number by p) few apart of);
  }

  each_round : (txn : TxnNo) (number : ℕ) (by : Session) (p : Part) (r : Round) → HasJoined sessions by → IsRound r
      → IsRound (part_round txn number by p r)
  each_round txn number by p r of h = at (is_mine r.server p.file) refl
    where
      to : ℕ
      to = server_of r.server.map p.file

      at : (b : Bool) → is_mine r.server p.file ≡ b
          → IsRound (cond b (own_part txn p (vote_here r.server by p) r) (asked_part txn number by p to r))
      at true e = own_round txn by p r h
      at false e = asked_round txn number by p to r (map_named r.server p.file h.server) (not_here r.server p.file e h.server) of h

  all_rounds : (txn : TxnNo) (number : ℕ) (by : Session) (ps : List Part) (r : Round) → HasJoined sessions by → IsRound r
      → IsRound (rounds txn number by ps r)
  all_rounds txn number by [] r of h = h
  all_rounds txn number by (p ∷ ps) r of h =
      all_rounds txn (number + 1) by ps (part_round txn number by p r) of (each_round txn number by p r of h)

  pub begin_goes : (mode : Mode2) (by : Session) (m : ToLead) (s : Core) → HasJoined sessions by → Fine s → Goes (begins mode by m s)
  begin_goes mode by m s of h =
      let fine : Fine (first_round s).server = record {
        me = h.me;
        peers = h.peers;
        named = h.named;
        records = h.records;
        handles = h.handles;
        rows = h.rows;
        leading = h.leading;
        ending = h.ending;
      } in
      let first : IsRound (first_round s) = record { server = fine; votes = λ v i. absurd i; at = λ j i. absurd i; sends = tt } in
      let r : Round = round_of mode by m s in
      let all : IsRound (round_of mode by m s) = all_rounds (txn_of s) 0 by (parts_in mode m) (first_round s) of first in
      on_goes (note.Prepares (txn_of s)) (record { leader = leader_with mode (txn_of s) by m r.votes; at = r.at })
      (path_for mode m.op s) r.send r.server
      (record { session = of; at = all.at; votes = all.votes }) all.sends all.server

  -- ## A vote comes

  asked_there : (number to : ℕ) (l : Leading) → to < servers → IsLeadingOf servers sessions l
      → IsLeadingOf servers sessions (asked_at number to l)
  asked_there number to l few own = record {
    session = own.session;
    at = λ j i. elim (In_set l.at number to j i) as (λ _. j < servers) [
      | inl e ↦ subst (λ (n : ℕ). n < servers) (sym e) few
      | inr q ↦ own.at j q
    ];
    votes = own.votes;
  }

  seek_goes : (number to : ℕ) (p : Part) (l : Leading) (s : Core) → to < servers → k ≢ to → IsLeadingOf servers sessions l → Fine s
      → Goes (seeks number to p l s)
  seek_goes number to p l s few apart own h =
      wait_goes (note.Seeks l.leader.txn to) (asked_at number to l) (to_server to (ask_for l.leader.txn number l.leader.session p) ∷ []) s
      (asked_there number to l few own) (sends_one to (ask_for l.leader.txn number l.leader.session p) few apart own.session) h

  counted_goes : (number : ℕ) (v : Vote) (l : Leading) (path : Option PathAnswer) (sent : List (Peer × Msg)) (s : Core)
      → VoteNames servers v → IsLeadingOf servers sessions l → AreSent servers sessions k sent → Fine s
      → Goes (goes_on (note.Waits l.leader.txn) (with_vote number v l) path sent s)
  counted_goes number v l path sent s named own sends h =
      on_goes (note.Waits l.leader.txn) (with_vote number v l) path sent s
      (record { session = own.session; at = own.at; votes = votes_named servers l.leader.votes number v named own.votes }) sends h

  count_goes : (number : ℕ) (v : Vote) (l : Leading) (s : Core) → VoteNames servers v → IsLeadingOf servers sessions l → Fine s
      → Goes (counts number v l s)
  count_goes number v l s named own h = counted_goes number v l (path_for l.leader.mode l.leader.op s) [] s named own tt h

  home_goes : (number : ℕ) (p : Part) (l : Leading) (s : Core) → IsLeadingOf servers sessions l → Fine s → Goes (comes_home number p l s)
  home_goes number p l s own h = at (is_mine s p.file) refl
    where
      v : Vote
      v = vote_here s l.leader.session p

      to : ℕ
      to = server_of s.map p.file

      at : (b : Bool) → is_mine s p.file ≡ b → Goes (cond b (counts_own number p v l s) (seeks number to p l s))
      at true e =
          counted_goes number v (asked_at number s.me l) (path_for l.leader.mode l.leader.op s) (recalls_for v s p)
          (after_own_vote l.leader.txn p v s)
          (vote_fine l.leader.session p s h)
          (asked_there number s.me l (subst (λ (n : ℕ). n < servers) (sym h.me) some) own) (recalls_sent servers sessions k some v p s h)
          (voted_fine l.leader.txn p v s h)
      at false e = seek_goes number to p l s (map_named s p.file h) (not_here s p.file e h) own h

  sent_on_goes : (number to : ℕ) (o : Option Part) (l : Leading) (s : Core) → to < servers → IsLeadingOf servers sessions l → Fine s
      → Goes (sent_on number to o l s)
  sent_on_goes number to None l s few own h = strange_goes servers sessions k s h
  sent_on_goes number to (Some p) l s few own h = at (to == s.me) refl
    where
      at : (b : Bool) → (to == s.me) ≡ b → Goes (cond b (comes_home number p l s) (seeks number to p l s))
      at true e = home_goes number p l s own h
      at false e = seek_goes number to p l s few (differ servers sessions k to s h e) own h

  voted_goes : (number : ℕ) (v : Vote) (l : Leading) (s : Core) → VoteNames servers v → IsLeadingOf servers sessions l → Fine s
      → Goes (voted number v l s)
  voted_goes number (vote.Moved prefix to) l s named own h = sent_on_goes number to (slice_get l.leader.parts number) l s named own h
  voted_goes number vote.Yes l s named own h = count_goes number vote.Yes l s named own h
  voted_goes number (vote.Ended lease until now) l s named own h = count_goes number (vote.Ended lease until now) l s named own h
  voted_goes number (vote.PathsOut lease) l s named own h = count_goes number (vote.PathsOut lease) l s named own h

  pub vote_goes : (m : Voted) (s : Core) → VoteNames servers m.vote → Fine s → Goes (vote_step m s)
  vote_goes m s named h = at (leading_of m.txn s.leading) refl
    where
      at : (o : Option Leading) → leading_of m.txn s.leading ≡ o → Goes (vote_of o m s)
      at None e = strange_goes servers sessions k s h
      at (Some l) e =
          let own : IsLeadingOf servers sessions l = h.leading l (found (λ (x : Leading). same_txn x.leader.txn m.txn) s.leading l e).0 in
          either_goes servers sessions k (awaits l.leader m.number) (voted m.number m.vote l s) (strange s)
          (voted_goes m.number m.vote l s named own h) (strange_goes servers sessions k s h)

  -- ## What was decided is done

  done_goes : (x : Ending) (left : List (ℕ × ℕ)) (s : Core) → IsEndingOf servers sessions x → Fine s → Goes (done_with x left s)
  done_goes x [] s own h = record {
    server = record {
      me = h.me;
      peers = h.peers;
      named = h.named;
      records = h.records;
      handles = h.handles;
      rows = relocked_of (HasJoined sessions) s.rows _ (unlocked_so x.txn s.rows) h.rows;
      leading = h.leading;
      ending = ending_more servers sessions x s.ending own h.ending;
    };
    sends = ((own.session, own.end, refl), tt);
  }
  done_goes x (y ∷ ys) s own h = record {
    server = record {
      me = h.me;
      peers = h.peers;
      named = h.named;
      records = h.records;
      handles = h.handles;
      rows = h.rows;
      leading = h.leading;
      ending = ending_more servers sessions x s.ending own h.ending;
    };
    sends = tt;
  }

  pub told_goes : (m : Done) (s : Core) → Fine s → Goes (done_step m s)
  told_goes m s h = at (ending_of m.txn s.ending) refl
    where
      at : (o : Option Ending) → ending_of m.txn s.ending ≡ o → Goes (done_of o m s)
      at None e = strange_goes servers sessions k s h
      at (Some x) e =
          let own : IsEndingOf servers sessions x = h.ending x (found (λ (y : Ending). same_txn y.txn m.txn) s.ending x e).0 in
          let left : Ending = without_done m.number x in
          either_goes servers sessions k (awaits_done m.number x.awaits) (done_with left left.awaits s) (strange s)
          (done_goes left left.awaits s (record { session = own.session; end = own.end }) h) (strange_goes servers sessions k s h)

  -- ## A part of another server's transaction

  part_fine : (v : Vote) (x : Ready) (s : Core) → Fine s → Fine (after_vote v x s)
  part_fine vote.Yes x s h = record {
    me = h.me;
    peers = others_still servers k s.paths (paths_kept x.txn x.part.freeze s.paths) (kept_alike x.txn x.part.freeze s.paths) h.peers;
    named = h.named;
    records = h.records;
    handles = h.handles;
    rows = relocked_of (HasJoined sessions) s.rows (rows_locked x.txn x.part.uses s.rows) (locked_so x.txn x.part.uses s.rows) h.rows;
    leading = h.leading;
    ending = h.ending;
  }
  part_fine (vote.Ended lease until now) x s h = h
  part_fine (vote.Moved prefix to) x s h = h
  part_fine (vote.PathsOut lease) x s h = h

  pub prepare_goes : (from : ℕ) (m : Prepare) (s : Core) → from < servers → k ≢ from → Fine s → Goes (prepare_step from m s)
  prepare_goes from m s few apart h =
      let v : Vote = vote_here s m.session m.part in
      either_goes servers sessions k (is_prepared m.txn m.number s.prepared) (strange s) (votes v from m s)
      (strange_goes servers sessions k s h)
      (record {
        server = part_fine v (ready_of m) s h;
        sends = ((sends_one from _ few apart (vote_fine m.session m.part s h)).0, recalls_sent servers sessions k some v m.part s h);
      })

  pub decide_goes : (from : ℕ) (m : Decide) (s : Core) → from < servers → k ≢ from → list_all is_readable_effect m.effects ≡ true → Fine s
      → Goes (decide_step from m s)
  decide_goes from m s few apart read h =
      let puts : List Effect = filter is_undoable m.effects in
      let takes : List Effect = filter takes_away m.effects in
      let applied : RecordMap = records_after_all s.records puts in
      let plain : AllByRecursion AddsOpen m.effects = read_open m.effects read in
      let waits_still : Bool = is_awaited m.txn (without_prepared m.txn m.number s.prepared) in
      either_goes servers sessions k (is_prepared m.txn m.number s.prepared) (applies from m s) (strange s)
      (record {
        server = record {
          me = h.me;
          peers = others_still servers k s.paths (applies from m s).server.paths (left_alike waits_still m.txn s.paths) h.peers;
          named = h.named;
          records = after_all_kept applied takes (after_all_kept s.records puts h.records);
          handles =
              open_after_all applied takes (each_left AddsOpen takes_away m.effects plain)
              (open_after_all s.records puts (each_left AddsOpen is_undoable m.effects plain) h.handles);
          rows = relocked_of (HasJoined sessions) s.rows _ (unlocked_unless waits_still m.txn s.rows) h.rows;
          leading = h.leading;
          ending = h.ending;
        };
        sends = sends_one from _ few apart tt;
      }) (strange_goes servers sessions k s h)
