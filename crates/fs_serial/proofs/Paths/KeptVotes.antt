-- A server is asked for a part and votes, or a leader is told a vote and waits: all servers keep what they have to keep.
use Rattle.std.proofs.Common.{◌≡◌, ◌==◌, ◌∙◌, ◌⊎◌, ℕ, true, false, List, [], ◌∷◌, refl, sym, ap, subst, inl, inr}
use Rattle.std.specs.Prelude.{Some, None, slice_get, slice_set}
use Rattle.std.specs.List.{flat_map}
use Rattle.std.proofs.lemmas.Bool.{eqb-false}
use Rattle.std.proofs.lemmas.List.{length-set}
use Rattle.fs_ident.specs.In.{In}
use Rattle.fs_ident.specs.declared.actor.Peer.{Peer}
use Rattle.fs_ident.specs.declared.actor.TxnNo.{TxnNo}
use Rattle.fs_ident.proofs.Standing.{In-append, In-got}
use Rattle.fs_field.specs.declared.effect.Effect.{Effect}
use Rattle.fs_field.specs.declared.row.Row.{Row}
use Rattle.fs_field.specs.declared.used.Part.{Part}
use Rattle.fs_field.specs.declared.vote.Vote.{Vote}
use Rattle.fs_field.specs.declared.vote.Vote.TheVariants as vote
use Rattle.fs_msg.specs.declared.msg.Msg.{Msg}
use Rattle.fs_msg.specs.declared.peer_msg.PeerMsg.TheVariants as peer
use Rattle.fs_msg.specs.declared.prepare.Prepare.{Prepare as PrepareMsg}
use Rattle.fs_msg.specs.declared.server_note.ServerNote.{ServerNote}
use Rattle.fs_msg.specs.declared.server_note.ServerNote.TheVariants as note
use Rattle.fs_msg.specs.declared.voted.Voted.{Voted as VotedMsg}
use Rattle.fs_path.specs.Tables.{PathTables}
use Rattle.fs_client.specs.declared.led.Led.{Led}
use Rattle.fs_server.specs.Concludes.{waits}
use Rattle.fs_server.specs.Counts.{after_own_vote, ask_for, asked_at, paths_voted, seeks, with_vote}
use Rattle.fs_server.specs.Follows.{after_vote, prepare_step, ready_of, recalls_for, to_server, vote_here, votes}
use Rattle.fs_server.specs.Server.{Stepped, is_mine}
use Rattle.fs_server.specs.declared.event.ServerEvent.{ServerEvent}
use Rattle.fs_server.specs.declared.event.ServerEvent.TheVariants as event
use Rattle.fs_server.specs.declared.state.Server.{Server}
use Rattle.fs_txn.specs.Leading.{said_by}
use Rattle.fs_txn.specs.Locks.{Agreed}
use Rattle.fs_txn.specs.Preparing.{rows_voted}
use Rattle.fs_txn.specs.Stages.{Key, Told, word_to}
use Rattle.fs_txn.specs.Stages.Word.{Decide, Voted}
use Rattle.fs_txn.specs.Votes.{Votes, is_moved, votes_after}
use Rattle.fs_txn.specs.declared.leading.Leading.{Leading}
use Rattle.fs_txn.specs.declared.ready.Ready.{Ready}
use Rattle.fs_txn.proofs.Telling.{finds}
use Rattle.fs_serial.specs.Cluster.{Cluster, InFlight, IsThere, after_step, in_flight_from, is_between, parcels_of}
use Rattle.fs_serial.specs.KeptFiles.{FilesKept, FreezesFor, KeepsFiles}
use Rattle.fs_serial.specs.Leading.{LedHolds}
use Rattle.fs_serial.specs.Seen.{ClusterHolds}
use Rattle.fs_serial.specs.Words.{desks_of, key_of, prepared_in, said_at}
use Rattle.fs_serial.proofs.Lists.SetAt.{get_other}
use Rattle.fs_serial.proofs.Paths.KeptAfter.{WaitsFor, modes_still}
use Rattle.fs_serial.proofs.Paths.KeptHere.{IsKeptIn, keeps_more, kept_still, kept_there, voted_still}
use Rattle.fs_serial.proofs.Paths.KeptQuiet.{quiet_keeps}
use Rattle.fs_serial.proofs.Transactions.AwaitedWords.{IsAwaited, prepare_awaited, prepare_here}
use Rattle.fs_serial.proofs.Transactions.LedCounted.{apart, place, said_again, set_alone, set_there}
use Rattle.fs_serial.proofs.Transactions.OwnVotes.{counts_here}
use Rattle.fs_serial.proofs.Transactions.PlacesAfter.{word_taken}
use Rattle.fs_serial.proofs.Transactions.Recalled.{recalls_hand_nothing, recalls_tell_nothing}
use Rattle.fs_serial.proofs.Transactions.RoundsLocks.{NoDecision, ask_undecided, recalls_undecided}
use Rattle.fs_serial.proofs.Transactions.Tables.{in_with_leading, said_more}
use Rattle.fs_serial.proofs.Transactions.YesParts.{ChangesOne}
use Rattle.fs_serial.proofs.WholeRuns.LedEvents.{voted_leading, voted_rows}
use Rattle.fs_serial.proofs.WholeRuns.LedKept.{all_keep_led}

module _ (skew greatest k : ℕ) (c : Cluster) (s : Server) (at : slice_get c.servers k ≡ Some s) (h : ClusterHolds skew greatest c)
    (f : FilesKept c) where
  abbrev here : In s c.servers
  here = In-got c.servers k s at

  me : s.me ≡ k
  me = h.places.numbered k s at

  -- ## A part is asked for

  module _ (from : ℕ) (m : PrepareMsg) (comes : IsThere k (event.FromPeer from (peer.Prepare m)) c) where
    abbrev new : Ready
    new = ready_of m

    abbrev key : Key
    key = key_of m.txn m.number

    vote_tells : (v : Vote) → NoDecision k (votes v from m s).out.send
    vote_tells v other place effects (inl e) =
        let wrong : Decide effects ≡ Voted v = ap (λ (w : Told). w.word) e in absurd (cc wrong)
    vote_tells v other place effects (inr i) =
        subst (In (word_to other place (Decide effects))) (recalls_tell_nothing k v s m.part) i

    voted_here : (v : Vote) → KeepsFiles (after_vote v new s)
    voted_here vote.Yes =
        keeps_more s (after_vote vote.Yes new s) (f.here s here) (kept_still m.txn m.part.freeze s.paths)
        (λ y i. elim (said_more new s.prepared (flat_map (said_by s.me) s.leading) y i) as
        (λ _. In y (said_at s) ⊎ IsKeptIn (after_vote vote.Yes new s).paths y) [
          | inl e ↦ inr (subst (IsKeptIn (after_vote vote.Yes new s).paths) (sym e)
              (λ file freeze. kept_there m.txn m.part.freeze file s.paths freeze))
          | inr j ↦ inl j
        ])
    voted_here (vote.Ended lease until now) = f.here s here
    voted_here (vote.PathsOut lease) = f.here s here
    voted_here (vote.Moved prefix to) = f.here s here

    -- the part was ready nowhere, so it was told nothing
    not_told : (place : ℕ) (effects : List Effect) → WaitsFor c new place effects → ⊥
    not_told place effects told =
        let found : prepared_in c.servers place key ≡ Some (h.led.parts key) =
        finds (desks_of h.led.parts c) key place effects h.led.stages told in
        let none : prepared_in c.servers place key ≡ None = (prepare_here k from c s at h.led m comes).nowhere place in
        let wrong : Some (h.led.parts key) ≡ None = sym found ∙ none in
        absurd (cc wrong)

    voted_prepared : (v : Vote) (y : Ready) → In y (after_vote v new s).prepared
        → In y s.prepared ⊎ ((place : ℕ) (effects : List Effect) → WaitsFor c y place effects → ⊥)
    voted_prepared vote.Yes y i = elim (In-append y s.prepared (new ∷ []) i) as
        (λ _. In y s.prepared ⊎ ((place : ℕ) (effects : List Effect) → WaitsFor c y place effects → ⊥)) [
          | inl j ↦ inl j
          | inr (inl e) ↦ inr (λ place effects told. not_told place effects (subst (λ (z : Ready). WaitsFor c z place effects) e told))
          | inr (inr z) ↦ absurd z
        ]
    voted_prepared (vote.Ended lease until now) y i = inl i
    voted_prepared (vote.PathsOut lease) y i = inl i
    voted_prepared (vote.Moved prefix to) y i = inl i

    abbrev v : Vote
    v = vote_here s m.session m.part

    abbrev asks : ServerEvent
    asks = event.FromPeer from (peer.Prepare m)

    abbrev asking : InFlight
    asking = record { from = from; to = k; message = peer.Prepare m }

    voted_kept : FilesKept (after_step k asks (votes v from m s) c)
    voted_kept = quiet_keeps k c s at asks (votes v from m s) f (record {
      led = subst (λ (x : Stepped). LedHolds (after_step k asks x c)) (prepare_awaited k from c s at h.led m comes)
          ((all_keep_led skew greatest k c s at h).prepared from m comes);
      records = (voted_rows v new s).records;
      taken = word_taken (is_between from k) c.in_flight asking comes refl;
      hands = recalls_hand_nothing k v s m.part;
      tells = vote_tells v;
      here = voted_here v;
      prepared = voted_prepared v;
      modes = modes_still c s (after_vote v new s) here f (voted_leading v new s);
    })

    pub prepare_kept : FilesKept (after_step k asks (prepare_step from m s) c)
    prepare_kept = subst (λ (x : Stepped). FilesKept (after_step k asks x c)) (sym (prepare_awaited k from c s at h.led m comes)) voted_kept

  -- ## A vote comes

  module _ (from : ℕ) (m : VotedMsg) (comes : IsThere k (event.FromPeer from (peer.Vote m)) c) (q : IsAwaited s m) where
    abbrev l : Leading
    l = q.leading

    abbrev e : ServerEvent
    e = event.FromPeer from (peer.Vote m)

    abbrev telling : InFlight
    telling = record { from = from; to = k; message = peer.Vote m }

    module _ (places : List ℕ) (counted : Votes) (rows : List Row) (paths : PathTables) (n : ServerNote) (ms : List (Peer × Msg)) where
      abbrev then : Leading
      then = record { leader = record l.leader { votes = counted }; at = places }

      abbrev x : Stepped
      x = waits n then ms (record s { rows = rows; paths = paths })

      waits_modes : (z : Leading) → In z x.server.leading → (d : Led) → (c.lines z.leader.session).client.led ≡ Some d
          → FreezesFor d.kind z.leader.mode z.leader.op
      waits_modes z i d led = elim (in_with_leading then s.leading z i) as (λ _. FreezesFor d.kind z.leader.mode z.leader.op) [
        | inl is ↦ subst (λ (y : Leading). FreezesFor d.kind y.leader.mode y.leader.op) (sym is)
            (f.modes s here l q.among d (sym (ap (λ (y : Leading). (c.lines y.leader.session).client.led) is) ∙ led))
        | inr j ↦ f.modes s here z j.0 d led
      ]

      waits_kept : LedHolds (after_step k e x c) → parcels_of (in_flight_from k ms) ≡ [] → NoDecision k ms → KeepsFiles x.server
          → FilesKept (after_step k e x c)
      waits_kept led hands tells keeps = quiet_keeps k c s at e x f (record {
        led = led;
        records = refl;
        taken = word_taken (is_between from k) c.in_flight telling comes refl;
        hands = hands;
        tells = tells;
        here = keeps;
        prepared = λ y i. inl i;
        modes = waits_modes;
      })

    pub counted_kept : is_moved m.vote ≡ false
        → FilesKept (after_step k e (waits (note.Waits l.leader.txn) (with_vote m.number m.vote l) [] s) c)
    counted_kept stays =
        let n : ServerNote = note.Waits l.leader.txn in
        let alone = set_alone k from c s at h.led me m l comes q.led m.vote stays l.at refl (λ i off. refl) in
        waits_kept l.at (votes_after l.leader.votes m.number m.vote) s.rows s.paths n []
        ((all_keep_led skew greatest k c s at h).counted from m comes l n q.led q.awaited stays) refl (λ key at_place effects i. i)
        (keeps_more s (waits n (with_vote m.number m.vote l) [] s).server (f.here s here) (λ z i. i)
        (λ y i. elim (said_again k from c s at h.led me m l comes q.led (votes_after l.leader.votes m.number m.vote) l.at alone s.rows
        s.paths y i) as (λ _. In y (said_at s) ⊎ IsKeptIn s.paths y) [
          | inl j ↦ inl j
          | inr r ↦
              let same : Some from ≡ Some s.me =
              sym (place k from c s at h.led me m l comes q.led).0 ∙ ap (slice_get l.at) r.0 ∙ r.1.asked in
              let away : from ≡ s.me = cc in
              absurd (eqb-false from k (apart k from c s at h.led me m l comes q.led) (away ∙ me))
        ]))

    module _ (p : Part) (part : slice_get l.leader.parts m.number ≡ Some p) (moved : is_moved m.vote ≡ true) where
      pub sought_kept : (to : ℕ) → (to == s.me) ≡ false → FilesKept (after_step k e (seeks m.number to p l s) c)
      sought_kept to off =
          let n : ServerNote = note.Seeks l.leader.txn to in
          let places : List ℕ = slice_set l.at m.number to in
          let alone : ChangesOne l m.number l.leader.votes places = record {
            all_votes = refl;
            all_places = length-set l.at m.number to;
            other_votes = λ i off. refl;
            other_places = λ i off. get_other l.at m.number i to off;
          } in
          let ask = ask_for l.leader.txn m.number l.leader.session p in
          waits_kept places l.leader.votes s.rows s.paths n (to_server to ask ∷ [])
          ((all_keep_led skew greatest k c s at h).sought from m comes l p to q.led q.awaited moved part off) refl
          (ask_undecided k to l.leader.txn m.number l.leader.session p)
          (keeps_more s (seeks m.number to p l s).server (f.here s here) (λ z i. i)
          (λ y i. elim (said_again k from c s at h.led me m l comes q.led l.leader.votes places alone s.rows s.paths y i) as
          (λ _. In y (said_at s) ⊎ IsKeptIn s.paths y) [
            | inl j ↦ inl j
            | inr r ↦
                let wrong : Some None ≡ Some (Some vote.Yes) =
                sym (place k from c s at h.led me m l comes q.led).1 ∙ ap (slice_get l.leader.votes) r.0 ∙ r.1.vote in
                absurd (cc wrong)
          ]))

      abbrev own : Vote
      own = vote_here s l.leader.session p

      abbrev home : List ℕ
      home = slice_set l.at m.number s.me

      abbrev paths_then : Vote → PathTables
      paths_then v = paths_voted v l.leader.txn p.freeze s.paths

      abbrev own_waits : Vote → Stepped
      own_waits v =
          waits (note.Waits l.leader.txn) (with_vote m.number v (asked_at m.number s.me l)) (recalls_for v s p)
          (after_own_vote l.leader.txn p v s)

      -- whoever says Yes then did so before, or it is this part
      own_said : (v : Vote) → is_moved v ≡ false → (y : Agreed) → In y (said_at (own_waits v).server)
          → In y (said_at s) ⊎ IsKeptIn (paths_then v) y
      own_said v stays y i =
          let alone = set_alone k from c s at h.led me m l comes q.led v stays home (length-set l.at m.number s.me)
          (λ n off. get_other l.at m.number n s.me off) in
          elim (said_again k from c s at h.led me m l comes q.led (votes_after l.leader.votes m.number v) home alone
          (rows_voted v l.leader.txn p.uses s.rows) (paths_then v) y i) as (λ _. In y (said_at s) ⊎ IsKeptIn (paths_then v) y) [
            | inl j ↦ inl j
            | inr r ↦
                let says : Some (Some v) ≡ Some (Some vote.Yes) =
                sym (set_there k from c s at h.led me m l comes q.led v stays)
                ∙ ap (slice_get (votes_after l.leader.votes m.number v)) r.0 ∙ r.1.vote in
                let yes : v ≡ vote.Yes = cc in
                let both : Some p ≡ Some y.wanted.part = sym part ∙ ap (slice_get l.leader.parts) r.0 ∙ r.1.part in
                let its : p ≡ y.wanted.part = cc in
                inr (λ file freeze. subst (λ (u : TxnNo). In (file, u) (paths_then v).frozen) (sym r.1.txn)
                (subst (λ (w : Vote). In (file, l.leader.txn) (paths_then w).frozen) (sym yes)
                (kept_there l.leader.txn p.freeze file s.paths (ap (λ (z : Part). z.freeze) its ∙ freeze))))
          ]

      pub own_kept : is_mine s p.file ≡ true → FilesKept (after_step k e (own_waits own) c)
      own_kept mine =
          let n : ServerNote = note.Waits l.leader.txn in
          waits_kept home (votes_after l.leader.votes m.number own) (rows_voted own l.leader.txn p.uses s.rows) (paths_then own) n
          (recalls_for own s p)
          ((all_keep_led skew greatest k c s at h).own from m comes l p n q.led q.awaited moved part mine)
          (recalls_hand_nothing k own s p) (recalls_undecided k own s p)
          (keeps_more s (own_waits own).server (f.here s here) (voted_still own l.leader.txn p.freeze s.paths)
          (own_said own (counts_here s l.leader.session p mine)))
