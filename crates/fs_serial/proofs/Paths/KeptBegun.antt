-- A session asks for an operation to be led, and its parts vote or are asked for, or it is put off: all servers keep what they have to
-- keep.
use Rattle.std.proofs.Common.{◌≡◌, ◌+◌, ◌∙◌, ◌⊎◌, ℕ, suc, true, false, List, [], ◌∷◌, ◌++◌, length, map, refl, sym, ap, ap₂, subst}
use Rattle.std.proofs.Common.{inl, inr, arith}
use Rattle.std.specs.Prelude.{Option, Some, None, slice_get}
use Rattle.std.specs.List.{flat_map}
use Rattle.fs_ident.specs.In.{In}
use Rattle.fs_ident.specs.declared.actor.Peer.{Peer}
use Rattle.fs_ident.specs.declared.actor.Session.{Session}
use Rattle.fs_ident.specs.declared.actor.TxnNo.{TxnNo}
use Rattle.fs_ident.specs.declared.kind.Kind.{Kind}
use Rattle.fs_ident.specs.declared.kind.Kind.TheVariants.{File, Dir}
use Rattle.fs_ident.proofs.Standing.{In-append, In-behind, In-both, In-front, In-got}
use Rattle.fs_field.specs.declared.used.Part.{Part}
use Rattle.fs_field.specs.declared.vote.Vote.{Vote}
use Rattle.fs_field.specs.declared.vote.Vote.TheVariants.{Yes, Ended, PathsOut, Moved}
use Rattle.fs_map.specs.Map.{server_of}
use Rattle.fs_model.specs.declared.op.Op.{Op}
use Rattle.fs_model.specs.declared.op.Op.TheVariants as op
use Rattle.fs_msg.specs.declared.client_msg.ClientMsg.TheVariants.{Lead}
use Rattle.fs_msg.specs.declared.lead.Lead.{Lead as ToLead}
use Rattle.fs_msg.specs.declared.msg.Msg.{Msg}
use Rattle.fs_msg.specs.declared.server_note.ServerNote.TheVariants as note
use Rattle.fs_record.specs.declared.led_end.Why.{Why}
use Rattle.fs_client.specs.declared.led.Led.{Led}
use Rattle.fs_server.specs.Begins.{Round, asked_part, first_round, leader_with, own_part, part_round, parts_in, round_of, rounds, txn_of}
use Rattle.fs_server.specs.Concludes.{waits}
use Rattle.fs_server.specs.Counts.{ask_for}
use Rattle.fs_server.specs.Follows.{paths_kept, recalls_for, to_server, vote_here}
use Rattle.fs_server.specs.Leads.{mode_of, refuses}
use Rattle.fs_server.specs.Laws.{BeginsIn}
use Rattle.fs_server.specs.Server.{Stepped, is_mine}
use Rattle.fs_server.specs.declared.event.ServerEvent.{ServerEvent}
use Rattle.fs_server.specs.declared.event.ServerEvent.TheVariants.{FromClient}
use Rattle.fs_server.specs.declared.state.Server.{Server}
use Rattle.fs_txn.specs.Leading.{said_by, said_yes, with_leading}
use Rattle.fs_txn.specs.Locks.{Agreed, IsKept, IsOf}
use Rattle.fs_txn.specs.Ready.{agreed_of}
use Rattle.fs_txn.specs.Votes.{Votes}
use Rattle.fs_txn.specs.declared.leading.Leading.{Leading}
use Rattle.fs_txn.specs.declared.mode.Mode2.{Mode2}
use Rattle.fs_serial.specs.Cluster.{Cluster, IsThere, after_step, in_flight_from, parcels_of}
use Rattle.fs_serial.specs.KeptFiles.{FilesKept, FreezesFor, KeepsFiles}
use Rattle.fs_serial.specs.Seen.{ClusterHolds}
use Rattle.fs_serial.specs.Words.{said_at}
use Rattle.fs_serial.specs.Leading.{ComesInto, IsMode}
use Rattle.fs_serial.proofs.Moves.Parcels.{parcels-append}
use Rattle.fs_serial.proofs.Paths.KeptAfter.{modes_still}
use Rattle.fs_serial.proofs.Paths.KeptHere.{IsKeptIn, KeepsAll, keeps_more, kept_still, kept_there}
use Rattle.fs_serial.proofs.Paths.KeptQuiet.{quiet_keeps, same_prepared}
use Rattle.fs_serial.proofs.Transactions.PutOff.{put_off_keeps}
use Rattle.fs_serial.proofs.Transactions.Recalled.{recalls_hand_nothing}
use Rattle.fs_serial.proofs.Transactions.RoundsLocks.{is_said, not_said, round_at, round_by, round_me, round_votes}
use Rattle.fs_serial.proofs.Transactions.RoundsLocks.{rounds_undecided}
use Rattle.fs_serial.proofs.Lists.Traffic.{sent_append}
use Rattle.fs_serial.proofs.Transactions.RoundsStages.{rounds_server}
use Rattle.fs_serial.proofs.Transactions.Tables.{in_with_leading}
use Rattle.fs_serial.proofs.Transactions.YesParts.{said_then}
use Rattle.fs_serial.proofs.Transactions.Agreements.{mode_begun}
use Rattle.fs_serial.proofs.WholeRuns.LedKept.{all_keep_led, asked}

-- ## What the first parts keep

none_yet : (by : Session) (txn : TxnNo) → IsOf [] txn by ⊎ IsKept [] txn by → ⊥
none_yet by txn (inl o) = o.among
none_yet by txn (inr q) = q.among

module _ (mode : Mode2) (txn : TxnNo) (by : Session) (m : ToLead) (me : ℕ) (s : Server) where
  -- the transaction, as it stands then
  abbrev so_far : Votes → List ℕ → Leading
  so_far votes places = record { leader = leader_with mode txn by m votes; at = places }

  -- whatever said Yes of it is kept, and so is what was kept before
  record KeptSoFar (r : Round) : Type 0 where
    still : KeepsAll s.paths r.server.paths
    said : (y : Agreed) → In y (said_by me (so_far r.votes r.at)) → IsKeptIn r.server.paths y

  module _ (number : ℕ) (p : Part) (part : slice_get (parts_in mode m) number ≡ Some p) (r : Round) (at : length r.at ≡ number)
      (voted : length r.votes ≡ number) (mine : r.server.me ≡ me) (q : KeptSoFar r) where
    -- a part that does not say Yes here keeps nothing
    unsaid : (v : Option Vote) (place : ℕ) → said_yes v ≡ false → (y : Agreed)
        → In y (said_by me (so_far (r.votes ++ v ∷ []) (r.at ++ place ∷ []))) → IsKeptIn r.server.paths y
    unsaid v place none y i = q.said y
        (subst (In y) (not_said mode txn by m me [] [] (none_yet by) number p part r at voted v place none) i)

    own_kept : (v : Vote) → KeptSoFar (own_part txn p v r)
    own_kept Yes = record {
      still = λ x i. kept_still txn p.freeze r.server.paths x (q.still x i);
      said = λ y i file freeze.
          let new : Agreed = record { key = record { txn = txn; part = number }; wanted = record { session = by; part = p } } in
          let all : In y (said_by me (so_far r.votes r.at) ++ new ∷ []) =
          subst (In y) (is_said mode txn by m me [] [] (none_yet by) number p part r at voted)
          (subst (λ n. In y (said_by me (so_far (r.votes ++ Some Yes ∷ []) (r.at ++ n ∷ [])))) mine i) in
          elim (In-append y (said_by me (so_far r.votes r.at)) (new ∷ []) all) as
          (λ _. In (file, y.key.txn) (paths_kept txn p.freeze r.server.paths).frozen) [
            | inl j ↦ kept_still txn p.freeze r.server.paths (file, y.key.txn) (q.said y j file freeze)
            | inr (inl e) ↦
                subst (λ (z : Agreed). In (file, z.key.txn) (paths_kept txn p.freeze r.server.paths).frozen) (sym e)
                (kept_there txn p.freeze file r.server.paths (sym (ap (λ (z : Agreed). z.wanted.part.freeze) e) ∙ freeze))
            | inr (inr z) ↦ absurd z
          ];
    }
    own_kept (Ended n u w) = record { still = q.still; said = unsaid (Some (Ended n u w)) r.server.me refl }
    own_kept (PathsOut n) = record { still = q.still; said = unsaid (Some (PathsOut n)) r.server.me refl }
    own_kept (Moved a b) = record { still = q.still; said = unsaid (Some (Moved a b)) r.server.me refl }

    asked_kept : (to : ℕ) → KeptSoFar (asked_part txn number by p to r)
    asked_kept to = record { still = q.still; said = unsaid None to refl }

    round_kept : KeptSoFar (part_round txn number by p r)
    round_kept = elim (is_mine r.server p.file) as (λ b. KeptSoFar (round_by txn number by p r b)) [
      | true ↦ own_kept (vote_here r.server by p)
      | false ↦ asked_kept (server_of r.server.map p.file)
    ]

  rounds_kept : (ps : List Part) (number : ℕ) (r : Round)
      → ((i : ℕ) (p : Part) → slice_get ps i ≡ Some p → slice_get (parts_in mode m) (number + i) ≡ Some p) → length r.at ≡ number
      → length r.votes ≡ number → r.server.me ≡ me → KeptSoFar r → KeptSoFar (rounds txn number by ps r)
  rounds_kept [] number r parts at voted mine q = q
  rounds_kept (p ∷ ps) number r parts at voted mine q =
      rounds_kept ps (number + 1) (part_round txn number by p r)
      (λ i x e. subst (λ n. slice_get (parts_in mode m) n ≡ Some x) (let t : number + suc i ≡ (number + 1) + i = omega arith in t)
      (parts (suc i) x e))
      (round_at txn number by p r ∙ ap (λ n. n + 1) at) (round_votes txn number by p r ∙ ap (λ n. n + 1) voted)
      (round_me txn number by p r ∙ mine)
      (round_kept number p
      (subst (λ n. slice_get (parts_in mode m) n ≡ Some p) (let t : number + 0 ≡ number = omega arith in t) (parts 0 p refl))
      r at voted mine q)

-- ## What they send

-- nothing is handed over
hands_more : (k : ℕ) (ms more : List (Peer × Msg)) → parcels_of (in_flight_from k ms) ≡ [] → parcels_of (in_flight_from k more) ≡ []
    → parcels_of (in_flight_from k (ms ++ more)) ≡ []
hands_more k ms more a b =
    ap parcels_of (sent_append k ms more) ∙ parcels-append (in_flight_from k ms) (in_flight_from k more) ∙ ap₂ (λ ps qs. ps ++ qs) a b

rounds_hand : (k : ℕ) (txn : TxnNo) (number : ℕ) (by : Session) (ps : List Part) (r : Round) → parcels_of (in_flight_from k r.send) ≡ []
    → parcels_of (in_flight_from k (rounds txn number by ps r).send) ≡ []
rounds_hand k txn number by [] r none = none
rounds_hand k txn number by (p ∷ ps) r none = rounds_hand k txn (number + 1) by ps (part_round txn number by p r)
    (elim (is_mine r.server p.file) as (λ b. parcels_of (in_flight_from k (round_by txn number by p r b).send) ≡ []) [
      | true ↦ hands_more k r.send (recalls_for (vote_here r.server by p) r.server p) none
          (recalls_hand_nothing k (vote_here r.server by p) r.server p)
      | false ↦ hands_more k r.send (to_server (server_of r.server.map p.file) (ask_for txn number by p) ∷ []) none refl
    ])

-- ## The question

-- a delete of what is no file freezes
mode_for : (kind : Kind) (o : Op) → FreezesFor kind (mode_of o kind) o
mode_for File (op.Delete dir name) = inl refl
mode_for Dir (op.Delete dir name) = inr refl
mode_for kind (op.Rename sdir sname ddir dname) = tt
mode_for kind (op.Lookup dir name) = tt
mode_for kind (op.List dir) = tt
mode_for kind (op.Kind f) = tt
mode_for kind (op.Info f) = tt
mode_for kind (op.Create dir name k id) = tt
mode_for kind (op.OpenFile f n modes) = tt
mode_for kind (op.Close f n) = tt
mode_for kind (op.Set f n size stamp) = tt
mode_for kind (op.Reap f session) = tt

mode_so : (kind : Kind) (mode : Mode2) (o : Op) → IsMode mode kind o → FreezesFor kind mode o
mode_so kind mode o (inl e) = subst (λ x. FreezesFor kind x o) (sym e) (mode_for kind o)
mode_so kind mode o (inr q) = comes_freezes kind mode o q.1
  where
    comes_freezes : (kind : Kind) (mode : Mode2) (o : Op) → ComesInto kind o → FreezesFor kind mode o
    comes_freezes Dir mode (op.Rename sdir sname ddir dname) h = tt
    comes_freezes kind mode o h = absurd h

module _ (skew greatest k : ℕ) (c : Cluster) (s : Server) (at : slice_get c.servers k ≡ Some s) (h : ClusterHolds skew greatest c)
    (f : FilesKept c) (by : Session) (m : ToLead) (comes : IsThere k (FromClient by (Lead m)) c) where
  abbrev here : In s c.servers
  here = In-got c.servers k s at

  abbrev e : ServerEvent
  e = FromClient by (Lead m)

  abbrev txn : TxnNo
  txn = txn_of s

  module _ (mode : Mode2) where
    abbrev r : Round
    r = round_of mode by m s

    abbrev new : Leading
    new = record { leader = leader_with mode txn by m r.votes; at = r.at }

    abbrev x : Stepped
    x = waits (note.Prepares txn) new r.send r.server

    left : r.server ≡ (let z : Server = record s { txns = s.txns + 1; rows = r.server.rows; paths = r.server.paths } in z)
    left = rounds_server txn 0 by (parts_in mode m) (first_round s)

    kept : KeptSoFar mode txn by m s.me s r
    kept = rounds_kept mode txn by m s.me s (parts_in mode m) 0 (first_round s)
        (λ i p is. subst (λ n. slice_get (parts_in mode m) n ≡ Some p) (let t : i ≡ 0 + i = omega arith in t) is) refl refl refl
        (record { still = λ z i. i; said = λ y i. absurd i })

    -- what the server has then
    abbrev t : Server
    t = record s { txns = s.txns + 1; rows = r.server.rows; paths = r.server.paths; leading = with_leading new s.leading }

    is_t : x.server ≡ t
    is_t = ap (λ (z : Server). let y : Server = record z { leading = with_leading new z.leading } in y) left

    keeps : KeepsFiles x.server
    keeps = subst KeepsFiles (sym is_t) (keeps_more s t (f.here s here) kept.still
        (λ y i. In-both y (map agreed_of s.prepared) (flat_map (said_by s.me) (with_leading new s.leading))
        (In y (said_at s) ⊎ IsKeptIn t.paths y)
        (λ j. inl (In-front y (map agreed_of s.prepared) (flat_map (said_by s.me) s.leading) j))
        (λ j. elim (said_then s.me new s.leading y j) as (λ _. In y (said_at s) ⊎ IsKeptIn t.paths y) [
          | inl n ↦ inr (kept.said y n)
          | inr n ↦ inl (In-behind y (map agreed_of s.prepared) (flat_map (said_by s.me) s.leading) n)
        ])
        i))

    modes : BeginsIn m s mode → (l : Leading) → In l x.server.leading → (d : Led) → (c.lines l.leader.session).client.led ≡ Some d
        → FreezesFor d.kind l.leader.mode l.leader.op
    modes accepted l i d led =
        elim (in_with_leading new s.leading l (subst (λ (z : Server). In l z.leading) is_t i)) as
        (λ _. FreezesFor d.kind l.leader.mode l.leader.op) [
          | inl is ↦
              let its = asked skew greatest k c s at h by m comes in
              let both : Some d ≡ Some its.led = sym led ∙ ap (λ (z : Leading). (c.lines z.leader.session).client.led) is ∙ its.is in
              let same : d ≡ its.led = cc in
              let kind : d.kind ≡ m.kind = ap (λ (z : Led). z.kind) same ∙ sym (ap (λ (z : ToLead). z.kind) its.told) in
              subst (λ (z : Leading). FreezesFor d.kind z.leader.mode z.leader.op) (sym is)
              (subst (λ z. FreezesFor z mode m.op) (sym kind) (mode_so m.kind mode m.op (mode_begun m s mode accepted)))
          | inr j ↦ f.modes s here l j.0 d led
        ]

    pub begun_kept : BeginsIn m s mode → FilesKept (after_step k e x c)
    begun_kept accepted = quiet_keeps k c s at e x f (record {
      led = (all_keep_led skew greatest k c s at h).begun by m comes mode accepted;
      records = ap (λ (z : Server). z.records) left;
      taken = refl;
      hands = rounds_hand k txn 0 by (parts_in mode m) (first_round s) refl;
      tells = rounds_undecided k txn 0 by (parts_in mode m) (first_round s) (λ key place effects i. i);
      here = keeps;
      prepared = same_prepared c s x.server (ap (λ (z : Server). z.prepared) left);
      modes = modes accepted;
    })

  pub put_off_kept : (w : Why) → FilesKept (after_step k e (refuses by w s) c)
  put_off_kept w = quiet_keeps k c s at e (refuses by w s) f (record {
    led = (put_off_keeps skew greatest k c s at h by m comes w).led;
    records = refl;
    taken = refl;
    hands = refl;
    tells = λ key place effects i. i;
    here = f.here s here;
    prepared = λ y i. inl i;
    modes = modes_still c s s here f refl;
  })
