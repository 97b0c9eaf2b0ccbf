-- A leader begins a transaction: all that holds of transactions stays.
use Rattle.std.proofs.Common.{◌≡◌, ◌==◌, ◌+◌, ◌≤◌, ◌⊎◌, ℕ, Bool, true, false, List, ◌++◌, length, map, refl, sym, ap, ap₂, ◌∙◌, subst, cond, inl, inr, arith, append-nil}
use Rattle.std.specs.Prelude.{◌≢◌, Option, Some, None, slice_get, slice_set}
use Rattle.std.specs.List.{find, flat_map}
use Rattle.fs_ident.specs.Ident.{same}
use Rattle.fs_ident.specs.In.{In}
use Rattle.fs_ident.specs.declared.actor.Peer.{Peer}
use Rattle.fs_ident.specs.declared.actor.Session.{Session}
use Rattle.fs_ident.specs.declared.actor.TxnNo.{TxnNo}
use Rattle.fs_ident.proofs.Same.{itself, one_session}
use Rattle.fs_ident.proofs.Standing.{In-behind, In-both, In-front, In-got}
use Rattle.fs_field.specs.Table.{is_ordered, same_txn}
use Rattle.fs_field.specs.declared.effect.Effect.{Effect}
use Rattle.fs_field.specs.declared.row.Row.{Row}
use Rattle.fs_field.specs.declared.used.Part.{Part}
use Rattle.fs_field.specs.declared.vote.Vote.{Vote}
use Rattle.fs_msg.specs.declared.client_msg.ClientMsg.TheVariants.{Lead}
use Rattle.fs_msg.specs.declared.lead.Lead.{Lead as ToLead}
use Rattle.fs_msg.specs.declared.msg.Msg.{Msg}
use Rattle.fs_msg.specs.declared.server_note.ServerNote.TheVariants as note
use Rattle.fs_path.specs.Tables.{PathTables}
use Rattle.fs_client.specs.Led.{lead_of}
use Rattle.fs_client.specs.declared.led.Led.{Led}
use Rattle.fs_server.specs.Begins.{Round, first_round, leader_with, parts_in, round_of, txn_of}
use Rattle.fs_server.specs.Concludes.{waits}
use Rattle.fs_server.specs.Server.{Stepped, is_mine}
use Rattle.fs_server.specs.declared.event.ServerEvent.TheVariants.{FromClient}
use Rattle.fs_server.specs.declared.state.Server.{Server}
use Rattle.fs_model.specs.Asking.{home_of}
use Rattle.fs_txn.specs.Deciding.{needs_path}
use Rattle.fs_txn.specs.Leading.{ending_of, leading_of, said_by, stage_by, stage_in, with_leading}
use Rattle.fs_txn.specs.Locks.{Agreed, IsKept, IsOf, LocksHold}
use Rattle.fs_txn.specs.Parts.{part_at}
use Rattle.fs_txn.specs.Ready.{agreed_of, is_part}
use Rattle.fs_txn.specs.Stages.{Desks, Key, StagesHold, Wanted, word_to}
use Rattle.fs_txn.specs.Stages.Stage.{Unknown, Awaited}
use Rattle.fs_txn.specs.Stages.Word.{Decide}
use Rattle.fs_txn.specs.Votes.{Votes}
use Rattle.fs_txn.specs.declared.leading.Ending.{Ending}
use Rattle.fs_txn.specs.declared.leading.Leading.{Leading}
use Rattle.fs_txn.specs.declared.ready.Ready.{Ready}
use Rattle.fs_txn.specs.declared.mode.Mode2.{Mode2}
use Rattle.fs_txn.proofs.Keys.{txn_is, txn_itself}
use Rattle.fs_serial.specs.Cluster.{Cluster, Lines, after_step, in_flight_from, is_with, with_sent, without_first, without_question}
use Rattle.fs_serial.specs.Leading.{IsEnded, IsLeading, IsLedBy, IsMode, IsPlain, IsToldOf, LedHolds}
use Rattle.fs_serial.specs.Words.{desks_of, kept_at, key_of, said_at, stage_of_key, telling_of}
use Rattle.fs_serial.proofs.Lists.ByPlace.{not_found}
use Rattle.fs_serial.proofs.Lists.Servers.{In_at}
use Rattle.fs_serial.proofs.Transactions.Desks.{FilesApart, deciding_word, each_after, ended_then, leading_then, prepared_set, stage_is, stage_still, stage_was, stand_alike, telling_append, told_then}
use Rattle.fs_serial.proofs.Transactions.OwnersOfLocks.{in_range}
use Rattle.fs_serial.proofs.Transactions.PartsApart.{first_part, parts_apart}
use Rattle.fs_serial.proofs.Transactions.RoundsLocks.{LocksSoFar, NoDecision, rounds_locked, rounds_rows_stay, rounds_undecided}
use Rattle.fs_serial.proofs.Transactions.RoundsStages.{desks_with, none_asked, parts_with, rounds_at, rounds_home, rounds_lines, rounds_server, rounds_stand, rounds_votes, stages_with, wanted_at}
use Rattle.fs_serial.proofs.Transactions.Tables.{in_with_leading, leading_other, leading_set, locks_alike}
use Rattle.fs_serial.proofs.Transactions.YesParts.{said_before, said_new, said_then}

-- a part of which something is known was asked for
known_place : (i : ℕ) (places : List ℕ) (v : Option (Option Vote)) → stage_by (slice_get places i) v ≢ Unknown
    → (to : ℕ) × (slice_get places i ≡ Some to)
known_place i places v known =
    elim (slice_get places i) as (λ o. slice_get places i ≡ o → stage_by o v ≢ Unknown → (to : ℕ) × (slice_get places i ≡ Some to)) [
      | None ↦ λ e k. absurd (k refl)
      | Some to ↦ λ e k. (to, e)
    ] refl known

module _ (mode : Mode2) (k : ℕ) (c : Cluster) (s : Server) (at : slice_get c.servers k ≡ Some s) (by : Session) (m : ToLead) (held : LedHolds c)
    (me : s.me ≡ k) (numbered : (j : ℕ) (z : Server) → slice_get c.servers j ≡ Some z → z.me ≡ j)
    (ordered : is_ordered s.rows ≡ true) (new : (u : TxnNo) → IsOf (said_at s) u by ⊎ IsKept (kept_at s) u by → ⊥) where
  abbrev txn : TxnNo
  txn = txn_of s

  abbrev old : Desks
  old = desks_of held.parts c

  here : In s c.servers
  here = In-got c.servers k s at

  -- ## It is new

  not_new : (z : Server) → In z c.servers → (u : TxnNo) → u.server ≡ z.me → u.count ≤ z.txns → same_txn u txn ≡ false
  not_new z i u its few = elim (same_txn u txn) as (λ b. same_txn u txn ≡ b → b ≡ false) [
    | true ↦ λ e.
        let is : u ≡ txn = txn_is u txn e in
        let q = In_at c.servers z i in
        let place : q.place ≡ k = sym (numbered q.place z q.is) ∙ sym its ∙ ap (λ (n : TxnNo). n.server) is ∙ me in
        let both : Some z ≡ Some s = sym q.is ∙ ap (slice_get c.servers) place ∙ at in
        let same : z ≡ s = cc in
        let count : u.count ≡ s.txns + 1 = ap (λ (n : TxnNo). n.count) is in
        let txns : z.txns ≡ s.txns = ap (λ (x : Server). x.txns) same in
        absurd (omega (arith, few, count, txns))
    | false ↦ λ e. refl
  ] refl

  new_leading : (z : Server) → In z c.servers → (l : Leading) → In l z.leading → same_txn l.leader.txn txn ≡ false
  new_leading z i l j = let h = held.leading z i l j in not_new z i l.leader.txn h.own h.begun

  new_ending : (z : Server) → In z c.servers → (x : Ending) → In x z.ending → same_txn x.txn txn ≡ false
  new_ending z i x j = let h = held.ending z i x j in not_new z i x.txn h.own h.begun

  none_leads : leading_of txn s.leading ≡ None
  none_leads = not_found (λ (l : Leading). same_txn l.leader.txn txn) s.leading (new_leading s here)

  none_ends : ending_of txn s.ending ≡ None
  none_ends = not_found (λ (x : Ending). same_txn x.txn txn) s.ending (new_ending s here)

  own : txn.server ≡ k
  own = me

  its_server : (y : Key) → same_txn y.txn txn ≡ true → (y.txn.server == k) ≡ true
  its_server y e = ap (λ (n : TxnNo). n.server == k) (txn_is y.txn txn e) ∙ ap (λ n. n == k) me ∙ itself k

  unknown : (y : Key) → same_txn y.txn txn ≡ true → stage_of_key c.servers y ≡ Unknown
  unknown y e =
      let is : y.txn ≡ txn = txn_is y.txn txn e in
      stage_was c.servers k s s at y (its_server y e)
      ∙ ap₂ (stage_in y.part) (ap (λ n. leading_of n s.leading) is ∙ none_leads) (ap (λ n. ending_of n s.ending) is ∙ none_ends)

  abbrev parts : Key → Wanted
  parts = parts_with mode k txn by m old own unknown

  parts_old : (y : Key) → same_txn y.txn txn ≡ false → parts y ≡ held.parts y
  parts_old y e = ap (λ b. cond b (wanted_at mode k txn by m old own unknown (slice_get (parts_in mode m) y.part) (held.parts y)) (held.parts y)) e

  parts_new : (y : Key) (p : Part) → same_txn y.txn txn ≡ true → slice_get (parts_in mode m) y.part ≡ Some p
      → parts y ≡ (let w : Wanted = record { session = by; part = p } in w)
  parts_new y p e part =
      ap (λ b. cond b (wanted_at mode k txn by m old own unknown (slice_get (parts_in mode m) y.part) (held.parts y)) (held.parts y)) e
      ∙ ap (λ o. wanted_at mode k txn by m old own unknown o (held.parts y)) part

  -- ## With these votes and rows

  module _ (votes : Votes) (places : List ℕ) (rows : List Row) (paths : PathTables) (lines : Session → Lines)
      (clients : (y : Session) → (lines y).client ≡ (c.lines y).client) where
    abbrev l : Leading
    l = record { leader = leader_with mode txn by m votes; at = places }

    abbrev t : Server
    t = record s { txns = s.txns + 1; rows = rows; leading = with_leading l s.leading; paths = paths }

    abbrev servers : List Server
    servers = slice_set c.servers k t

    led_still : (y : Session) (n : ℕ) (d : Led) → IsLedBy c.lines y n d → IsLedBy lines y n d
    led_still y n d h = record { led = ap (λ z. z.led) (clients y) ∙ h.led; asked = ap (λ z. z.exchange) (clients y) ∙ h.asked }

    leading_still : (z : Server) (x : Leading) → same_txn x.leader.txn txn ≡ false → IsLeading c.lines z held.parts x
        → IsLeading lines z parts x
    leading_still z x off h = record {
      own = h.own;
      begun = h.begun;
      one = h.one;
      only = h.only;
      votes = h.votes;
      asked = h.asked;
      home = h.home;
      wanted = λ i p e. parts_old (key_of x.leader.txn i) off ∙ h.wanted i p e;
      led = h.led;
      client = led_still x.leader.session z.me h.led h.client;
      leader = h.leader;
      plain = h.plain;
    }

    ending_still : (z : Server) (x : Ending) → same_txn x.txn txn ≡ false → IsEnded c.lines z held.parts x → IsEnded lines z parts x
    ending_still z x off h = record {
      own = h.own;
      begun = h.begun;
      one = h.one;
      only = h.only;
      waits = h.waits;
      awaited = λ n i. let q = h.awaited n i in (q.0, ap (λ (w : Wanted). w.session) (parts_old (key_of x.txn n.0) off) ∙ q.1);
      led = h.led;
      client = led_still x.session z.me h.led h.client;
      fits = h.fits;
    }

    ending_after : (z : Server) → In z servers → (x : Ending) → In x z.ending → IsEnded lines z parts x
    ending_after z i = each_after (λ z. (x : Ending) → In x z.ending → IsEnded lines z parts x) c.servers k t
        (λ z i x j. ending_still z x (new_ending z i x j) (held.ending z i x j))
        (λ x j.
        let h = held.ending s here x j in
        let off = new_ending s here x j in
        ended_then lines s t parts refl (omega arith) x h.one (leading_other l x.txn s.leading off ∙ h.only) (ending_still s x off h))
        z i

    ready_after : (z : Server) → In z servers → (x : Ready) → In x z.prepared → find (is_part x.txn x.number) z.prepared ≡ Some x
    ready_after z i =
        each_after (λ z. (x : Ready) → In x z.prepared → find (is_part x.txn x.number) z.prepared ≡ Some x) c.servers k t held.ready
        (held.ready s here) z i

    stages_after : (y : Key) → stage_of_key servers y ≡ stages_with mode k txn by m old own unknown votes places y
    stages_after y = by_txn (same_txn y.txn txn) refl
      where
        by_server : same_txn y.txn txn ≡ false → (b : Bool) → (y.txn.server == k) ≡ b → stage_of_key servers y ≡ stage_of_key c.servers y
        by_server off true e =
            stage_is c.servers k s t at y e ∙ ap (λ o. stage_in y.part o (ending_of y.txn s.ending)) (leading_other l y.txn s.leading off)
            ∙ sym (stage_was c.servers k s t at y e)
        by_server off false e = stage_still c.servers k s t at y e

        by_txn : (b : Bool) → same_txn y.txn txn ≡ b → stage_of_key servers y ≡ cond b
            (stage_by (slice_get places y.part) (slice_get votes y.part)) (stage_of_key c.servers y)
        by_txn true e =
            stage_is c.servers k s t at y (its_server y e)
            ∙ ap (λ o. stage_in y.part o (ending_of y.txn s.ending))
            (ap (λ n. leading_of n (with_leading l s.leading)) (txn_is y.txn txn e) ∙ leading_set l s.leading)
        by_txn false e = by_server e (y.txn.server == k) refl

    -- ## Files

    stage_new : (y : Key) → same_txn y.txn txn ≡ true → stage_of_key servers y ≡ stage_by (slice_get places y.part) (slice_get votes y.part)
    stage_new y e =
        stages_after y ∙ ap (λ b. cond b (stage_by (slice_get places y.part) (slice_get votes y.part)) (stage_of_key c.servers y)) e

    stage_old : (y : Key) → same_txn y.txn txn ≡ false → stage_of_key servers y ≡ stage_of_key c.servers y
    stage_old y e =
        stages_after y ∙ ap (λ b. cond b (stage_by (slice_get places y.part) (slice_get votes y.part)) (stage_of_key c.servers y)) e

    module _ (all_places : length places ≡ length (parts_in mode m)) where
      new_part : (y : Key) → same_txn y.txn txn ≡ true → stage_of_key servers y ≢ Unknown
          → (p : Part) × (slice_get (parts_in mode m) y.part ≡ Some p)
      new_part y e known =
          let q = known_place y.part places (slice_get votes y.part) (λ u. known (stage_new y e ∙ u)) in
          in_range places (parts_in mode m) y.part q.0 all_places q.1

      files_after : FilesApart parts (stage_of_key servers)
      files_after a b one two p q = by_txn (same_txn a.txn txn) refl
        where
          by_txn : (x : Bool) → same_txn a.txn txn ≡ x → same (parts a).part.file (parts b).part.file ≡ false
          by_txn true e =
              let f : same_txn b.txn txn ≡ true = ap (λ n. same_txn n txn) (sym one) ∙ e in
              let v = new_part a e p in
              let w = new_part b f q in
              ap₂ (λ (x y : Wanted). same x.part.file y.part.file) (parts_new a v.0 e v.1) (parts_new b w.0 f w.1)
              ∙ parts_apart mode m a.part b.part v.0 w.0 two v.1 w.1
          by_txn false e =
              let f : same_txn b.txn txn ≡ false = ap (λ n. same_txn n txn) (sym one) ∙ e in
              ap₂ (λ (x y : Wanted). same x.part.file y.part.file) (parts_old a e) (parts_old b f)
              ∙ held.files a b one two (λ u. p (stage_old a e ∙ u)) (λ u. q (stage_old b f ∙ u))

    -- ## Locks

    said_after : (y : Agreed) → In y (said_at t) → In y (said_at s ++ said_by s.me l)
    said_after y i =
        In-both y (map agreed_of s.prepared) (flat_map (said_by s.me) (with_leading l s.leading)) (In y (said_at s ++ said_by s.me l))
        (λ j. In-front y (said_at s) (said_by s.me l) (In-front y (map agreed_of s.prepared) (flat_map (said_by s.me) s.leading) j))
        (λ j. elim (said_then s.me l s.leading y j) as (λ _. In y (said_at s ++ said_by s.me l)) [
          | inl r ↦ In-behind y (said_at s) (said_by s.me l) r
          | inr r ↦ In-front y (said_at s) (said_by s.me l) (In-behind y (map agreed_of s.prepared) (flat_map (said_by s.me) s.leading) r)
        ])
        i

    said_still : (y : Agreed) → In y (said_at s ++ said_by s.me l) → In y (said_at t)
    said_still y i = In-both y (said_at s) (said_by s.me l) (In y (said_at t))
        (λ j. In-both y (map agreed_of s.prepared) (flat_map (said_by s.me) s.leading) (In y (said_at t))
        (λ r. In-front y (map agreed_of s.prepared) (flat_map (said_by s.me) (with_leading l s.leading)) r)
        (λ r. behind
        (elim (said_before s.me l l s.leading y
        (λ z n e. let wrong : true ≡ false = sym e ∙ new_leading s here z n in absurd (cc wrong)) r)
        as (λ _. In y (flat_map (said_by s.me) (with_leading l s.leading))) [
          | inl n ↦ said_new s.me l s.leading y n
          | inr n ↦ n
        ]))
        j)
        (λ j. behind (said_new s.me l s.leading y j))
        i
      where
        behind : In y (flat_map (said_by s.me) (with_leading l s.leading)) → In y (said_at t)
        behind r = In-behind y (map agreed_of s.prepared) (flat_map (said_by s.me) (with_leading l s.leading)) r

    locks_then : LocksHold rows (said_at s ++ said_by s.me l) (kept_at s) → LocksHold rows (said_at t) (kept_at t)
    locks_then h = locks_alike rows (said_at s ++ said_by s.me l) (said_at t) (kept_at s) (kept_at t) said_after said_still (λ z i. i) h

    -- ## What was told

    module _ (send : List (Peer × Msg)) (undecided : NoDecision k send)
        (stay : (r : Row) → In r s.rows → (u : TxnNo) → r.lock ≡ Some u → In r rows) where
      told_before : (o : Key) (to : ℕ) (es : List Effect) → In (word_to o to (Decide es))
          (telling_of (c.in_flight ++ in_flight_from k send)) → In (word_to o to (Decide es)) (telling_of c.in_flight)
      told_before o to es i =
          In-both (word_to o to (Decide es)) (telling_of c.in_flight) (telling_of (in_flight_from k send))
          (In (word_to o to (Decide es)) (telling_of c.in_flight))
          (λ j. j) (λ j. absurd (undecided o to es j))
          (subst (In (word_to o to (Decide es))) (telling_append c.in_flight (in_flight_from k send)) i)

      not_its : (o : Key) (to : ℕ) (es : List Effect) → In (word_to o to (Decide es)) (telling_of c.in_flight) → same_txn o.txn txn ≡ false
      not_its o to es i = elim (same_txn o.txn txn) as (λ b. same_txn o.txn txn ≡ b → b ≡ false) [
        | true ↦ λ e.
            let q = deciding_word old o (word_to o to (Decide es)) refl held.stages i es refl in
            let wrong : Unknown ≡ Awaited q.at = sym (unknown o e) ∙ q.stage in
            absurd (cc wrong)
        | false ↦ λ e. refl
      ] refl

      told_still : (o : Key) (to : ℕ) (es : List Effect) → In (word_to o to (Decide es)) (telling_of c.in_flight) → (e : Effect) → In e es
          → IsToldOf servers o (parts o) e
      told_still o to es i e j = subst (λ w. IsToldOf servers o w e) (sym (parts_old o (not_its o to es i)))
          (told_then c.servers k s t at o (held.parts o) e (λ q r n lock. stay r n o.txn lock) (held.told o to es i e j))

    -- ## Its session waits

    module _ (all_votes : length votes ≡ length (parts_in mode m)) (all_places : length places ≡ length (parts_in mode m))
        (home : slice_get places 0 ≡ Some s.me) (d : Led) (client : IsLedBy c.lines by k d) (asks : m ≡ lead_of d)
        (plain : needs_path mode m.op ≡ false → IsPlain d l.leader) (stands : IsMode mode d.kind m.op) where
      new_leads : IsLeading lines t parts l
      new_leads = record {
        own = refl;
        begun = omega arith;
        one = leading_set l s.leading;
        only = none_ends;
        votes = all_votes;
        asked = all_places;
        home = home;
        wanted = λ i p e. parts_new (key_of txn i) p (txn_itself txn) e;
        led = d;
        client = led_still by s.me d (subst (λ n. IsLedBy c.lines by n d) (sym me) client);
        leader = record {
          number = ap (λ (z : ToLead). z.n) asks;
          op = ap (λ (z : ToLead). z.op) asks;
          file = ap (λ (z : ToLead). z.file) asks;
          parts = ap (parts_in mode) asks;
          mode = stands;
        };
        plain = plain;
      }

      leading_after : (z : Server) → In z servers → (x : Leading) → In x z.leading → IsLeading lines z parts x
      leading_after z i = each_after (λ z. (x : Leading) → In x z.leading → IsLeading lines z parts x) c.servers k t
          (λ z i x j. leading_still z x (new_leading z i x j) (held.leading z i x j))
          (λ x j. elim (in_with_leading l s.leading x j) as (λ _. IsLeading lines t parts x) [
            | inl e ↦ subst (IsLeading lines t parts) (sym e) new_leads
            | inr q ↦
                let h = held.leading s here x q.0 in
                leading_then lines s t parts refl (omega arith) x (leading_other l x.leader.txn s.leading q.1 ∙ h.one) h.only
                (leading_still s x q.1 h)
          ]) z i

  -- ## All parts

  abbrev round : Round
  round = round_of mode by m s

  abbrev begun : Leading
  begun = record { leader = leader_with mode txn by m round.votes; at = round.at }

  abbrev server : Server
  server = round.server

  abbrev x : Stepped
  x = waits (note.Prepares txn) begun round.send server

  abbrev after : Cluster
  after = after_step k (FromClient by (Lead m)) x c

  abbrev with_rows : Server
  with_rows = record s { txns = s.txns + 1; rows = server.rows; paths = server.paths }

  left : server ≡ with_rows
  left = rounds_server txn 0 by (parts_in mode m) (first_round s)

  all_parts : (i : ℕ) (p : Part) → slice_get (parts_in mode m) i ≡ Some p → slice_get (parts_in mode m) (0 + i) ≡ Some p
  all_parts i p e = subst (λ n. slice_get (parts_in mode m) n ≡ Some p) (let n : i ≡ 0 + i = omega arith in n) e

  locked : LocksSoFar mode txn by m s.me (said_at s) (kept_at s) new round
  locked = rounds_locked mode txn by m s.me (said_at s) (kept_at s) new (parts_in mode m) 0 (first_round s) all_parts refl refl refl
      (record {
        ordered = ordered;
        locks = subst (λ ys. LocksHold s.rows ys (kept_at s)) (sym (append-nil (said_at s)))
            (held.locks s here);
      })

  own_locks : (lines : Session → Lines) (clients : (y : Session) → (lines y).client ≡ (c.lines y).client)
      → LocksHold server.rows (said_at (t round.votes round.at server.rows server.paths lines clients)) (kept_at s)
  own_locks lines clients = locks_then round.votes round.at server.rows server.paths lines clients locked.locks

  pub locks_begun : LocksHold server.rows (said_at x.server) (kept_at x.server)
  locks_begun =
      subst (λ (z : Server). LocksHold server.rows (said_at (waits (note.Prepares txn) begun round.send z).server)
      (kept_at (waits (note.Prepares txn) begun round.send z).server)) (sym left) (own_locks c.lines (λ y. refl))

  asked_lines : with_sent k round.send (without_question k (FromClient by (Lead m)) c.lines)
      ≡ without_question k (FromClient by (Lead m)) c.lines
  asked_lines = rounds_lines k txn 0 by (parts_in mode m) (first_round s) (without_question k (FromClient by (Lead m)) c.lines) refl

  same_clients : (y : Session) → (after.lines y).client ≡ (c.lines y).client
  same_clients y = ap (λ (ls : Session → Lines). (ls y).client) asked_lines
      ∙ elim (by.0 == y.0) as
      (λ b. (by.0 == y.0) ≡ b →
      (cond b (let z : Lines = record (c.lines by) { up = without_first (is_with k) (c.lines by).up } in z) (c.lines y)).client
      ≡ (c.lines y).client) [
        | true ↦ λ e. ap (λ z. (c.lines z).client) (one_session by y e)
        | false ↦ λ e. refl
      ] refl

  module _ (d : Led) (client : IsLedBy c.lines by k d) (asks : m ≡ lead_of d) (mine : is_mine s (home_of m.op) ≡ true)
      (plain : needs_path mode m.op ≡ false → IsPlain d begun.leader) (stands : IsMode mode d.kind m.op) where
    all_places : length round.at ≡ length (parts_in mode m)
    all_places =
        rounds_at txn 0 by (parts_in mode m) (first_round s) ∙ (let n : 0 + length (parts_in mode m) ≡ length (parts_in mode m) = omega arith in n)

    all_votes : length round.votes ≡ length (parts_in mode m)
    all_votes =
        rounds_votes txn 0 by (parts_in mode m) (first_round s) ∙ (let n : 0 + length (parts_in mode m) ≡ length (parts_in mode m) = omega arith in n)

    home : slice_get round.at 0 ≡ Some s.me
    home = rounds_home txn 0 by (parts_in mode m) (first_round s) (part_at mode m.op m.file m.uses (home_of m.op)) (first_part mode m) refl mine

    undecided : NoDecision k round.send
    undecided = rounds_undecided k txn 0 by (parts_in mode m) (first_round s) (λ o to es i. absurd i)

    stay : (r : Row) → In r s.rows → (u : TxnNo) → r.lock ≡ Some u → In r server.rows
    stay r i u e = rounds_rows_stay txn 0 by (parts_in mode m) (first_round s) r u i e

    abbrev then : Cluster
    then = after_step k (FromClient by (Lead m)) (waits (note.Prepares txn) begun round.send with_rows) c

    stand : StagesHold (desks_of parts then)
    stand = stand_alike (desks_with mode k txn by m old own unknown round) (desks_of parts then) (record {
      parts = λ y. refl;
      stages = stages_after round.votes round.at server.rows server.paths after.lines same_clients;
      prepared = prepared_set c.servers k s (t round.votes round.at server.rows server.paths after.lines same_clients) at refl;
      telling = telling_append c.in_flight (in_flight_from k round.send);
    }) (rounds_stand mode k txn by m old own unknown (parts_in mode m) 0 (first_round s) all_parts refl refl me
        (none_asked mode k txn by m old own unknown (first_round s).server held.stages))

    led_then : LedHolds then
    led_then = record {
      parts = parts;
      stages = stand;
      leading = leading_after round.votes round.at server.rows server.paths after.lines same_clients all_votes all_places home d client asks plain stands;
      ending = ending_after round.votes round.at server.rows server.paths after.lines same_clients;
      ready = ready_after round.votes round.at server.rows server.paths after.lines same_clients;
      locks = each_after (λ z. LocksHold z.rows (said_at z) (kept_at z)) c.servers k
          (t round.votes round.at server.rows server.paths after.lines same_clients) held.locks (own_locks after.lines same_clients);
      files = files_after round.votes round.at server.rows server.paths after.lines same_clients all_places;
      few = λ o to es i. held.few o to es
          (told_before round.votes round.at server.rows server.paths after.lines same_clients round.send undecided stay o to es i);
      told = λ o to es i. told_still round.votes round.at server.rows server.paths after.lines same_clients round.send undecided stay o to es
          (told_before round.votes round.at server.rows server.paths after.lines same_clients round.send undecided stay o to es i);
    }

    pub led_begun : LedHolds after
    led_begun =
        subst LedHolds
        (sym (ap (λ (z : Server). after_step k (FromClient by (Lead m)) (waits (note.Prepares txn) begun round.send z) c) left)) led_then
