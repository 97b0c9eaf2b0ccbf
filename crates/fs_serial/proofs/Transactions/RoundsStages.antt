-- Where the parts of a transaction stand while it begins, one after another.
use Rattle.std.proofs.Common.{◌≡◌, ◌+◌, ◌==◌, ◌&&◌, ℕ, suc, Bool, true, false, List, [], ◌∷◌, ◌++◌, length, append_assoc, append-nil, refl, sym, ap, ap₂, ◌∙◌, subst, cond, arith}
use Rattle.std.specs.Prelude.{Option, Some, None, slice_get}
use Rattle.std.proofs.lemmas.Bool.{eqb-true, eqb-false}
use Rattle.std.proofs.lemmas.Option.{slice_get_past}
use Rattle.fs_ident.specs.declared.actor.Peer.{Peer}
use Rattle.fs_ident.specs.declared.actor.Peer.TheVariants.{Client as OfSession, Server as OfServer}
use Rattle.fs_ident.specs.declared.actor.Session.{Session}
use Rattle.fs_ident.specs.declared.actor.TxnNo.{TxnNo}
use Rattle.fs_field.specs.Table.{same_txn}
use Rattle.fs_field.specs.declared.used.Part.{Part}
use Rattle.fs_field.specs.declared.vote.Vote.{Vote}
use Rattle.fs_map.specs.Map.{server_of}
use Rattle.fs_msg.specs.declared.lead.Lead.{Lead as ToLead}
use Rattle.fs_msg.specs.declared.msg.Msg.{Msg}
use Rattle.fs_msg.specs.declared.msg.Msg.TheVariants as msg
use Rattle.fs_server.specs.Begins.{Round, asked_part, own_part, part_round, parts_in, rounds}
use Rattle.fs_server.specs.Counts.{ask_for}
use Rattle.fs_server.specs.Follows.{recalls_for, to_server, vote_here}
use Rattle.fs_server.specs.Server.{is_mine}
use Rattle.fs_server.specs.declared.state.Server.{Server}
use Rattle.fs_txn.specs.Leading.{stage_by}
use Rattle.fs_txn.specs.Stages.{Desks, IsNowhere, IsStage, Key, Stage, StagesHold, Told, Wanted, same_key, stage_of, told_of, word_to}
use Rattle.fs_txn.specs.Stages.Stage.{Unknown, Counted}
use Rattle.fs_txn.specs.Stages.Word.{Prepare}
use Rattle.fs_txn.specs.Telling.{after_ask, after_own, with_key}
use Rattle.fs_txn.specs.Votes.{Votes}
use Rattle.fs_txn.specs.declared.mode.Mode2.{Mode2}
use Rattle.fs_txn.proofs.Keys.{key_is, txn_itself}
use Rattle.fs_txn.proofs.Telling.{asks, owns}
use Rattle.fs_serial.specs.Cluster.{Lines, in_flight_from, with_sent}
use Rattle.fs_serial.specs.Words.{key_of, telling_of}
use Rattle.fs_serial.proofs.Lists.ByPlace.{front_at, last_at, other_at}
use Rattle.fs_serial.proofs.Transactions.Desks.{stand_alike, telling_append}
use Rattle.fs_serial.proofs.Transactions.OwnVotes.{counts_here, stage_counted}
use Rattle.fs_serial.proofs.Transactions.Recalled.{recalls_answer_nothing, recalls_tell_nothing}
use Rattle.fs_serial.proofs.Transactions.RoundsLocks.{round_at, round_by, round_me, round_votes}
use Rattle.fs_serial.proofs.Lists.Traffic.{sent_append}

-- ## What all rounds do

-- of the server they change rows alone, and which files are kept
pub rounds_server : (txn : TxnNo) (number : ℕ) (by : Session) (ps : List Part) (r : Round)
    → (rounds txn number by ps r).server ≡ (let u : Server = (rounds txn number by ps r).server in
    let s : Server = record r.server { rows = u.rows; paths = u.paths } in s)
rounds_server txn number by [] r = refl
rounds_server txn number by (p ∷ ps) r =
    let u : Server = (rounds txn (number + 1) by ps (part_round txn number by p r)).server in
    rounds_server txn (number + 1) by ps (part_round txn number by p r)
    ∙ elim (is_mine r.server p.file) as
    (λ b. (let s : Server = record (round_by txn number by p r b).server { rows = u.rows; paths = u.paths } in s)
    ≡ (let s : Server = record r.server { rows = u.rows; paths = u.paths } in s)) [
      | true ↦ refl
      | false ↦ refl
    ]

pub rounds_at : (txn : TxnNo) (number : ℕ) (by : Session) (ps : List Part) (r : Round)
    → length (rounds txn number by ps r).at ≡ length r.at + length ps
rounds_at txn number by [] r = omega arith
rounds_at txn number by (p ∷ ps) r =
    let rest : length (rounds txn (number + 1) by ps (part_round txn number by p r)).at
    ≡ length (part_round txn number by p r).at + length ps = rounds_at txn (number + 1) by ps (part_round txn number by p r) in
    let one : length (part_round txn number by p r).at ≡ length r.at + 1 = round_at txn number by p r in
    rest ∙ ap (λ n. n + length ps) one ∙ (let e : (length r.at + 1) + length ps ≡ length r.at + length (p ∷ ps) = omega arith in e)

pub rounds_votes : (txn : TxnNo) (number : ℕ) (by : Session) (ps : List Part) (r : Round)
    → length (rounds txn number by ps r).votes ≡ length r.votes + length ps
rounds_votes txn number by [] r = omega arith
rounds_votes txn number by (p ∷ ps) r =
    let rest : length (rounds txn (number + 1) by ps (part_round txn number by p r)).votes
    ≡ length (part_round txn number by p r).votes + length ps = rounds_votes txn (number + 1) by ps (part_round txn number by p r) in
    let one : length (part_round txn number by p r).votes ≡ length r.votes + 1 = round_votes txn number by p r in
    rest ∙ ap (λ n. n + length ps) one ∙ (let e : (length r.votes + 1) + length ps ≡ length r.votes + length (p ∷ ps) = omega arith in e)

-- whom a part was asked of is settled
at_stays : (txn : TxnNo) (number : ℕ) (by : Session) (ps : List Part) (r : Round) (i to : ℕ) → slice_get r.at i ≡ Some to
    → slice_get (rounds txn number by ps r).at i ≡ Some to
at_stays txn number by [] r i to h = h
at_stays txn number by (p ∷ ps) r i to h = at_stays txn (number + 1) by ps (part_round txn number by p r) i to
    (elim (is_mine r.server p.file) as (λ b. slice_get (round_by txn number by p r b).at i ≡ Some to) [
      | true ↦ front_at r.at (r.server.me ∷ []) i to h
      | false ↦ front_at r.at (server_of r.server.map p.file ∷ []) i to h
    ])

-- the first part is the server's own where its file is
pub rounds_home : (txn : TxnNo) (number : ℕ) (by : Session) (ps : List Part) (r : Round) (p : Part) → slice_get ps 0 ≡ Some p → r.at ≡ []
    → is_mine r.server p.file ≡ true → slice_get (rounds txn number by ps r).at 0 ≡ Some r.server.me
rounds_home txn number by [] r p first none mine = absurd (cc first)
rounds_home txn number by (q ∷ ps) r p first none mine =
    let same : p ≡ q = cc in
    let here : is_mine r.server q.file ≡ true = ap (λ (x : Part). is_mine r.server x.file) (sym same) ∙ mine in
    at_stays txn (number + 1) by ps (part_round txn number by q r) 0 r.server.me
    (ap (λ b. slice_get (round_by txn number by q r b).at 0) here ∙ ap (λ xs. slice_get (xs ++ r.server.me ∷ []) 0) none)

-- no session is told anything
sent_on : (k : ℕ) (xs ys : List (Peer × Msg)) (lines : Session → Lines)
    → with_sent k (xs ++ ys) lines ≡ with_sent k ys (with_sent k xs lines)
sent_on k [] ys lines = refl
sent_on k ((OfSession to, msg.Answer a) ∷ xs) ys lines = sent_on k xs ys _
sent_on k ((OfSession to, msg.Client m) ∷ xs) ys lines = sent_on k xs ys lines
sent_on k ((OfSession to, msg.Peer m) ∷ xs) ys lines = sent_on k xs ys lines
sent_on k ((OfServer to, m) ∷ xs) ys lines = sent_on k xs ys lines

pub rounds_lines : (k : ℕ) (txn : TxnNo) (number : ℕ) (by : Session) (ps : List Part) (r : Round) (lines : Session → Lines)
    → with_sent k r.send lines ≡ lines → with_sent k (rounds txn number by ps r).send lines ≡ lines
rounds_lines k txn number by [] r lines h = h
rounds_lines k txn number by (p ∷ ps) r lines h = rounds_lines k txn (number + 1) by ps (part_round txn number by p r) lines
    (elim (is_mine r.server p.file) as (λ b. with_sent k (round_by txn number by p r b).send lines ≡ lines) [
      | true ↦
          let v : Vote = vote_here r.server by p in
          sent_on k r.send (recalls_for v r.server p) lines ∙ ap (with_sent k (recalls_for v r.server p)) h
          ∙ recalls_answer_nothing k v r.server p lines
      | false ↦ sent_on k r.send (to_server (server_of r.server.map p.file) (ask_for txn number by p) ∷ []) lines ∙ h
    ])

-- ## Where the parts stand

module _ (mode : Mode2) (k : ℕ) (txn : TxnNo) (by : Session) (m : ToLead) (old : Desks) (own : txn.server ≡ k)
    (new : (y : Key) → same_txn y.txn txn ≡ true → old.stages y ≡ Unknown) where
  abbrev pub wanted_at : Option Part → Wanted → Wanted
  wanted_at None w = w
  wanted_at (Some p) w = record { session = by; part = p }

  -- what is asked for each part
  abbrev pub parts_with : Key → Wanted
  parts_with y = cond (same_txn y.txn txn) (wanted_at (slice_get (parts_in mode m) y.part) (old.parts y)) (old.parts y)

  -- their stages, by these votes and servers
  abbrev pub stages_with : Votes → List ℕ → Key → Stage
  stages_with votes at y = cond (same_txn y.txn txn) (stage_by (slice_get at y.part) (slice_get votes y.part)) (old.stages y)

  abbrev pub desks_with : Round → Desks
  desks_with r =
      record {
        parts = parts_with;
        stages = stages_with r.votes r.at;
        prepared = old.prepared;
        telling =
            old.telling ++ telling_of (in_flight_from k r.send);
      }

  -- nobody is asked yet
  pub none_asked : (s : Server) → StagesHold old → StagesHold (desks_with (record { server = s; votes = []; at = []; send = [] }))
  none_asked s h y =
      elim (same_txn y.txn txn) as
      (λ b. same_txn y.txn txn ≡ b → IsStage y (cond b (wanted_at (slice_get (parts_in mode m) y.part) (old.parts y)) (old.parts y))
      (cond b (stage_by (slice_get [] y.part) (slice_get [] y.part)) (old.stages y)) (λ j. old.prepared j y)
      (told_of y (old.telling ++ []))) [
        | true ↦ λ e.
            let q : (told_of y old.telling ≡ []) × IsNowhere (λ j. old.prepared j y) = subst
            (λ x. IsStage y (old.parts y) x (λ j. old.prepared j y) (told_of y old.telling)) (new y e) (h y) in
            (ap (told_of y) (append-nil old.telling) ∙ q.0, q.1)
        | false ↦
            λ e. subst (λ xs. IsStage y (old.parts y) (old.stages y) (λ j. old.prepared j y) (told_of y xs)) (sym (append-nil old.telling))
            (h y)
      ] refl

  module _ (number : ℕ) (p : Part) (part : slice_get (parts_in mode m) number ≡ Some p) (r : Round) (at : length r.at ≡ number)
      (voted : length r.votes ≡ number) where
    abbrev key : Key
    key = key_of txn number

    abbrev wanted : Wanted
    wanted = record { session = by; part = p }

    wanted_is : parts_with key ≡ wanted
    wanted_is =
        ap (λ b. cond b (wanted_at (slice_get (parts_in mode m) number) (old.parts key)) (old.parts key)) (txn_itself txn)
        ∙ ap (λ o. wanted_at o (old.parts key)) part

    same_parts : (y : Key) → parts_with y ≡ with_key key wanted parts_with y
    same_parts y =
        elim (same_key y key) as
        (λ b. same_key y key ≡ b → parts_with y ≡ cond b wanted (parts_with y)) [
          | true ↦
              λ e. ap parts_with (key_is y key e) ∙ wanted_is
          | false ↦ λ e. refl
        ] refl

    unknown : stages_with r.votes r.at key ≡ Unknown
    unknown =
        ap (λ b. cond b (stage_by (slice_get r.at number) (slice_get r.votes number)) (old.stages key)) (txn_itself txn)
        ∙ ap (λ o. stage_by o (slice_get r.votes number)) (slice_get_past r.at number (omega (arith, at)))

    one_stage : (to : ℕ) (v : Option Vote) (y : Key) → stages_with (r.votes ++ v ∷ []) (r.at ++ to ∷ []) y ≡ with_key key
        (stage_by (Some to) (Some v)) (stages_with r.votes r.at) y
    one_stage to v y = by_txn (same_txn y.txn txn) refl
      where
        by_part : (d : Bool) → (y.part == number) ≡ d → stage_by (slice_get (r.at ++ to ∷ []) y.part) (slice_get (r.votes ++ v ∷ []) y.part)
            ≡ cond d (stage_by (Some to) (Some v)) (stage_by (slice_get r.at y.part) (slice_get r.votes y.part))
        by_part true e =
            let n : y.part ≡ number = eqb-true y.part number e in
            ap₂ stage_by (last_at r.at to y.part (n ∙ sym at)) (last_at r.votes v y.part (n ∙ sym voted))
        by_part false e =
            let off : y.part ≡ number → ⊥ = eqb-false y.part number e in
            ap₂ stage_by (other_at r.at to y.part (λ q. off (q ∙ at))) (other_at r.votes v y.part (λ q. off (q ∙ voted)))

        by_txn : (b : Bool) → same_txn y.txn txn ≡ b → cond b
            (stage_by (slice_get (r.at ++ to ∷ []) y.part) (slice_get (r.votes ++ v ∷ []) y.part)) (old.stages y)
            ≡ cond (b && (y.part == number)) (stage_by (Some to) (Some v))
            (cond b (stage_by (slice_get r.at y.part) (slice_get r.votes y.part)) (old.stages y))
        by_txn true e = by_part (y.part == number) refl
        by_txn false e = refl

    -- a part that is here votes
    own_stands : r.server.me ≡ k → is_mine r.server p.file ≡ true → StagesHold (desks_with r)
        → StagesHold (desks_with (own_part txn p (vote_here r.server by p) r))
    own_stands mine here h =
        let v : Vote = vote_here r.server by p in
        let counted : stage_of txn.server v ≡ Counted r.server.me v =
        stage_counted txn.server v (counts_here r.server by p here) ∙ ap (λ n. Counted n v) (own ∙ sym mine) in
        stand_alike (after_own key wanted v (desks_with r)) (desks_with (own_part txn p v r)) (record {
          parts = same_parts;
          stages = λ y. one_stage r.server.me (Some v) y ∙ ap (λ x. with_key key x (stages_with r.votes r.at) y) (sym counted);
          prepared = λ j y. refl;
          telling = ap (λ fs. old.telling ++ telling_of fs) (sent_append k r.send (recalls_for v r.server p))
              ∙ ap (λ ws. old.telling ++ ws) (telling_append (in_flight_from k r.send) (in_flight_from k (recalls_for v r.server p)))
              ∙ ap (λ ws. old.telling ++ (telling_of (in_flight_from k r.send) ++ ws)) (recalls_tell_nothing k v r.server p)
              ∙ ap (λ ws. old.telling ++ ws) (append-nil (telling_of (in_flight_from k r.send)));
        }) (owns (desks_with r) key wanted v h unknown)

    -- any other is asked for
    asked_stands : r.server.me ≡ k → is_mine r.server p.file ≡ false → StagesHold (desks_with r)
        → StagesHold (desks_with (asked_part txn number by p (server_of r.server.map p.file) r))
    asked_stands mine away h =
        let to : ℕ = server_of r.server.map p.file in
        let apart : (to == txn.server) ≡ false = ap (λ n. to == n) (own ∙ sym mine) ∙ away in
        let ask : Told = record { from = k; to = to; key = key; word = Prepare wanted } in
        let is : ask ≡ word_to key to (Prepare wanted) =
        ap (λ n. let w : Told = record { from = n; to = to; key = key; word = Prepare wanted } in w) (sym own) in
        stand_alike (after_ask key to wanted (desks_with r)) (desks_with (asked_part txn number by p to r)) (record {
          parts = same_parts;
          stages = one_stage to None;
          prepared = λ j y. refl;
          telling =
              ap (λ fs. old.telling ++ telling_of fs) (sent_append k r.send (to_server to (ask_for txn number by p) ∷ []))
              ∙ ap (λ ws. old.telling ++ ws)
              (telling_append (in_flight_from k r.send) (in_flight_from k (to_server to (ask_for txn number by p) ∷ [])))
              ∙ sym (append_assoc old.telling (telling_of (in_flight_from k r.send)) (ask ∷ []))
              ∙ ap (λ w. (old.telling ++ telling_of (in_flight_from k r.send)) ++ w ∷ []) is;
        }) (asks (desks_with r) key to wanted h unknown apart)

    round_stands : r.server.me ≡ k → StagesHold (desks_with r) → StagesHold (desks_with (part_round txn number by p r))
    round_stands mine h =
        elim (is_mine r.server p.file) as (λ b. is_mine r.server p.file ≡ b → StagesHold (desks_with (round_by txn number by p r b))) [
          | true ↦ λ here. own_stands mine here h
          | false ↦ λ away. asked_stands mine away h
        ] refl

  pub rounds_stand : (ps : List Part) (number : ℕ) (r : Round)
      → ((i : ℕ) (p : Part) → slice_get ps i ≡ Some p → slice_get (parts_in mode m) (number + i) ≡ Some p) → length r.at ≡ number
      → length r.votes ≡ number → r.server.me ≡ k
      → StagesHold (desks_with r) → StagesHold (desks_with (rounds txn number by ps r))
  rounds_stand [] number r parts at voted mine h = h
  rounds_stand (p ∷ ps) number r parts at voted mine h =
      rounds_stand ps (number + 1) (part_round txn number by p r)
      (λ i q e. subst (λ n. slice_get (parts_in mode m) n ≡ Some q) (let s : number + suc i ≡ (number + 1) + i = omega arith in s)
      (parts (suc i) q e))
      (round_at txn number by p r ∙ ap (λ n. n + 1) at) (round_votes txn number by p r ∙ ap (λ n. n + 1) voted)
      (round_me txn number by p r ∙ mine)
      (round_stands number p
      (subst (λ n. slice_get (parts_in mode m) n ≡ Some p) (let s : number + 0 ≡ number = omega arith in s)
      (parts 0 p refl)) r at voted mine h)
