-- The rows that the first parts of a transaction lock at its leader, and what is sent for the others.
use Rattle.std.proofs.Common.{◌≡◌, ◌+◌, ◌==◌, ℕ, suc, Bool, true, false, List, [], ◌∷◌, ◌++◌, length, append_assoc, append-nil, refl, sym, ap, ◌∙◌, subst, cond, filter, inl, inr, arith, length-append}
use Rattle.std.specs.Prelude.{◌⊎◌, Option, Some, None, slice_get}
use Rattle.std.specs.List.{flat_map}
use Rattle.std.proofs.lemmas.List.Elements.{filter-append, filter_map-append}
use Rattle.std.proofs.lemmas.List.Concat.{flat_map-append}
use Rattle.fs_ident.specs.In.{In}
use Rattle.fs_ident.specs.declared.actor.Peer.{Peer}
use Rattle.fs_ident.specs.declared.actor.Session.{Session}
use Rattle.fs_ident.specs.declared.actor.TxnNo.{TxnNo}
use Rattle.fs_ident.proofs.Same.{itself}
use Rattle.fs_ident.proofs.Standing.{In-behind, In-both, In-front}
use Rattle.fs_field.specs.Table.{is_ordered}
use Rattle.fs_field.specs.declared.effect.Effect.{Effect}
use Rattle.fs_field.specs.declared.row.Row.{Row}
use Rattle.fs_field.specs.declared.used.Part.{Part}
use Rattle.fs_field.specs.declared.vote.Vote.{Vote}
use Rattle.fs_field.specs.declared.vote.Vote.TheVariants.{Yes, Ended, Moved, PathsOut}
use Rattle.fs_field.proofs.Order.{ordered_map}
use Rattle.fs_map.specs.Map.{server_of}
use Rattle.fs_msg.specs.declared.lead.Lead.{Lead as ToLead}
use Rattle.fs_msg.specs.declared.msg.Msg.{Msg}
use Rattle.fs_msg.specs.declared.msg.Msg.TheVariants as msg
use Rattle.fs_server.specs.Begins.{Round, asked_part, leader_with, own_part, part_round, parts_in, rounds}
use Rattle.fs_server.specs.Counts.{ask_for}
use Rattle.fs_server.specs.Follows.{recalls_for, to_server, vote_here}
use Rattle.fs_server.specs.Server.{is_mine}
use Rattle.fs_server.specs.Ships.{first_gone}
use Rattle.fs_server.specs.declared.state.Server.{Server}
use Rattle.fs_txn.specs.Leading.{agreed_part, said_by, said_yes, yes_from}
use Rattle.fs_txn.specs.Locks.{Agreed, IsKept, IsOf, Kept, LocksHold}
use Rattle.fs_txn.specs.Preparing.{row_locked, rows_voted}
use Rattle.fs_txn.specs.Stages.{Key, Told, word_to}
use Rattle.fs_txn.specs.Stages.Word.{Decide, Prepare}
use Rattle.fs_txn.specs.Votes.{Votes}
use Rattle.fs_txn.specs.declared.leading.Leading.{Leading}
use Rattle.fs_txn.specs.declared.mode.Mode2.{Mode2}
use Rattle.fs_txn.proofs.Locking.{used_same}
use Rattle.fs_serial.specs.Cluster.{in_flight_from}
use Rattle.fs_serial.specs.Words.{telling_of, told_in}
use Rattle.fs_serial.proofs.Lists.Traffic.{sent_append}
use Rattle.fs_serial.proofs.Transactions.OwnVotes.{voted_stay, yes_stands}
use Rattle.fs_serial.proofs.Transactions.Recalled.{recalls_tell_nothing}
use Rattle.fs_serial.proofs.Transactions.Tables.{locks_alike, said_its}
use Rattle.fs_serial.proofs.Transactions.YesLocks.{yes_locks}

-- ## Votes in their order

-- the last of them, behind the others
yes_last : (number : ℕ) (vs : Votes) (ks : List ℕ) (v : Option Vote) (k : ℕ) → length vs ≡ length ks
    → yes_from number (vs ++ v ∷ []) (ks ++ k ∷ []) ≡ yes_from number vs ks ++ cond (said_yes v) ((number + length vs, k) ∷ []) []
yes_last number [] [] v k same = ap (λ n. cond (said_yes v) ((n, k) ∷ []) []) (omega arith)
yes_last number [] (y ∷ ks) v k same = absurd (cc)
yes_last number (x ∷ vs) [] v k same = absurd (cc)
yes_last number (x ∷ vs) (y ∷ ks) v k same =
    let rest : yes_from (number + 1) (vs ++ v ∷ []) (ks ++ k ∷ [])
    ≡ yes_from (number + 1) vs ks ++ cond (said_yes v) ((number + length (x ∷ vs), k) ∷ []) [] =
    yes_last (number + 1) vs ks v k (cc) ∙ ap (λ n. yes_from (number + 1) vs ks ++ cond (said_yes v) ((n, k) ∷ []) []) (omega arith) in
    elim (said_yes x) as
    (λ b. cond b ((number, y) ∷ yes_from (number + 1) (vs ++ v ∷ []) (ks ++ k ∷ []))
    (yes_from (number + 1) (vs ++ v ∷ []) (ks ++ k ∷ []))
    ≡ cond b ((number, y) ∷ yes_from (number + 1) vs ks) (yes_from (number + 1) vs ks) ++ cond (said_yes v)
    ((number + length (x ∷ vs), k) ∷ []) []) [
      | true ↦ ap (λ ys. (number, y) ∷ ys) rest
      | false ↦ rest
    ]

-- ## One part more

abbrev pub round_by : TxnNo → ℕ → Session → Part → Round → Bool → Round
round_by txn number by p r b =
    cond b (own_part txn p (vote_here r.server by p) r) (asked_part txn number by p (server_of r.server.map p.file) r)

pub round_me : (txn : TxnNo) (number : ℕ) (by : Session) (p : Part) (r : Round) → (part_round txn number by p r).server.me ≡ r.server.me
round_me txn number by p r =
    elim (is_mine r.server p.file) as (λ b. (round_by txn number by p r b).server.me ≡ r.server.me) [ true ↦ refl | false ↦ refl ]

pub round_at : (txn : TxnNo) (number : ℕ) (by : Session) (p : Part) (r : Round) → length (part_round txn number by p r).at ≡ length r.at + 1
round_at txn number by p r = elim (is_mine r.server p.file) as (λ b. length (round_by txn number by p r b).at ≡ length r.at + 1) [
  | true ↦ length-append r.at (r.server.me ∷ [])
  | false ↦ length-append r.at (server_of r.server.map p.file ∷ [])
]

pub round_votes : (txn : TxnNo) (number : ℕ) (by : Session) (p : Part) (r : Round)
    → length (part_round txn number by p r).votes ≡ length r.votes + 1
round_votes txn number by p r = elim (is_mine r.server p.file) as (λ b. length (round_by txn number by p r b).votes ≡ length r.votes + 1) [
  | true ↦ length-append r.votes (Some (vote_here r.server by p) ∷ [])
  | false ↦ length-append r.votes (None ∷ [])
]

-- ## Part by part

module _ (mode : Mode2) (txn : TxnNo) (by : Session) (m : ToLead) (me : ℕ) (said : List Agreed) (kept : List Kept)
    (new : (s : TxnNo) → IsOf said s by ⊎ IsKept kept s by → ⊥) where
  -- the transaction, as it stands then
  abbrev pub led_so_far : Round → Leading
  led_so_far r = record { leader = leader_with mode txn by m r.votes; at = r.at }

  -- the parts that said Yes here
  abbrev pub said_so_far : Round → List Agreed
  said_so_far r = said ++ said_by me (led_so_far r)

  pub record LocksSoFar (r : Round) : Type 0 where
    pub ordered : is_ordered r.server.rows ≡ true
    pub locks : LocksHold r.server.rows (said_so_far r) kept

  -- the part of that number, as one that said Yes
  abbrev none_yet : Leading
  none_yet = record { leader = leader_with mode txn by m []; at = [] }

  abbrev of_number : ℕ × ℕ → List Agreed
  of_number x = agreed_part none_yet x.0 (slice_get (parts_in mode m) x.0)

  abbrev at_me : ℕ × ℕ → Bool
  at_me x = x.1 == me

  said_more : (votes : Votes) (at : List ℕ) (v : Option Vote) (k : ℕ) → length votes ≡ length at
      → said_by me (record { leader = leader_with mode txn by m (votes ++ v ∷ []); at = at ++ k ∷ [] })
      ≡ said_by me (record { leader = leader_with mode txn by m votes; at = at }) ++ flat_map of_number
      (filter at_me (cond (said_yes v) ((0 + length votes, k) ∷ []) []))
  said_more votes at v k same =
      ap (λ xs. flat_map of_number (filter at_me xs)) (yes_last 0 votes at v k same)
      ∙ ap (flat_map of_number) (filter-append at_me (yes_from 0 votes at) (cond (said_yes v) ((0 + length votes, k) ∷ []) []))
      ∙ flat_map-append of_number (filter at_me (yes_from 0 votes at)) (filter at_me (cond (said_yes v) ((0 + length votes, k) ∷ []) []))

  module _ (number : ℕ) (p : Part) (part : slice_get (parts_in mode m) number ≡ Some p) (r : Round) (at : length r.at ≡ number)
      (voted : length r.votes ≡ number) where
    abbrev y : Agreed
    y = record { key = record { txn = txn; part = number }; wanted = record { session = by; part = p } }

    same : length r.votes ≡ length r.at
    same = voted ∙ sym at

    pub not_said : (v : Option Vote) (k : ℕ) → said_yes v ≡ false
        → said_by me (record { leader = leader_with mode txn by m (r.votes ++ v ∷ []); at = r.at ++ k ∷ [] }) ≡ said_by me (led_so_far r)
    not_said v k none =
        said_more r.votes r.at v k same ∙ ap
        (λ b. said_by me (led_so_far r) ++ flat_map of_number (filter at_me (cond b ((0 + length r.votes, k) ∷ []) []))) none
        ∙ append-nil (said_by me (led_so_far r))

    pub is_said : said_by me (record { leader = leader_with mode txn by m (r.votes ++ Some Yes ∷ []); at = r.at ++ me ∷ [] })
        ≡ said_by me (led_so_far r) ++ y ∷ []
    is_said =
        said_more r.votes r.at (Some Yes) me same
        ∙ ap (λ b. said_by me (led_so_far r) ++ flat_map of_number (cond b ((0 + length r.votes, me) ∷ []) [])) (itself me)
        ∙ ap (λ n. said_by me (led_so_far r) ++ (agreed_part none_yet n (slice_get (parts_in mode m) n) ++ []))
        (let e : 0 + length r.votes ≡ number = omega arith in e)
        ∙ ap (λ o. said_by me (led_so_far r) ++ (agreed_part none_yet number o ++ [])) part

    -- whoever locks a row of the session here is the transaction
    own_lock : LocksSoFar r → (x : Row) → In x r.server.rows → x.session ≡ by → (t : TxnNo) → x.lock ≡ Some t → t ≡ txn
    own_lock h x i own t e = elim (h.locks.used x t i e) as (λ _. t ≡ txn) [
      | inl o ↦ In-both o.agreed said (said_by me (led_so_far r)) (t ≡ txn)
          (λ j. absurd (new t (inl (record { agreed = o.agreed; among = j; its = o.its; session = o.session ∙ own }))))
          (λ j. sym o.its ∙ (said_its me (led_so_far r) o.agreed j).txn)
          o.among
      | inr k ↦ absurd (new t (inr (record { commit = k.commit; among = k.among; its = k.its; session = k.session ∙ own })))
    ]

    -- a part that is not said Yes of locks nothing
    unsaid : (rows : List Row) (v : Option Vote) (k : ℕ) → said_yes v ≡ false → LocksHold rows (said_so_far r) kept
        → LocksHold rows (said ++ said_by me (record { leader = leader_with mode txn by m (r.votes ++ v ∷ []); at = r.at ++ k ∷ [] })) kept
    unsaid rows v k none h = subst (λ ys. LocksHold rows (said ++ ys) kept) (sym (not_said v k none)) h

    yes_said : first_gone r.server.rows by p.uses ≡ None → LocksSoFar r
        → LocksHold (rows_voted Yes txn p.uses r.server.rows)
        (said ++ said_by me (record { leader = leader_with mode txn by m (r.votes ++ Some Yes ∷ []); at = r.at ++ me ∷ [] })) kept
    yes_said none h =
        subst (λ ys. LocksHold (rows_voted Yes txn p.uses r.server.rows) (said ++ ys) kept) (sym is_said)
        (locks_alike (rows_voted Yes txn p.uses r.server.rows) (y ∷ said_so_far r) (said ++ (said_by me (led_so_far r) ++ y ∷ [])) kept kept
        (λ z i. In-both z (said_so_far r) (y ∷ []) (In z (y ∷ said_so_far r)) (λ j. inr j)
        (λ j. elim j as (λ _. In z (y ∷ said_so_far r)) [ inl e ↦ inl e | inr l ↦ absurd l ])
        (subst (In z) (sym (append_assoc said (said_by me (led_so_far r)) (y ∷ []))) i))
        (λ z i. subst (In z) (append_assoc said (said_by me (led_so_far r)) (y ∷ [])) (elim i as (λ _. In z (said_so_far r ++ y ∷ [])) [
          | inl e ↦ In-behind z (said_so_far r) (y ∷ []) (inl e)
          | inr j ↦ In-front z (said_so_far r) (y ∷ []) j
        ]))
        (λ z i. i)
        (yes_locks r.server.rows (said_so_far r) kept y h.locks h.ordered none (own_lock h)))

    own_locked : (v : Vote) → r.server.me ≡ me → is_mine r.server p.file ≡ true → vote_here r.server by p ≡ v → LocksSoFar r
        → LocksSoFar (own_part txn p v r)
    own_locked Yes mine here says h = record {
      ordered = ordered_map (row_locked txn p.uses) (λ x. (used_same txn p.uses x).number) r.server.rows h.ordered;
      locks = subst
          (λ k. LocksHold (rows_voted Yes txn p.uses r.server.rows)
          (said ++ said_by me (record { leader = leader_with mode txn by m (r.votes ++ Some Yes ∷ []); at = r.at ++ k ∷ [] })) kept) (sym mine)
          (yes_said (yes_stands r.server by p here says) h);
    }
    own_locked (Ended n u w) mine here says h =
        record { ordered = h.ordered; locks = unsaid r.server.rows (Some (Ended n u w)) r.server.me refl h.locks }
    own_locked (Moved q t) mine here says h =
        record { ordered = h.ordered; locks = unsaid r.server.rows (Some (Moved q t)) r.server.me refl h.locks }
    own_locked (PathsOut n) mine here says h =
        record { ordered = h.ordered; locks = unsaid r.server.rows (Some (PathsOut n)) r.server.me refl h.locks }

    asked_locked : (to : ℕ) → LocksSoFar r → LocksSoFar (asked_part txn number by p to r)
    asked_locked to h = record { ordered = h.ordered; locks = unsaid r.server.rows None to refl h.locks }

    round_locked : r.server.me ≡ me → LocksSoFar r → LocksSoFar (part_round txn number by p r)
    round_locked mine h = elim (is_mine r.server p.file) as (λ b. is_mine r.server p.file ≡ b → LocksSoFar (round_by txn number by p r b)) [
      | true ↦ λ here. own_locked (vote_here r.server by p) mine here refl h
      | false ↦ λ here. asked_locked (server_of r.server.map p.file) h
    ] refl

  pub rounds_locked : (ps : List Part) (number : ℕ) (r : Round)
      → ((i : ℕ) (p : Part) → slice_get ps i ≡ Some p → slice_get (parts_in mode m) (number + i) ≡ Some p) → length r.at ≡ number
      → length r.votes ≡ number → r.server.me ≡ me
      → LocksSoFar r → LocksSoFar (rounds txn number by ps r)
  rounds_locked [] number r parts at voted mine h = h
  rounds_locked (p ∷ ps) number r parts at voted mine h =
      rounds_locked ps (number + 1) (part_round txn number by p r)
      (λ i q e. subst (λ n. slice_get (parts_in mode m) n ≡ Some q) (let s : number + suc i ≡ (number + 1) + i = omega arith in s)
      (parts (suc i) q e))
      (round_at txn number by p r ∙ ap (λ n. n + 1) at) (round_votes txn number by p r ∙ ap (λ n. n + 1) voted)
      (round_me txn number by p r ∙ mine)
      (round_locked number p
      (subst (λ n. slice_get (parts_in mode m) n ≡ Some p) (let s : number + 0 ≡ number = omega arith in s)
      (parts 0 p refl)) r at voted mine h)

-- ## What is sent

-- no decision is told
abbrev pub NoDecision : ℕ → List (Peer × Msg) → Type 0
NoDecision k sent =
    (key : Key) (at : ℕ) (effects : List Effect) → In (word_to key at (Decide effects)) (telling_of (in_flight_from k sent)) → ⊥

-- nor is one behind, where these messages tell none
more_undecided : (k : ℕ) (sent more : List (Peer × Msg)) → NoDecision k sent → NoDecision k more → NoDecision k (sent ++ more)
more_undecided k sent more none quiet key at effects i =
    In-both (word_to key at (Decide effects)) (telling_of (in_flight_from k sent)) (telling_of (in_flight_from k more)) ⊥
    (none key at effects) (quiet key at effects)
    (subst (In (word_to key at (Decide effects)))
    (ap telling_of (sent_append k sent more) ∙ filter_map-append told_in (in_flight_from k sent) (in_flight_from k more)) i)

pub ask_undecided : (k to : ℕ) (txn : TxnNo) (number : ℕ) (by : Session) (p : Part)
    → NoDecision k (to_server to (ask_for txn number by p) ∷ [])
ask_undecided k to txn number by p key at effects (inl e) =
    let wrong : Decide effects ≡ Prepare (record { session = by; part = p }) = ap (λ (x : Told). x.word) e in
    absurd (cc)
ask_undecided k to txn number by p key at effects (inr i) = i

pub recalls_undecided : (k : ℕ) (v : Vote) (s : Server) (p : Part) → NoDecision k (recalls_for v s p)
recalls_undecided k v s p key at effects i = subst (In (word_to key at (Decide effects))) (recalls_tell_nothing k v s p) i

-- ## What stays

pub rounds_rows_stay : (txn : TxnNo) (number : ℕ) (by : Session) (ps : List Part) (r : Round) (row : Row) (t : TxnNo) → In row r.server.rows
    → row.lock ≡ Some t → In row (rounds txn number by ps r).server.rows
rounds_rows_stay txn number by [] r row t i e = i
rounds_rows_stay txn number by (p ∷ ps) r row t i e =
    rounds_rows_stay txn (number + 1) by ps (part_round txn number by p r) row t
    (elim (is_mine r.server p.file) as
    (λ b. In row (round_by txn number by p r b).server.rows) [
      | true ↦
          voted_stay (vote_here r.server by p) txn p.uses r.server.rows row t i e
      | false ↦ i
    ])
    e

pub rounds_undecided : (k : ℕ) (txn : TxnNo) (number : ℕ) (by : Session) (ps : List Part) (r : Round) → NoDecision k r.send
    → NoDecision k (rounds txn number by ps r).send
rounds_undecided k txn number by [] r none = none
rounds_undecided k txn number by (p ∷ ps) r none = rounds_undecided k txn (number + 1) by ps (part_round txn number by p r)
    (elim (is_mine r.server p.file) as
    (λ b. NoDecision k (round_by txn number by p r b).send) [
      | true ↦ more_undecided k r.send (recalls_for (vote_here r.server by p) r.server p) none
          (recalls_undecided k (vote_here r.server by p) r.server p)
      | false ↦ more_undecided k r.send (to_server (server_of r.server.map p.file) (ask_for txn number by p) ∷ []) none
          (ask_undecided k (server_of r.server.map p.file) txn number by p)
    ])
