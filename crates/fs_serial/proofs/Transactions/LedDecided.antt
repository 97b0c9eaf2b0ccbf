-- A server applies what was decided: all that holds of transactions stays.
use Rattle.std.proofs.Common.{◌≡◌, ◌==◌, ◌&&◌, ◌||◌, ℕ, true, false, not, List, [], ◌∷◌, ◌++◌, refl, sym, ap, ◌∙◌, subst, cond, inl, inr, map, arith}
use Rattle.std.specs.Prelude.{Some, None, option_map, slice_get}
use Rattle.std.specs.List.{find, flat_map}
use Rattle.std.proofs.lemmas.Bool.{eqb-true, not-true}
use Rattle.std.proofs.lemmas.List.Elements.{filter-append}
use Rattle.fs_ident.specs.In.{In}
use Rattle.fs_ident.specs.declared.actor.TxnNo.{TxnNo}
use Rattle.fs_ident.proofs.Standing.{In-filter, In-got, In-mapped, In-more}
use Rattle.fs_field.specs.Table.{is_lock_of, same_txn, unlocked_row}
use Rattle.fs_field.specs.declared.effect.Effect.{Effect}
use Rattle.fs_field.specs.declared.row.Row.{Row}
use Rattle.fs_msg.specs.declared.decide.Decide.{Decide as DecideMsg}
use Rattle.fs_msg.specs.declared.peer_msg.PeerMsg.TheVariants as peer
use Rattle.fs_parcel.proofs.Both.{passing}
use Rattle.fs_server.specs.Follows.{after_decision, applies}
use Rattle.fs_server.specs.declared.state.Server.{Server}
use Rattle.fs_txn.specs.Leading.{said_by}
use Rattle.fs_txn.specs.Locks.{Agreed, LocksHold, rows_decided, rows_unlocked, waits_here, without_part}
use Rattle.fs_txn.specs.Ready.{agreed_of, is_awaited, is_part, without_prepared}
use Rattle.fs_txn.specs.Stages.{Desks, Key, StagesHold, Told, is_between, same_key, word_from, word_to}
use Rattle.fs_txn.specs.Stages.Word.{Decide, Done}
use Rattle.fs_txn.specs.Telling.{IsFirst, after_decide, with_key, without_first}
use Rattle.fs_txn.specs.declared.leading.Ending.{Ending}
use Rattle.fs_txn.specs.declared.leading.Leading.{Leading}
use Rattle.fs_txn.specs.declared.ready.Ready.{Ready}
use Rattle.fs_txn.proofs.Keys.{found, key_is}
use Rattle.fs_txn.proofs.Locked.{decide_keeps}
use Rattle.fs_txn.proofs.Telling.{decides}
use Rattle.fs_txn.proofs.Waiting.{left_so, rows_so}
use Rattle.fs_serial.specs.Cluster.{Cluster, in_flight_from}
use Rattle.fs_serial.specs.Cluster as cluster
use Rattle.fs_serial.specs.Leading.{IsEnded, IsLeading, LedHolds}
use Rattle.fs_serial.specs.Words.{Comes, desks_of, kept_at, key_of, said_at, stage_of_key, telling_of, then_of, told_with, wanted_of}
use Rattle.fs_serial.proofs.Transactions.Desks.{IsDecidingWord, IsHeard, deciding_word, each_after, ended_still, files_still, heard, leading_still, prepared_one, stage_set, stand_alike, taken_In, telling_append, told_then}
use Rattle.fs_serial.proofs.Transactions.OwnersOfLocks.{one_said}
use Rattle.fs_serial.proofs.Transactions.Tables.{In_some, all_stay, its_key, part_gone, part_left, said_its}

-- ## Parts of other transactions

other_key : (key : Key) (y : Agreed) → same_txn y.key.txn key.txn ≡ false → not (same_key y.key key) ≡ true
other_key key y h = ap (λ b. not (b && (y.key.part == key.part))) h

pub none_of_part : (key : Key) (xs : List Agreed) → ((y : Agreed) → In y xs → same_txn y.key.txn key.txn ≡ false) → without_part key xs ≡ xs
none_of_part key xs h = all_stay (λ (y : Agreed). not (same_key y.key key)) xs (λ y i. other_key key y (h y i))

none_wait : (txn : TxnNo) (ys : List Agreed) → ((y : Agreed) → In y ys → same_txn y.key.txn txn ≡ false) → waits_here txn ys ≡ false
none_wait txn [] h = refl
none_wait txn (y ∷ ys) h = ap (λ b. b || waits_here txn ys) (h y (inl refl)) ∙ none_wait txn ys (λ z i. h z (inr i))

pub waits_front : (key : Key) (xs ys : List Agreed) → ((y : Agreed) → In y ys → same_txn y.key.txn key.txn ≡ false)
    → waits_here key.txn (without_part key (xs ++ ys)) ≡ waits_here key.txn (without_part key xs)
waits_front key [] ys h = ap (waits_here key.txn) (none_of_part key ys h) ∙ none_wait key.txn ys h
waits_front key (x ∷ xs) ys h =
    let rest : waits_here key.txn (without_part key (xs ++ ys)) ≡ waits_here key.txn (without_part key xs) = waits_front key xs ys h in
    elim (not (same_key x.key key)) as
    (λ b. waits_here key.txn (cond b (x ∷ without_part key (xs ++ ys)) (without_part key (xs ++ ys)))
    ≡ waits_here key.txn (cond b (x ∷ without_part key xs) (without_part key xs))) [
      | true ↦ ap (λ b. same_txn x.key.txn key.txn || b) rest
      | false ↦ rest
    ]

-- ## Rows of other transactions

pub unlocked_stay : (txn : TxnNo) (rows : List Row) (r : Row) (t : TxnNo) → In r rows → r.lock ≡ Some t → same_txn t txn ≡ false
    → In r (rows_unlocked txn rows)
unlocked_stay txn rows r t i e off =
    let same : unlocked_row txn r ≡ r = ap (λ b. cond b (let q : Row = record r { lock = None } in q) r) (ap (is_lock_of txn) e ∙ off) in
    subst (λ z. In z (rows_unlocked txn rows)) same (In-mapped (unlocked_row txn) r rows i)

pub not_its : (t u : TxnNo) (k : ℕ) → t.server ≡ k → (k == u.server) ≡ false → same_txn t u ≡ false
not_its t u k e h = ap (λ b. b && (t.count == u.count)) (ap (λ n. n == u.server) e ∙ h)

-- ## The decision comes

module _ (k from : ℕ) (c : Cluster) (s : Server) (at : slice_get c.servers k ≡ Some s) (held : LedHolds c) (me : s.me ≡ k) (m : DecideMsg)
    (comes : Comes k from c (peer.Decide m)) where
  abbrev key : Key
  key = key_of m.txn m.number

  abbrev y : Server
  y = after_decision m s

  abbrev then : Cluster
  then = then_of k from c (peer.Decide m) (applies from m s)

  abbrev d : Desks
  d = desks_of held.parts c

  abbrev word : Told
  word = told_with from k (key, Decide m.effects)

  among : In s c.servers
  among = In-got c.servers k s at

  hears : IsHeard from k c.in_flight word
  hears = heard from k (peer.Decide m) (key, Decide m.effects) c.in_flight refl comes

  decides_it : IsDecidingWord d key word
  decides_it =
      deciding_word d key word refl held.stages (found (is_between from k) word (telling_of c.in_flight) hears.first) m.effects refl

  -- it comes from the leader, which is another server
  from_leader : from ≡ m.txn.server
  from_leader = ap (λ (x : Told). x.from) decides_it.is

  elsewhere : (k == m.txn.server) ≡ false
  elsewhere = ap (λ (x : Told). x.to == m.txn.server) decides_it.is ∙ decides_it.elsewhere

  -- ## Stages

  still : (other : Key) → stage_of_key then.servers other ≡ stage_of_key c.servers other
  still other = stage_set c.servers k s y at refl refl other

  waits_no_more : (other : Key) → option_map wanted_of (find (is_part other.txn other.part) (without_prepared m.txn m.number s.prepared))
      ≡ with_key key None (λ x. option_map wanted_of (find (is_part x.txn x.part) s.prepared)) other
  waits_no_more other =
      elim (same_key other key) as
      (λ b. same_key other key ≡ b → option_map wanted_of (find (is_part other.txn other.part) (without_prepared m.txn m.number s.prepared))
      ≡ cond b None (option_map wanted_of (find (is_part other.txn other.part) s.prepared))) [
        | true ↦
            λ t. ap (λ (x : Key). option_map wanted_of (find (is_part x.txn x.part) (without_prepared m.txn m.number s.prepared)))
            (key_is other key t) ∙ ap (option_map wanted_of) (part_gone key s.prepared)
        | false ↦ λ t. ap (option_map wanted_of) (part_left key other s.prepared t)
      ] refl

  abbrev told_by : ℕ → List Told
  told_by n =
      without_first (is_between n k) (telling_of c.in_flight) ++
      (let w : Told = record { from = k; to = n; key = key; word = Done } in w) ∷ []

  telling_then : telling_of then.in_flight ≡ told_by m.txn.server
  telling_then =
      telling_append (cluster.without_first (cluster.is_between from k) c.in_flight) (in_flight_from k (applies from m s).out.send)
      ∙ ap (λ xs. xs ++ (let w : Told = record { from = k; to = from; key = key; word = Done } in w) ∷ []) hears.left
      ∙ ap told_by from_leader

  stages_then : StagesHold (desks_of held.parts then)
  stages_then =
      let is : word ≡ word_to key k (Decide m.effects) =
      ap (λ n. let w : Told = record { from = n; to = k; key = key; word = Decide m.effects } in w) from_leader in
      let first : IsFirst (word_to key k (Decide m.effects)) d.telling = subst (λ w. IsFirst w d.telling) is hears.first in
      stand_alike (after_decide key k m.effects d) (desks_of held.parts then) (record {
        parts = λ other. refl;
        stages = still;
        prepared = prepared_one c.servers k s y at key None waits_no_more;
        telling = telling_then;
      }) (decides d key k m.effects held.stages first)

  -- a decision that is told then was told before
  pub told_before : (other : Key) (to : ℕ) (es : List Effect) → In (word_to other to (Decide es)) (telling_of then.in_flight)
      → In (word_to other to (Decide es)) (telling_of c.in_flight)
  told_before other to es i =
      In-more (word_to other to (Decide es)) (without_first (is_between m.txn.server k) (telling_of c.in_flight)) (word_from key k Done)
      (In (word_to other to (Decide es)) (telling_of c.in_flight))
      (λ j. taken_In (word_to key k Done) (word_to other to (Decide es)) (telling_of c.in_flight) j)
      (λ e. let wrong : Decide es ≡ Done = ap (λ (x : Told). x.word) e in absurd (cc))
      (subst (In (word_to other to (Decide es))) telling_then i)

  -- ## Locks

  -- the parts that said Yes here of its own transactions are of others
  pub own_others : (z : Agreed) → In z (flat_map (said_by s.me) s.leading) → same_txn z.key.txn key.txn ≡ false
  own_others z i =
      let q = In_some (said_by s.me) z s.leading i in
      let l = held.leading s among q.0 q.1.0 in
      not_its z.key.txn m.txn k (ap (λ (t : TxnNo). t.server) (said_its s.me q.0 z q.1.1).txn ∙ l.own ∙ me) elsewhere

  pub said_then : without_part key (said_at s) ≡ said_at y
  said_then =
      filter-append (λ (z : Agreed). not (same_key z.key key)) (map agreed_of s.prepared) (flat_map (said_by s.me) s.leading)
      ∙ ap (λ xs. xs ++ without_part key (flat_map (said_by s.me) s.leading)) (sym (left_so m.txn m.number s.prepared))
      ∙ ap (λ xs. map agreed_of (without_prepared m.txn m.number s.prepared) ++ xs)
      (none_of_part key (flat_map (said_by s.me) s.leading) own_others)

  rows_then : rows_decided key s.rows (said_at s) ≡ y.rows
  rows_then =
      ap (λ b. cond b s.rows (rows_unlocked m.txn s.rows))
      (waits_front key (map agreed_of s.prepared) (flat_map (said_by s.me) s.leading) own_others)
      ∙ sym (rows_so m.txn m.number s.prepared s.rows)

  pub locks_applied : LocksHold y.rows (said_at y) (kept_at y)
  locks_applied =
      subst (λ rows. LocksHold rows (said_at y) (kept_at s)) rows_then
      (subst (λ said. LocksHold (rows_decided key s.rows (said_at s)) said (kept_at s)) said_then
      (decide_keeps s.rows (said_at s) (kept_at s) key (held.locks s among) (one_said c held s k at me)))

  -- its rows stay locked for transactions that it leads
  rows_stay : (other : Key) → (other.txn.server == k) ≡ true → (r : Row) → In r s.rows → r.lock ≡ Some other.txn → In r y.rows
  rows_stay other mine r i e =
      elim (is_awaited m.txn (without_prepared m.txn m.number s.prepared)) as (λ b. In r (cond b s.rows (rows_unlocked m.txn s.rows))) [
        | true ↦ i
        | false ↦ unlocked_stay m.txn s.rows r other.txn i e (not_its other.txn m.txn k (eqb-true other.txn.server k mine) elsewhere)
      ]

  -- ## All

  ready_then : (x : Ready) → In x y.prepared → find (is_part x.txn x.number) y.prepared ≡ Some x
  ready_then x i =
      let was : In x s.prepared = In-filter (λ (z : Ready). not (is_part m.txn m.number z)) x s.prepared i in
      let kept : not (is_part m.txn m.number x) ≡ true = passing (λ (z : Ready). not (is_part m.txn m.number z)) s.prepared x i in
      part_left key (its_key x) s.prepared (not-true (is_part m.txn m.number x) kept) ∙ held.ready s among x was

  pub led_decided : LedHolds (then_of k from c (peer.Decide m) (applies from m s))
  led_decided = record {
    parts = held.parts;
    stages = stages_then;
    leading = each_after (λ z. (l : Leading) → In l z.leading → IsLeading c.lines z held.parts l) c.servers k y held.leading
        (λ l i. leading_still c.lines s y held.parts refl (omega arith) refl refl l (held.leading s among l i));
    ending = each_after (λ z. (x : Ending) → In x z.ending → IsEnded c.lines z held.parts x) c.servers k y held.ending
        (λ x i. ended_still c.lines s y held.parts refl (omega arith) refl refl x (held.ending s among x i));
    ready = each_after
        (λ z. (x : Ready) → In x z.prepared → find (is_part x.txn x.number) z.prepared ≡ Some x) c.servers k y held.ready ready_then;
    locks = each_after (λ z. LocksHold z.rows (said_at z) (kept_at z)) c.servers k y held.locks locks_applied;
    files = files_still held.parts (stage_of_key c.servers) (stage_of_key then.servers) (λ other n e. n (still other ∙ e)) held.files;
    few = λ other to es i. held.few other to es (told_before other to es i);
    told = λ other to es i e j. told_then c.servers k s y at other (held.parts other) e (rows_stay other)
        (held.told other to es (told_before other to es i) e j);
  }
