-- A server is asked for a part and votes: all that holds of transactions stays.
use Rattle.std.proofs.Common.{◌≡◌, ◌+◌, ◌≤◌, ℕ, true, false, List, [], ◌∷◌, ◌++◌, length, refl, sym, ap, ◌∙◌, subst, cond, arith}
use Rattle.std.specs.Prelude.{Some, None, is_some, option_map, slice_get}
use Rattle.std.specs.List.{find, flat_map}
use Rattle.fs_ident.specs.In.{In}
use Rattle.fs_ident.specs.declared.actor.Session.{Session}
use Rattle.fs_ident.specs.declared.actor.TxnNo.{TxnNo}
use Rattle.fs_ident.proofs.Standing.{In-got, In-mapped, In-more}
use Rattle.fs_field.specs.Table.{is_ordered}
use Rattle.fs_field.specs.declared.effect.Effect.{Effect}
use Rattle.fs_field.specs.declared.row.Row.{Row}
use Rattle.fs_field.specs.declared.used.Part.{Part}
use Rattle.fs_field.specs.declared.vote.Vote.{Vote}
use Rattle.fs_field.specs.declared.vote.Vote.TheVariants.{Yes, Ended, Moved, PathsOut}
use Rattle.fs_map.specs.Map.{longest}
use Rattle.fs_msg.specs.declared.peer_msg.PeerMsg.TheVariants as peer
use Rattle.fs_msg.specs.declared.prepare.Prepare.{Prepare as PrepareMsg}
use Rattle.fs_server.specs.Follows.{after_vote, path_in_the_way, ready_of, recalls_for, vote_here, votes}
use Rattle.fs_server.specs.Server.{is_mine}
use Rattle.fs_server.specs.Ships.{first_gone}
use Rattle.fs_server.specs.declared.state.Server.{Server}
use Rattle.fs_txn.specs.Locks.{Agreed, LocksHold}
use Rattle.fs_txn.specs.Preparing.{moved_to, row_locked, rows_locked, vote_by}
use Rattle.fs_txn.specs.Ready.{agreed_of, is_part}
use Rattle.fs_txn.specs.Leading.{said_by}
use Rattle.fs_txn.specs.Stages.{Desks, Key, StagesHold, Told, Wanted, is_yes, same_key, word_from, word_to}
use Rattle.fs_txn.specs.Stages.Stage.{Unknown, Asked}
use Rattle.fs_txn.specs.Stages.Word.{Prepare, Voted, Decide}
use Rattle.fs_txn.specs.Telling.{after_prepare, taken, with_key, with_prepared}
use Rattle.fs_txn.specs.declared.leading.Ending.{Ending}
use Rattle.fs_txn.specs.declared.leading.Leading.{Leading}
use Rattle.fs_txn.specs.declared.ready.Ready.{Ready}
use Rattle.fs_txn.proofs.Keys.{key_is}
use Rattle.fs_txn.proofs.Locking.{stays}
use Rattle.fs_txn.proofs.Telling.{prepares}
use Rattle.fs_serial.specs.Cluster.{Cluster, Lines, in_flight_from, is_between, without_first}
use Rattle.fs_serial.specs.Exchange.{due}
use Rattle.fs_serial.specs.Leading.{IsEnded, IsLeading, LedHolds}
use Rattle.fs_serial.specs.Owed.{ends_in}
use Rattle.fs_serial.specs.Words.{Comes, desks_of, kept_at, key_of, prepared_in, ready_at, said_at, stage_of_key, telling_of, then_of, wanted_of}
use Rattle.fs_serial.proofs.Lists.Journals.{none_mapped}
use Rattle.fs_serial.proofs.Transactions.AwaitedWords.{IsPrepareHere, prepare_here}
use Rattle.fs_serial.proofs.Transactions.Desks.{IsTakenWord, each_after, ended_still, files_still, heard_as, leading_still, prepared_one, prepared_set, stage_set, stand_alike, taken_In, telling_append, told_then}
use Rattle.fs_serial.proofs.Transactions.OneOfSession.{one_txn, txns_of}
use Rattle.fs_serial.proofs.Transactions.OwnersOfLocks.{lock_txn, part_txn, stands_in}
use Rattle.fs_serial.proofs.Transactions.OwnVotes.{yes_stands}
use Rattle.fs_serial.proofs.Transactions.Recalled.{recalls_answer_nothing, recalls_tell_nothing}
use Rattle.fs_serial.proofs.Transactions.Tables.{found_front, locks_alike, part_last, part_other, said_more, said_no_less}
use Rattle.fs_serial.proofs.Transactions.YesLocks.{yes_locks}

-- each session asks for one thing at a time, or is owed one answer
abbrev pub OneEach : Cluster → Type 0
OneEach c = (x : Session) → length (ends_in c x).up + length (due (ends_in c x).down) ≤ 1

-- whoever says Yes has the file, and the rows of all leases
pub voted_yes : (s : Server) (by : Session) (p : Part) → vote_here s by p ≡ Yes
    → (is_mine s p.file ≡ true) × (first_gone s.rows by p.uses ≡ None)
voted_yes s by p h =
    let mine : is_mine s p.file ≡ true =
    elim (is_mine s p.file) as
    (λ b. cond b (vote_by (first_gone s.rows by p.uses) (path_in_the_way s p.freeze) s.last) (moved_to (longest s.map p.file)) ≡ Yes
    → b ≡ true) [
      | true ↦ λ e. refl
      | false ↦ λ e. absurd (cc)
    ] h in
    (mine, yes_stands s by p mine h)

-- what a vote leaves as it is
record IsSameBut (s t : Server) : Type 0 where
  me : t.me ≡ s.me
  txns : s.txns ≤ t.txns
  leading : t.leading ≡ s.leading
  ending : t.ending ≡ s.ending
  locked : (r : Row) (txn : TxnNo) → In r s.rows → r.lock ≡ Some txn → In r t.rows

vote_leaves : (v : Vote) (x : Ready) (s : Server) → IsSameBut s (after_vote v x s)
vote_leaves Yes x s = record {
  me = refl;
  txns = omega arith;
  leading = refl;
  ending = refl;
  locked =
      λ r txn i e. subst (λ z. In z (rows_locked x.txn x.part.uses s.rows)) (stays x.txn x.part.uses r (ap is_some e))
      (In-mapped (row_locked x.txn x.part.uses) r s.rows i);
}
vote_leaves (Ended n u w) x s = record { me = refl; txns = omega arith; leading = refl; ending = refl; locked = λ r txn i e. i }
vote_leaves (Moved p to) x s = record { me = refl; txns = omega arith; leading = refl; ending = refl; locked = λ r txn i e. i }
vote_leaves (PathsOut n) x s = record { me = refl; txns = omega arith; leading = refl; ending = refl; locked = λ r txn i e. i }

module _ (k from : ℕ) (c : Cluster) (s : Server) (at : slice_get c.servers k ≡ Some s) (held : LedHolds c) (m : PrepareMsg)
    (comes : Comes k from c (peer.Prepare m)) where
  abbrev key : Key
  key = key_of m.txn m.number

  abbrev asked : Wanted
  asked = record { session = m.session; part = m.part }

  abbrev v : Vote
  v = vote_here s m.session m.part

  abbrev new : Ready
  new = ready_of m

  abbrev t : Server
  t = after_vote v new s

  abbrev after : Cluster
  after = then_of k from c (peer.Prepare m) (votes v from m s)

  abbrev d : Desks
  d = desks_of held.parts c

  abbrev asks : Told
  asks = word_to key k (Prepare asked)

  abbrev answer : Told
  answer = word_from key k (Voted v)

  here : IsPrepareHere d from k key asked
  here = prepare_here k from c s at held m comes

  s_there : In s c.servers
  s_there = In-got c.servers k s at

  leaves : IsSameBut s t
  leaves = vote_leaves v new s

  -- ## Where the part stands

  heard_it : IsTakenWord from k c.in_flight asks
  heard_it =
      heard_as from k (peer.Prepare m) (key, Prepare asked) c.in_flight asks refl comes
      (ap (λ n. let w : Told = record { from = n; to = k; key = key; word = Prepare asked } in w) here.leader)

  telling_after : telling_of after.in_flight ≡ taken asks (telling_of c.in_flight) ++ answer ∷ []
  telling_after =
      telling_append (without_first (is_between from k) c.in_flight) (in_flight_from k (votes v from m s).out.send)
      ∙ ap (λ xs. xs ++ telling_of (in_flight_from k (votes v from m s).out.send)) heard_it.left
      ∙ ap (λ n. taken asks (telling_of c.in_flight) ++
      (let w : Told = record { from = k; to = n; key = key; word = Voted v } in w)
      ∷ telling_of (in_flight_from k (recalls_for v s m.part))) here.leader
      ∙ ap (λ ws. taken asks (telling_of c.in_flight) ++ answer ∷ ws) (recalls_tell_nothing k v s m.part)

  -- the clients get nothing
  lines_after : after.lines ≡ c.lines
  lines_after = recalls_answer_nothing k v s m.part c.lines

  leads_after : (l : Leading) → In l t.leading → IsLeading after.lines t held.parts l
  leads_after l i =
      subst (λ (lines : Session → Lines). IsLeading lines t held.parts l) (sym lines_after)
      (leading_still c.lines s t held.parts leaves.me leaves.txns leaves.leading leaves.ending l
      (held.leading s s_there l (subst (In l) leaves.leading i)))

  ends_after : (x : Ending) → In x t.ending → IsEnded after.lines t held.parts x
  ends_after x i =
      subst (λ (lines : Session → Lines). IsEnded lines t held.parts x) (sym lines_after)
      (ended_still c.lines s t held.parts leaves.me leaves.txns leaves.leading leaves.ending x
      (held.ending s s_there x (subst (In x) leaves.ending i)))

  stages_after : (y : Key) → stage_of_key after.servers y ≡ stage_of_key c.servers y
  stages_after y = stage_set c.servers k s t at leaves.leading leaves.ending y

  -- nobody has it ready
  none_ready : find (is_part m.txn m.number) s.prepared ≡ None
  none_ready =
      none_mapped wanted_of (find (is_part m.txn m.number) s.prepared)
      (sym (ap (λ o. option_map wanted_of (find (is_part m.txn m.number) (ready_at o))) at) ∙ here.nowhere k)

  ready_yes : (y : Key) → option_map wanted_of (find (is_part y.txn y.part) (s.prepared ++ new ∷ [])) ≡ with_key key (Some asked)
      (λ z. option_map wanted_of (find (is_part z.txn z.part) s.prepared)) y
  ready_yes y =
      elim (same_key y key) as
      (λ b. same_key y key ≡ b → option_map wanted_of (find (is_part y.txn y.part) (s.prepared ++ new ∷ [])) ≡ cond b (Some asked)
      (option_map wanted_of (find (is_part y.txn y.part) s.prepared))) [
        | true ↦
            λ e. ap (λ (z : Key). option_map wanted_of (find (is_part z.txn z.part) (s.prepared ++ new ∷ []))) (key_is y key e)
            ∙ ap (option_map wanted_of) (part_last new s.prepared none_ready)
        | false ↦ λ e. ap (option_map wanted_of) (part_other new y s.prepared e)
      ] refl

  prepared_by : (w : Vote) (j : ℕ) (y : Key) → prepared_in (then_of k from c (peer.Prepare m) (votes w from m s)).servers j y ≡ cond
      (is_yes w) (with_prepared k key (Some asked) (prepared_in c.servers)) (prepared_in c.servers) j y
  prepared_by Yes j y = prepared_one c.servers k s (after_vote Yes new s) at key (Some asked) ready_yes j y
  prepared_by (Ended n u w) j y = prepared_set c.servers k s s at refl j y
  prepared_by (Moved p to) j y = prepared_set c.servers k s s at refl j y
  prepared_by (PathsOut n) j y = prepared_set c.servers k s s at refl j y

  stand_then : StagesHold (desks_of held.parts after)
  stand_then = stand_alike (after_prepare key k asked v d) (desks_of held.parts after) (record {
    parts = λ y. refl;
    stages = stages_after;
    prepared = prepared_by v;
    telling = telling_after;
  }) (prepares d key k asked v held.stages heard_it.first)

  -- ## The server's tables

  ready_by : (w : Vote) (x : Ready) → In x (after_vote w new s).prepared
      → find (is_part x.txn x.number) (after_vote w new s).prepared ≡ Some x
  ready_by Yes x i = In-more x s.prepared new (find (is_part x.txn x.number) (s.prepared ++ new ∷ []) ≡ Some x)
      (λ j. found_front (is_part x.txn x.number) s.prepared (new ∷ []) x (held.ready s s_there x j))
      (λ e. subst (λ (z : Ready). find (is_part z.txn z.number) (s.prepared ++ new ∷ []) ≡ Some z) (sym e)
      (part_last new s.prepared none_ready)) i
  ready_by (Ended n u w) x i = held.ready s s_there x i
  ready_by (Moved p to) x i = held.ready s s_there x i
  ready_by (PathsOut n) x i = held.ready s s_there x i

  -- a decision on its way was so before
  told_before : (y : Key) (j : ℕ) (effects : List Effect) → In (word_to y j (Decide effects)) (telling_of after.in_flight)
      → In (word_to y j (Decide effects)) (telling_of c.in_flight)
  told_before y j effects i =
      In-more (word_to y j (Decide effects)) (taken asks (telling_of c.in_flight)) answer
      (In (word_to y j (Decide effects)) (telling_of c.in_flight))
      (taken_In asks (word_to y j (Decide effects)) (telling_of c.in_flight))
      (λ e. let wrong : Decide effects ≡ Voted v = ap (λ (w : Told). w.word) e in absurd (cc))
      (subst (In (word_to y j (Decide effects))) telling_after i)

  module _ (ordered : is_ordered s.rows ≡ true) (one : OneEach c) where
    -- whoever locks a row of the session is its one transaction
    own_locks : (r : Row) → In r s.rows → r.session ≡ m.session → (txn : TxnNo) → r.lock ≡ Some txn → txn ≡ m.txn
    own_locks r i e txn l =
        let known : stage_of_key c.servers key ≡ Unknown → ⊥ = λ q. let wrong : Asked k ≡ Unknown = sym here.stage ∙ q in absurd (cc) in
        let its = part_txn c held key (stands_in c.servers key known) in
        one_txn c held m.session (one m.session) txn m.txn
        (subst (λ y. In txn (txns_of y c.servers)) e (lock_txn c held s k at r txn i l))
        (subst (λ (w : Wanted). In m.txn (txns_of w.session c.servers)) here.wanted its)

    locks_by : (w : Vote) → v ≡ w → LocksHold (after_vote w new s).rows (said_at (after_vote w new s)) (kept_at (after_vote w new s))
    locks_by Yes e =
        let others : List Agreed = flat_map (said_by s.me) s.leading in
        locks_alike (rows_locked m.txn m.part.uses s.rows) (agreed_of new ∷ said_at s) (said_at (after_vote Yes new s)) (kept_at s)
        (kept_at s)
        (said_more new s.prepared others) (said_no_less new s.prepared others) (λ z i. i)
        (yes_locks s.rows (said_at s) (kept_at s) (agreed_of new) (held.locks s s_there) ordered
        (voted_yes s m.session m.part e).1 own_locks)
    locks_by (Ended n u w) e = held.locks s s_there
    locks_by (Moved p to) e = held.locks s s_there
    locks_by (PathsOut n) e = held.locks s s_there

    pub led_prepared : LedHolds (then_of k from c (peer.Prepare m) (votes (vote_here s m.session m.part) from m s))
    led_prepared = record {
      parts = held.parts;
      stages = stand_then;
      leading = each_after (λ z. (l : Leading) → In l z.leading → IsLeading after.lines z held.parts l) c.servers k t
          (λ z i l j. subst (λ (lines : Session → Lines). IsLeading lines z held.parts l) (sym lines_after) (held.leading z i l j))
          leads_after;
      ending = each_after (λ z. (x : Ending) → In x z.ending → IsEnded after.lines z held.parts x) c.servers k t
          (λ z i x j. subst (λ (lines : Session → Lines). IsEnded lines z held.parts x) (sym lines_after) (held.ending z i x j))
          ends_after;
      ready = each_after (λ z. (x : Ready) → In x z.prepared → find (is_part x.txn x.number) z.prepared ≡ Some x) c.servers k t held.ready
          (ready_by v);
      locks = each_after (λ z. LocksHold z.rows (said_at z) (kept_at z)) c.servers k t held.locks (locks_by v refl);
      files = files_still held.parts (stage_of_key c.servers) (stage_of_key after.servers) (λ y n e. n (stages_after y ∙ e)) held.files;
      few = λ y j effects i. held.few y j effects (told_before y j effects i);
      told = λ y j effects i e n. told_then c.servers k s t at y (held.parts y) e (λ q r z l. leaves.locked r y.txn z l)
          (held.told y j effects (told_before y j effects i) e n);
    }
