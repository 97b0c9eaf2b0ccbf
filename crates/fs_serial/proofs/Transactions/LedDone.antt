-- A leader is told that a part is done: all that holds of transactions stays.
use Rattle.std.proofs.Common.{◌≡◌, ◌==◌, ◌&&◌, ◌≤◌, ℕ, Bool, true, false, not, List, [], ◌∷◌, ◌++◌, filter, map, append-nil, refl, sym, ap, ap₂, ◌∙◌, subst, cond, inl, inr, arith}
use Rattle.std.specs.Prelude.{◌≢◌, Some, None, is_some, option_map, slice_get}
use Rattle.std.specs.List.{find, flat_map}
use Rattle.std.proofs.lemmas.Bool.{eqb-true}
use Rattle.fs_ident.specs.In.{In}
use Rattle.fs_ident.specs.declared.actor.Session.{Session}
use Rattle.fs_ident.specs.declared.actor.TxnNo.{TxnNo}
use Rattle.fs_ident.proofs.Booleans.{joined}
use Rattle.fs_ident.proofs.Passing.{found}
use Rattle.fs_ident.proofs.Same.{differs_too, itself}
use Rattle.fs_ident.proofs.Standing.{In-both, In-filter, In-got, In-map}
use Rattle.fs_field.specs.Table.{same_txn}
use Rattle.fs_field.specs.declared.effect.Effect.{Effect}
use Rattle.fs_field.specs.declared.row.Row.{Row}
use Rattle.fs_msg.specs.declared.done.Done.{Done as DoneMsg}
use Rattle.fs_msg.specs.declared.peer_msg.PeerMsg.TheVariants as peer
use Rattle.fs_server.specs.Counts.{done_step, done_with}
use Rattle.fs_server.specs.Server.{Stepped}
use Rattle.fs_server.specs.declared.state.Server.{Server}
use Rattle.fs_txn.specs.Leading.{awaited_stage, ending_of, keeps_till_done, kept_by, leading_of, said_by, stage_in, with_ending, without_done, without_ending}
use Rattle.fs_txn.specs.Locks.{Agreed, Kept, LocksHold, rows_unlocked, without_kept}
use Rattle.fs_txn.specs.Ready.{agreed_of, is_part}
use Rattle.fs_txn.specs.Stages.{Desks, Key, Stage, StagesHold, Told, same_key, word_from, word_to}
use Rattle.fs_txn.specs.Stages.Stage.{Unknown, Awaited}
use Rattle.fs_txn.specs.Stages.Word.{Decide, Done}
use Rattle.fs_txn.specs.Telling.{after_done, taken, with_key}
use Rattle.fs_txn.specs.declared.leading.Ending.{Ending}
use Rattle.fs_txn.specs.declared.leading.Leading.{Leading}
use Rattle.fs_txn.specs.declared.ready.Ready.{Ready}
use Rattle.fs_txn.proofs.Keys.{txn_is}
use Rattle.fs_txn.proofs.Locked.{last_keeps}
use Rattle.fs_txn.proofs.Telling.{dones}
use Rattle.fs_serial.specs.Cluster.{Cluster, in_flight_from, is_between, without_first}
use Rattle.fs_serial.specs.Leading.{IsEnded, IsLeading, IsLedBy, LedHolds}
use Rattle.fs_serial.specs.Words.{Comes, desks_of, kept_at, key_of, prepared_in, ready_at, said_at, stage_of_key, telling_of, then_of, wanted_of}
use Rattle.fs_serial.proofs.Transactions.AwaitedWords.{IsAwaitedBy, IsDoneHere, done_awaited, done_here, done_is}
use Rattle.fs_serial.proofs.Transactions.Desks.{IsTakenWord, deciding_word, each_after, ended_then, files_still, heard_as, leading_then, not_at_home, prepared_set, stage_is, stage_one, stand_alike, taken_In, told_then}
use Rattle.fs_serial.proofs.Transactions.LedDecided.{unlocked_stay}
use Rattle.fs_serial.proofs.Transactions.OthersKeep.{ended_waits, leading_waits, sent_client, waits_alike}
use Rattle.fs_serial.proofs.Transactions.Tables.{In_some, ending_kept, ending_other, ending_over, ending_set, ending_there, in_kept, in_with_ending, kept_left, kept_there, locks_alike, said_its}

-- ## Commits whose rows stay locked

kept_as : (txn : TxnNo) (by : Session) (z : Kept) (ks : List Kept) → z.txn ≡ txn → z.session ≡ by
    → In (let k : Kept = record { txn = txn; session = by } in k) ks → In z ks
kept_as txn by z ks e f i =
    subst (λ y. In y ks) (ap₂ (λ (t : TxnNo) (u : Session). let k : Kept = record { txn = t; session = u } in k) (sym e) (sym f)) i

pub kept_still : (x : Ending) (xs : List Ending) (z : Kept) → In z (kept_by xs) → same_txn z.txn x.txn ≡ false
    → In z (kept_by (with_ending x xs))
kept_still x xs z i off =
    let q = in_kept xs z i in
    let apart : same_txn (q.0).txn x.txn ≡ false = ap (λ t. same_txn t x.txn) (sym q.1.1.1.0) ∙ off in
    kept_as (q.0).txn (q.0).session z (kept_by (with_ending x xs)) q.1.1.1.0 q.1.1.1.1
    (kept_there q.0 (with_ending x xs) (ending_kept x xs q.0 q.1.0 apart) q.1.1.0)

pub kept_put : (x : Ending) (xs : List Ending) → is_some (slice_get x.awaits 0) ≡ true → keeps_till_done x.end ≡ true
    → In (let k : Kept = record { txn = x.txn; session = x.session } in k) (kept_by (with_ending x xs))
kept_put x xs some keeps = kept_there x (with_ending x xs) (ending_there x xs some) keeps

-- ## Parts that are not done

abbrev left_of : ℕ → List (ℕ × ℕ) → List (ℕ × ℕ)
left_of n xs = filter (λ (y : ℕ × ℕ). not (y.0 == n)) xs

stage_gone : (n : ℕ) (xs : List (ℕ × ℕ)) → awaited_stage n (left_of n xs) ≡ Unknown
stage_gone n [] = refl
stage_gone n (x ∷ xs) = at (x.0 == n) refl (stage_gone n xs)
  where
    at : (b : Bool) → (x.0 == n) ≡ b → awaited_stage n (left_of n xs) ≡ Unknown
        → awaited_stage n (cond (not b) (x ∷ left_of n xs) (left_of n xs)) ≡ Unknown
    at true t rest = rest
    at false t rest = ap (λ b. cond b (Awaited x.1) (awaited_stage n (left_of n xs))) t ∙ rest

stage_left : (n i : ℕ) (xs : List (ℕ × ℕ)) → (i == n) ≡ false → awaited_stage i (left_of n xs) ≡ awaited_stage i xs
stage_left n i [] off = refl
stage_left n i (x ∷ xs) off = at (x.0 == n) refl (stage_left n i xs off)
  where
    at : (b : Bool) → (x.0 == n) ≡ b → awaited_stage i (left_of n xs) ≡ awaited_stage i xs
        → awaited_stage i (cond (not b) (x ∷ left_of n xs) (left_of n xs)) ≡ awaited_stage i (x ∷ xs)
    at true t rest = rest ∙ sym (ap (λ b. cond b (Awaited x.1) (awaited_stage i xs)) (differs_too x.0 n i t off))
    at false t rest = ap (λ z. cond (x.0 == i) (Awaited x.1) z) rest

module _ (k from : ℕ) (c : Cluster) (s : Server) (at : slice_get c.servers k ≡ Some s) (held : LedHolds c) (me : s.me ≡ k) (m : DoneMsg)
    (comes : Comes k from c (peer.Done m)) where
  abbrev key : Key
  key = key_of m.txn m.number

  abbrev d : Desks
  d = desks_of held.parts c

  abbrev word : Told
  word = word_from key from Done

  s_there : In s c.servers
  s_there = In-got c.servers k s at

  here : IsDoneHere d from k key
  here = done_here k from c s at held m comes

  q : IsAwaitedBy m.number (ending_of m.txn s.ending) from
  q = done_awaited k from c s at held m comes

  -- the transaction that was decided
  abbrev x : Ending
  x = q.ending

  x_there : In x s.ending
  x_there = (found (λ (y : Ending). same_txn y.txn m.txn) s.ending x q.is).0

  its_txn : x.txn ≡ m.txn
  its_txn = txn_is x.txn m.txn (found (λ (y : Ending). same_txn y.txn m.txn) s.ending x q.is).1

  x_holds : IsEnded c.lines s held.parts x
  x_holds = held.ending s s_there x x_there

  -- and what is left of it
  abbrev left : Ending
  left = without_done m.number x

  none_led : leading_of m.txn s.leading ≡ None
  none_led = ap (λ t. leading_of t s.leading) (sym its_txn) ∙ x_holds.only

  heard_it : IsTakenWord from k c.in_flight word
  heard_it =
      heard_as from k (peer.Done m) (key, Done) c.in_flight word refl comes
      (ap (λ n. let w : Told = record { from = from; to = n; key = key; word = Done } in w) here.leader)

  led_apart : (l : Leading) → In l s.leading → same_txn l.leader.txn x.txn ≡ false
  led_apart l i = elim (same_txn l.leader.txn x.txn) as (λ b. same_txn l.leader.txn x.txn ≡ b → b ≡ false) [
    | true ↦ λ e. let wrong : Some l ≡ None =
        sym (held.leading s s_there l i).one ∙ ap (λ t. leading_of t s.leading) (txn_is l.leader.txn x.txn e) ∙ x_holds.only in absurd (cc)
    | false ↦ λ e. refl
  ] refl

  stage_then : (n : ℕ) → stage_in n None (ending_of m.txn (with_ending left s.ending)) ≡ awaited_stage n left.awaits
  stage_then n = of left.awaits refl
    where
      of : (ys : List (ℕ × ℕ)) → left.awaits ≡ ys → stage_in n None (ending_of m.txn (with_ending left s.ending))
          ≡ awaited_stage n left.awaits
      of [] e =
          ap (λ t. stage_in n None (ending_of t (with_ending left s.ending))) (sym its_txn)
          ∙ ap (stage_in n None) (ending_over left s.ending (ap (λ ys. is_some (slice_get ys 0)) e)) ∙ sym (ap (awaited_stage n) e)
      of (y ∷ ys) e =
          ap (λ t. stage_in n None (ending_of t (with_ending left s.ending))) (sym its_txn)
          ∙ ap (stage_in n None) (ending_set left s.ending (ap (λ ys. is_some (slice_get ys 0)) e))

  -- ## A step that does it

  module _ (z : Stepped) (here_still : z.server.me ≡ s.me) (txns : s.txns ≤ z.server.txns) (leads : z.server.leading ≡ s.leading)
      (ends : z.server.ending ≡ with_ending left s.ending)
      (waits : z.server.prepared ≡ s.prepared) (quiet : in_flight_from k z.out.send ≡ []) where
    abbrev t : Server
    t = z.server

    abbrev after : Cluster
    after = then_of k from c (peer.Done m) z

    telling_after : telling_of after.in_flight ≡ taken word (telling_of c.in_flight)
    telling_after =
        ap telling_of
        (ap (λ xs. without_first (is_between from k) c.in_flight ++ xs) quiet ∙ append-nil (without_first (is_between from k) c.in_flight))
        ∙ heard_it.left

    abbrev stage_here : Server → Key → Stage
    stage_here u o = stage_in o.part (leading_of o.txn u.leading) (ending_of o.txn u.ending)

    -- the stage of a part of this transaction
    its_stage : (o : Key) → o.txn ≡ m.txn → stage_here t o ≡ awaited_stage o.part left.awaits
    its_stage o e =
        ap (λ y. stage_in o.part (leading_of y t.leading) (ending_of y t.ending)) e
        ∙ ap (λ ys. stage_in o.part (leading_of m.txn ys) (ending_of m.txn t.ending)) leads
        ∙ ap (λ l. stage_in o.part l (ending_of m.txn t.ending)) none_led
        ∙ ap (λ ys. stage_in o.part None (ending_of m.txn ys)) ends
        ∙ stage_then o.part

    was_stage : (o : Key) → o.txn ≡ m.txn → stage_here s o ≡ awaited_stage o.part x.awaits
    was_stage o e =
        ap (λ y. stage_in o.part (leading_of y s.leading) (ending_of y s.ending)) e
        ∙ ap (λ l. stage_in o.part l (ending_of m.txn s.ending)) none_led
        ∙ ap (stage_in o.part None) q.is

    one_stage : (o : Key) → (o.txn.server == k) ≡ true → stage_here t o ≡ with_key key Unknown (stage_here s) o
    one_stage o mine = by (same_txn o.txn m.txn) (o.part == m.number) refl refl
      where
        by : (a b : Bool) → same_txn o.txn m.txn ≡ a → (o.part == m.number) ≡ b → stage_here t o ≡ with_key key Unknown (stage_here s) o
        by true true e f =
            its_stage o (txn_is o.txn m.txn e) ∙ ap (λ n. awaited_stage n left.awaits) (eqb-true o.part m.number f)
            ∙ stage_gone m.number x.awaits
            ∙ sym (ap (λ b. cond b Unknown (stage_here s o)) (joined _ _ e f))
        by true false e f =
            let off : same_key o key ≡ false = ap (λ b. b && (o.part == m.number)) e ∙ f in
            its_stage o (txn_is o.txn m.txn e) ∙ stage_left m.number o.part x.awaits f ∙ sym (was_stage o (txn_is o.txn m.txn e))
            ∙ sym (ap (λ b. cond b Unknown (stage_here s o)) off)
        by false b e f =
            ap (λ ys. stage_in o.part (leading_of o.txn ys) (ending_of o.txn t.ending)) leads
            ∙ ap (λ ys. stage_in o.part (leading_of o.txn s.leading) (ending_of o.txn ys)) ends
            ∙ ap (stage_in o.part (leading_of o.txn s.leading)) (ending_other left o.txn s.ending (ap (same_txn o.txn) its_txn ∙ e))
            ∙ sym (ap (λ a. cond (a && (o.part == m.number)) Unknown (stage_here s o)) e)

    stages_after : (o : Key) → stage_of_key after.servers o ≡ with_key key Unknown (stage_of_key c.servers) o
    stages_after = stage_one c.servers k s t at key Unknown (ap (λ n. n == k) (sym here.leader) ∙ itself k) one_stage

    stand_then : StagesHold (desks_of held.parts after)
    stand_then = stand_alike (after_done key from d) (desks_of held.parts after) (record {
      parts = λ y. refl;
      stages = stages_after;
      prepared = λ j y. prepared_set c.servers k s t at waits j y;
      telling = telling_after;
    }) (dones d key from held.stages heard_it.first)

    -- with the last part the transaction is over
    over : left.awaits ≡ [] → (o : Key) → (o.txn.server == k) ≡ true → same_txn o.txn x.txn ≡ true → stage_of_key after.servers o ≡ Unknown
    over e o mine own = stage_is c.servers k s t at o mine ∙ its_stage o (txn_is o.txn x.txn own ∙ its_txn) ∙ ap (awaited_stage o.part) e

    older : (o : Key) → stage_of_key after.servers o ≢ Unknown → stage_of_key c.servers o ≢ Unknown
    older o n e =
        n (stages_after o ∙ elim (same_key o key) as (λ b. cond b Unknown (stage_of_key c.servers o) ≡ Unknown) [ true ↦ refl | false ↦ e ])

    client : (y : Session) → (after.lines y).client ≡ (c.lines y).client
    client y = sent_client k z.out.send c.lines y

    leading_then_all : (l : Leading) → In l t.leading → IsLeading after.lines t held.parts l
    leading_then_all l i =
        let j : In l s.leading = subst (In l) leads i in
        let h = held.leading s s_there l j in
        leading_waits c.lines after.lines t held.parts l
        (λ e. waits_alike c.lines after.lines l.leader.session t.me e (client l.leader.session))
        (leading_then c.lines s t held.parts here_still txns l (ap (leading_of l.leader.txn) leads ∙ h.one)
        (ap (ending_of l.leader.txn) ends ∙ ending_other left l.leader.txn s.ending (led_apart l j) ∙ h.only) h)

    left_holds : is_some (slice_get left.awaits 0) ≡ true → IsEnded c.lines t held.parts left
    left_holds some = record {
      own = x_holds.own ∙ sym here_still;
      begun = let was : x.txn.count ≤ s.txns = x_holds.begun in omega arith;
      one = ap (ending_of left.txn) ends ∙ ending_set left s.ending some;
      only = ap (leading_of x.txn) leads ∙ x_holds.only;
      waits = λ e. let wrong : true ≡ false = sym some ∙ ap (λ ys. is_some (slice_get ys 0)) e in absurd (cc);
      awaited = λ n i. let w = x_holds.awaited n (In-filter (λ (y : ℕ × ℕ). not (y.0 == m.number)) n x.awaits i) in
          (subst (λ u. (n.1 == u) ≡ false) (sym here_still) w.0, w.1);
      led = x_holds.led;
      client = subst (λ n. IsLedBy c.lines x.session n x_holds.led) (sym here_still) x_holds.client;
      fits = x_holds.fits;
    }

    ended_by : (y : Ending) → In y t.ending → IsEnded c.lines t held.parts y
    ended_by y i = elim (in_with_ending left s.ending y (subst (In y) ends i)) as (λ _. IsEnded c.lines t held.parts y) [
      | inl e ↦ subst (λ u. IsEnded c.lines t held.parts u) (sym e.0) (left_holds e.1)
      | inr w ↦
          let h = held.ending s s_there y w.0 in
          ended_then c.lines s t held.parts here_still txns y (ap (ending_of y.txn) ends ∙ ending_other left y.txn s.ending w.1 ∙ h.one)
          (ap (leading_of y.txn) leads ∙ h.only) h
    ]

    ending_then_all : (y : Ending) → In y t.ending → IsEnded after.lines t held.parts y
    ending_then_all y i =
        ended_waits c.lines after.lines t held.parts y (λ e. waits_alike c.lines after.lines y.session t.me e (client y.session))
        (ended_by y i)

    told_before : (y : Key) (j : ℕ) (effects : List Effect) → In (word_to y j (Decide effects)) (telling_of after.in_flight)
        → In (word_to y j (Decide effects)) (telling_of c.in_flight)
    told_before y j effects i =
        taken_In word (word_to y j (Decide effects)) (telling_of c.in_flight) (subst (In (word_to y j (Decide effects))) telling_after i)

    -- where the rows of all that is told stay locked
    together : LocksHold t.rows (said_at t) (kept_at t)
        → ((o : Key) → (o.txn.server == k) ≡ true → stage_of_key after.servers o ≢ Unknown → (r : Row) → In r s.rows → r.lock ≡ Some o.txn
        → In r t.rows) → LedHolds after
    together locks rows = record {
      parts = held.parts;
      stages = stand_then;
      leading = each_after (λ u. (l : Leading) → In l u.leading → IsLeading after.lines u held.parts l) c.servers k t
          (λ u i l j. leading_waits c.lines after.lines u held.parts l
          (λ e. waits_alike c.lines after.lines l.leader.session u.me e (client l.leader.session)) (held.leading u i l j))
          leading_then_all;
      ending = each_after (λ u. (y : Ending) → In y u.ending → IsEnded after.lines u held.parts y) c.servers k t
          (λ u i y j. ended_waits c.lines after.lines u held.parts y
          (λ e. waits_alike c.lines after.lines y.session u.me e (client y.session)) (held.ending u i y j))
          ending_then_all;
      ready = each_after (λ u. (y : Ready) → In y u.prepared → find (is_part y.txn y.number) u.prepared ≡ Some y) c.servers k t held.ready
          (λ y i. subst (λ ys. find (is_part y.txn y.number) ys ≡ Some y) (sym waits) (held.ready s s_there y (subst (In y) waits i)));
      locks = each_after (λ u. LocksHold u.rows (said_at u) (kept_at u)) c.servers k t held.locks locks;
      files = files_still held.parts (stage_of_key c.servers) (stage_of_key after.servers) older held.files;
      few = λ y j effects i. held.few y j effects (told_before y j effects i);
      told = λ y j effects i e n.
          let w = deciding_word (desks_of held.parts after) y (word_to y j (Decide effects)) refl stand_then i effects refl in
          let known : stage_of_key after.servers y ≢ Unknown = λ g. let wrong : Awaited w.at ≡ Unknown = sym w.stage ∙ g in absurd (cc) in
          told_then c.servers k s t at y (held.parts y) e (λ own. rows y own known) (held.told y j effects (told_before y j effects i) e n);
    }

  -- ## It is the last, or is not

  none_ready : (y : Ready) → In y s.prepared → same_txn y.txn x.txn ≡ false
  none_ready y i = elim (same_txn y.txn x.txn) as (λ b. same_txn y.txn x.txn ≡ b → b ≡ false) [
    | true ↦ λ e.
        let o : Key = key_of y.txn y.number in
        let home : y.txn.server ≡ k = ap (λ (t : TxnNo). t.server) (txn_is y.txn x.txn e) ∙ x_holds.own ∙ me in
        let ready : prepared_in c.servers k o ≡ Some (wanted_of y) =
        ap (λ u. option_map wanted_of (find (is_part y.txn y.number) (ready_at u))) at
        ∙ ap (option_map wanted_of) (held.ready s s_there y i) in
        let none : prepared_in c.servers y.txn.server o ≡ None =
        not_at_home o (held.parts o) (stage_of_key c.servers o) (λ j. prepared_in c.servers j o) _ (held.stages o) in
        let wrong : Some (wanted_of y) ≡ None = sym ready ∙ ap (λ j. prepared_in c.servers j o) (sym home) ∙ none in
        absurd (cc)
    | false ↦ λ e. refl
  ] refl

  -- no part of the transaction waits at its leader
  none_said : (y : Agreed) → In y (said_at s) → same_txn y.key.txn x.txn ≡ false
  none_said y = In-both y (map agreed_of s.prepared) (flat_map (said_by s.me) s.leading) (same_txn y.key.txn x.txn ≡ false)
      (λ i. let w = In-map agreed_of y s.prepared i in ap (λ (z : Agreed). same_txn z.key.txn x.txn) w.1.1 ∙ none_ready w.0 w.1.0)
      (λ i.
      let w = In_some (said_by s.me) y s.leading i in
      ap (λ t. same_txn t x.txn) (said_its s.me w.0 y w.1.1).txn ∙ led_apart w.0 w.1.0)

  kept_over : left.awaits ≡ [] → kept_by (with_ending left s.ending) ≡ without_kept x.txn (kept_at s)
  kept_over e =
      ap (λ ys. kept_by (without_ending x.txn s.ending ++ cond (is_some (slice_get ys 0)) (left ∷ []) [])) e
      ∙ ap kept_by (append-nil (without_ending x.txn s.ending)) ∙ kept_left x.txn s.ending

  kept_on : is_some (slice_get left.awaits 0) ≡ true → (z : Kept) → In z (kept_at s) → In z (kept_by (with_ending left s.ending))
  kept_on some z i = elim (same_txn z.txn x.txn) as (λ b. same_txn z.txn x.txn ≡ b → In z (kept_by (with_ending left s.ending))) [
    | true ↦ λ e.
        let w = in_kept s.ending z i in
        let found : Some w.0 ≡ Some x =
        sym (held.ending s s_there w.0 w.1.0).one ∙ ap (λ t. ending_of t s.ending) (sym w.1.1.1.0 ∙ txn_is z.txn x.txn e ∙ its_txn)
        ∙ q.is in
        let same : w.0 ≡ x = cc in
        let keeps : keeps_till_done left.end ≡ true = ap (λ (y : Ending). keeps_till_done y.end) (sym same) ∙ w.1.1.0 in
        kept_as x.txn x.session z (kept_by (with_ending left s.ending)) (txn_is z.txn x.txn e)
        (w.1.1.1.1 ∙ ap (λ (y : Ending). y.session) same) (kept_put left s.ending some keeps)
    | false ↦ λ e. kept_still left s.ending z i e
  ] refl

  led_by : (ys : List (ℕ × ℕ)) → left.awaits ≡ ys → LedHolds (then_of k from c (peer.Done m) (done_with left ys s))
  led_by [] e =
      together (done_with left [] s) refl (omega arith) refl refl refl refl
      (subst (λ ks. LocksHold (rows_unlocked x.txn s.rows) (said_at s) ks) (sym (kept_over e))
      (last_keeps s.rows (said_at s) (kept_at s) x.txn (held.locks s s_there) none_said))
      (λ o own known r i l. unlocked_stay x.txn s.rows r o.txn i l
      (elim (same_txn o.txn x.txn) as (λ b. same_txn o.txn x.txn ≡ b → b ≡ false) [
        | true ↦ λ its. absurd (known (over (done_with left [] s) refl (omega arith) refl refl refl refl e o own its))
        | false ↦ λ its. refl
      ] refl))
  led_by (y ∷ ys) e =
      together (done_with left (y ∷ ys) s) refl (omega arith) refl refl refl refl
      (locks_alike s.rows (said_at s) (said_at s) (kept_at s) (kept_by (with_ending left s.ending)) (λ z i. i) (λ z i. i)
      (kept_on (ap (λ zs. is_some (slice_get zs 0)) e)) (held.locks s s_there))
      (λ o own known r i l. i)

  pub led_done : LedHolds (then_of k from c (peer.Done m) (done_step m s))
  led_done = subst (λ z. LedHolds (then_of k from c (peer.Done m) z)) (sym (done_is k from c s at held m q)) (led_by left.awaits refl)
