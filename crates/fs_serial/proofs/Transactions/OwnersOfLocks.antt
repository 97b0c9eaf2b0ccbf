-- Whose transaction it is for which a row is locked, or a part waits: one that a server leads for the session.
use Rattle.std.proofs.Common.{◌≡◌, ◌⊎◌, ◌==◌, ℕ, zero, suc, Bool, true, false, List, [], ◌∷◌, length, refl, sym, ap, ◌∙◌, subst, cond, inl, inr, map, arith}
use Rattle.std.specs.Prelude.{◌≢◌, Option, Some, None, option_map, slice_get}
use Rattle.std.specs.List.{find, flat_map}
use Rattle.std.proofs.lemmas.Bool.{eqb-false, eqb-true}
use Rattle.fs_ident.specs.In.{In}
use Rattle.fs_ident.specs.declared.actor.Session.{Session}
use Rattle.fs_ident.specs.declared.actor.TxnNo.{TxnNo}
use Rattle.fs_ident.proofs.Passing.{found}
use Rattle.fs_ident.proofs.Standing.{In-both, In-got, In-map}
use Rattle.fs_field.specs.Table.{same_txn}
use Rattle.fs_field.specs.declared.row.Row.{Row}
use Rattle.fs_server.specs.declared.state.Server.{Server}
use Rattle.fs_txn.specs.Leading.{awaited_stage, ending_of, leading_of, said_by, stage_by, stage_in}
use Rattle.fs_txn.specs.Locks.{Agreed, Kept}
use Rattle.fs_txn.specs.Ready.{agreed_of, is_part}
use Rattle.fs_txn.specs.Stages.{IsAlone, IsHeldAt, IsNowhere, IsStage, IsVoted, Key, Stage, Told, Wanted, is_yes, told_of}
use Rattle.fs_txn.specs.Stages.IsAsking.{coming, refused, granted}
use Rattle.fs_txn.specs.Stages.IsEnding.{decided, done}
use Rattle.fs_txn.specs.Stages.Stage.{Unknown, Asked, Counted, Awaited}
use Rattle.fs_txn.specs.declared.leading.Ending.{Ending}
use Rattle.fs_txn.specs.declared.leading.Leading.{Leading}
use Rattle.fs_txn.specs.declared.ready.Ready.{Ready}
use Rattle.fs_txn.proofs.Keys.{txn_is}
use Rattle.fs_serial.specs.Cluster.{Cluster}
use Rattle.fs_serial.specs.Leading.{LedHolds}
use Rattle.fs_serial.specs.Words.{ended_in, ending_at, kept_at, key_of, leading_at, led_in, prepared_in, ready_at, said_at, stage_of_key, telling_of, wanted_of}
use Rattle.fs_serial.proofs.Transactions.OneOfSession.{ends_its, leads_its, txns_of}
use Rattle.fs_serial.proofs.Transactions.Tables.{In_some, in_kept, said_its}

-- ## A part that waits is known to its leader

-- it is what the leader asked for, and its stage is known
pub record IsKnown (wanted : Wanted) (stage : Stage) (w : Wanted) : Type 0 where
  pub same : w ≡ wanted
  pub known : stage ≢ Unknown

module _ (prepared : ℕ → Option Wanted) (k : ℕ) (w : Wanted) (is : prepared k ≡ Some w) where
  not_away : IsNowhere prepared → ⊥
  not_away away = let wrong : Some w ≡ None = sym is ∙ away k in absurd (cc)

  alone_same : (at : ℕ) (wanted : Wanted) → IsAlone prepared at wanted → w ≡ wanted
  alone_same at wanted alone = here (k == at) refl
    where
      here : (b : Bool) → (k == at) ≡ b → w ≡ wanted
      here true t = let e : Some w ≡ Some wanted = sym is ∙ ap prepared (eqb-true k at t) ∙ alone.here in cc
      here false t = let e : Some w ≡ None = sym is ∙ alone.others k (eqb-false k at t) in absurd (cc)

  held_same : (b : Bool) (at : ℕ) (wanted : Wanted) → IsHeldAt b at wanted prepared → w ≡ wanted
  held_same true at wanted away = absurd (not_away away)
  held_same false at wanted alone = alone_same at wanted alone

  voted_same : (b : Bool) (key : Key) (at : ℕ) (wanted : Wanted) → IsVoted b key at wanted prepared → w ≡ wanted
  voted_same true key at wanted held = held_same (at == key.txn.server) at wanted held
  voted_same false key at wanted away = absurd (not_away away)

pub known_part : (key : Key) (wanted : Wanted) (stage : Stage) (prepared : ℕ → Option Wanted) (told : List Told) (k : ℕ) (w : Wanted)
    → IsStage key wanted stage prepared told → prepared k ≡ Some w → IsKnown wanted stage w
known_part key wanted Unknown prepared told k w i is = absurd (not_away prepared k w is i.1)
known_part key wanted (Asked at) prepared told k w i is = elim i.1 as (λ _. IsKnown wanted (Asked at) w) [
  | coming e none ↦ absurd (not_away prepared k w is none)
  | refused v against e none ↦ absurd (not_away prepared k w is none)
  | granted e alone ↦ record { same = alone_same prepared k w is at wanted alone; known = λ e. absurd (cc) }
]
known_part key wanted (Counted at v) prepared told k w i is =
    record { same = voted_same prepared k w is (is_yes v) key at wanted i.1; known = λ e. absurd (cc) }
known_part key wanted (Awaited at) prepared told k w i is = elim i.1 as (λ _. IsKnown wanted (Awaited at) w) [
  | decided es e alone ↦ record { same = alone_same prepared k w is at wanted alone; known = λ e. absurd (cc) }
  | done e none ↦ absurd (not_away prepared k w is none)
]

-- ## A stage that is known stands in its leader's tables

-- a server is asked for the part
pub record IsLedAt (servers : List Server) (key : Key) : Type 0 where
  pub leading : Leading
  pub led : led_in servers key.txn ≡ Some leading
  pub at : ℕ
  pub asked : slice_get leading.at key.part ≡ Some at

-- a server was told what was decided
pub record IsEndedAt (servers : List Server) (key : Key) : Type 0 where
  pub ending : Ending
  pub led : led_in servers key.txn ≡ None
  pub ended : ended_in servers key.txn ≡ Some ending
  pub at : ℕ
  pub awaited : In (key.part, at) ending.awaits

abbrev pub Stands : List Server → Key → Type 0
Stands servers key = IsLedAt servers key ⊎ IsEndedAt servers key

awaited_in : (number : ℕ) (xs : List (ℕ × ℕ)) → awaited_stage number xs ≢ Unknown → (at : ℕ) × In (number, at) xs
awaited_in number [] n = absurd (n refl)
awaited_in number (x ∷ xs) n =
    elim (x.0 == number) as
    (λ b. (x.0 == number) ≡ b → cond b (Awaited x.1) (awaited_stage number xs) ≢ Unknown → (at : ℕ) × In (number, at) (x ∷ xs)) [
      | true ↦ λ t m. (x.1, inl (ap (λ (i : ℕ). let p : ℕ × ℕ = (i, x.1) in p) (sym (eqb-true x.0 number t))))
      | false ↦ λ t m. let q = awaited_in number xs m in (q.0, inr q.1)
    ] refl n

pub stands_in : (servers : List Server) (key : Key) → stage_of_key servers key ≢ Unknown → Stands servers key
stands_in servers key n = by_tables (led_in servers key.txn) (ended_in servers key.txn) refl refl n
  where
    by_tables : (o : Option Leading) (x : Option Ending) → led_in servers key.txn ≡ o → ended_in servers key.txn ≡ x
        → stage_in key.part o x ≢ Unknown → Stands servers key
    by_tables (Some l) x e f m =
        elim (slice_get l.at key.part) as
        (λ o. slice_get l.at key.part ≡ o → stage_by o (slice_get l.leader.votes key.part) ≢ Unknown → Stands servers key) [
          | None ↦ λ g m. absurd (m refl)
          | Some at ↦ λ g m. inl (record { leading = l; led = e; at = at; asked = g })
        ] refl m
    by_tables None (Some x) e f m = let q = awaited_in key.part x.awaits m in
        inr (record { ending = x; led = e; ended = f; at = q.0; awaited = q.1 })
    by_tables None None e f m = absurd (m refl)

pub in_range : {X Y : Type 0} (xs : List X) (ys : List Y) (i : ℕ) (x : X) → length xs ≡ length ys → slice_get xs i ≡ Some x
    → (y : Y) × (slice_get ys i ≡ Some y)
in_range [] ys i x n e = absurd (cc)
in_range (z ∷ zs) [] i x n e = absurd (omega arith)
in_range (z ∷ zs) (w ∷ ws) zero x n e = (w, refl)
in_range (z ∷ zs) (w ∷ ws) (suc i) x n e = in_range zs ws i x (omega arith) e

-- ## Whose it is

-- the session for which the transaction is led, by what its server has
abbrev pub session_by : Option Leading → Option Ending → Option Session
session_by (Some l) x = Some l.leader.session
session_by None (Some x) = Some x.session
session_by None None = None

abbrev pub session_of : List Server → TxnNo → Option Session
session_of servers txn = session_by (led_in servers txn) (ended_in servers txn)

module _ (c : Cluster) (h : LedHolds c) where
  -- a server leads the transaction for the session
  abbrev pub Its : TxnNo → Session → Type 0
  Its txn by = In txn (txns_of by c.servers)

  -- the transaction stands with a server
  led_there : (txn : TxnNo) (l : Leading) → led_in c.servers txn ≡ Some l
      → (s : Server) × (In s c.servers × (In l s.leading × (l.leader.txn ≡ txn)))
  led_there txn l led =
      elim (slice_get c.servers txn.server) as
      (λ o. slice_get c.servers txn.server ≡ o → leading_of txn (leading_at o) ≡ Some l
      → (s : Server) × (In s c.servers × (In l s.leading × (l.leader.txn ≡ txn)))) [
        | None ↦ λ e g. absurd (cc)
        | Some s ↦ λ e g. let q = found (λ (x : Leading). same_txn x.leader.txn txn) s.leading l g in
            (s, (In-got c.servers txn.server s e, (q.0, txn_is l.leader.txn txn q.1)))
      ] refl led

  ended_there : (txn : TxnNo) (x : Ending) → ended_in c.servers txn ≡ Some x
      → (s : Server) × (In s c.servers × (In x s.ending × (x.txn ≡ txn)))
  ended_there txn x ended =
      elim (slice_get c.servers txn.server) as
      (λ o. slice_get c.servers txn.server ≡ o → ending_of txn (ending_at o) ≡ Some x
      → (s : Server) × (In s c.servers × (In x s.ending × (x.txn ≡ txn)))) [
        | None ↦ λ e g. absurd (cc)
        | Some s ↦ λ e g. let q = found (λ (y : Ending). same_txn y.txn txn) s.ending x g in
            (s, (In-got c.servers txn.server s e, (q.0, txn_is x.txn txn q.1)))
      ] refl ended

  -- a part is asked for, or told, for the session of its transaction
  pub led_session : (key : Key) (q : IsLedAt c.servers key) → (h.parts key).session ≡ q.leading.leader.session
  led_session key q =
      let t = led_there key.txn q.leading q.led in
      let l = h.leading t.0 t.1.0 q.leading t.1.1.0 in
      let p = in_range q.leading.at q.leading.leader.parts key.part q.at l.asked q.asked in
      subst (λ (x : TxnNo). (h.parts (key_of x key.part)).session ≡ q.leading.leader.session) t.1.1.1
      (ap (λ (w : Wanted). w.session) (l.wanted key.part p.0 p.1))

  pub ended_session : (key : Key) (q : IsEndedAt c.servers key) → (h.parts key).session ≡ q.ending.session
  ended_session key q =
      let t = ended_there key.txn q.ending q.ended in
      let x = h.ending t.0 t.1.0 q.ending t.1.1.0 in
      subst (λ (y : TxnNo). (h.parts (key_of y key.part)).session ≡ q.ending.session) t.1.1.1 (x.awaited (key.part, q.at) q.awaited).1

  pub part_txn : (key : Key) → Stands c.servers key → Its key.txn (h.parts key).session
  part_txn key (inl q) =
      let t = led_there key.txn q.leading q.led in
      subst (λ x. Its x (h.parts key).session) t.1.1.1
      (leads_its (h.parts key).session c.servers t.0 t.1.0 q.leading t.1.1.0 (sym (led_session key q)))
  part_txn key (inr q) =
      let t = ended_there key.txn q.ending q.ended in
      subst (λ x. Its x (h.parts key).session) t.1.1.1
      (ends_its (h.parts key).session c.servers t.0 t.1.0 q.ending t.1.1.0 (sym (ended_session key q)))

  pub part_session : (key : Key) → Stands c.servers key → session_of c.servers key.txn ≡ Some (h.parts key).session
  part_session key (inl q) = ap (λ o. session_by o (ended_in c.servers key.txn)) q.led ∙ ap Some (sym (led_session key q))
  part_session key (inr q) =
      ap (λ o. session_by o (ended_in c.servers key.txn)) q.led ∙ ap (session_by None) q.ended ∙ ap Some (sym (ended_session key q))

  -- ## At one server

  module _ (s : Server) (k : ℕ) (at : slice_get c.servers k ≡ Some s) where
    among : In s c.servers
    among = In-got c.servers k s at

    pub waiting_part : (x : Ready) → In x s.prepared → IsKnown (h.parts (key_of x.txn x.number))
        (stage_of_key c.servers (key_of x.txn x.number)) (wanted_of x)
    waiting_part x i =
        let key : Key = key_of x.txn x.number in
        let here : prepared_in c.servers k key ≡ Some (wanted_of x) =
        ap (λ o. option_map wanted_of (find (is_part x.txn x.number) (ready_at o))) at
        ∙ ap (option_map wanted_of) (h.ready s among x i) in
        known_part key (h.parts key) (stage_of_key c.servers key) (λ j. prepared_in c.servers j key)
        (told_of key (telling_of c.in_flight)) k (wanted_of x) (h.stages key) here

    -- of a part that waits, and of one that its leader has
    ready_stands : (x : Ready) → In x s.prepared → Stands c.servers (key_of x.txn x.number)
    ready_stands x i = stands_in c.servers (key_of x.txn x.number) (waiting_part x i).known

    ready_session : (x : Ready) → In x s.prepared → (h.parts (key_of x.txn x.number)).session ≡ x.session
    ready_session x i = sym (ap (λ (w : Wanted). w.session) (waiting_part x i).same)

    pub said_txn : (y : Agreed) → In y (said_at s) → Its y.key.txn y.wanted.session
    said_txn y = In-both y (map agreed_of s.prepared) (flat_map (said_by s.me) s.leading) (Its y.key.txn y.wanted.session)
        (λ i.
        let q = In-map agreed_of y s.prepared i in
        subst (λ (z : Agreed). Its z.key.txn z.wanted.session) (sym q.1.1)
        (subst (Its (q.0).txn) (ready_session q.0 q.1.0) (part_txn (key_of (q.0).txn (q.0).number) (ready_stands q.0 q.1.0))))
        (λ i.
        let q = In_some (said_by s.me) y s.leading i in
        let l = said_its s.me q.0 y q.1.1 in
        subst (λ t. Its t y.wanted.session) (sym l.txn) (leads_its y.wanted.session c.servers s among q.0 q.1.0 (sym l.session)))

    pub kept_txn : (y : Kept) → In y (kept_at s) → Its y.txn y.session
    kept_txn y i =
        let q = in_kept s.ending y i in
        subst (λ t. Its t y.session) (sym q.1.1.1.0) (ends_its y.session c.servers s among q.0 q.1.0 (sym q.1.1.1.1))

    pub lock_txn : (r : Row) (txn : TxnNo) → In r s.rows → r.lock ≡ Some txn → Its txn r.session
    lock_txn r txn i e = elim ((h.locks s among).used r txn i e) as (λ _. Its txn r.session) [
      | inl o ↦ subst (λ t. Its t r.session) o.its (subst (Its o.agreed.key.txn) o.session (said_txn o.agreed o.among))
      | inr q ↦ subst (λ t. Its t r.session) q.its (subst (Its q.commit.txn) q.session (kept_txn q.commit q.among))
    ]

    -- two that said Yes here for one transaction are of one session
    module _ (me : s.me ≡ k) where
      pub said_session : (y : Agreed) → In y (said_at s) → session_of c.servers y.key.txn ≡ Some y.wanted.session
      said_session y =
          In-both y (map agreed_of s.prepared) (flat_map (said_by s.me) s.leading) (session_of c.servers y.key.txn ≡ Some y.wanted.session)
          (λ i.
          let q = In-map agreed_of y s.prepared i in
          subst (λ (z : Agreed). session_of c.servers z.key.txn ≡ Some z.wanted.session) (sym q.1.1)
          (part_session (key_of (q.0).txn (q.0).number) (ready_stands q.0 q.1.0) ∙ ap Some (ready_session q.0 q.1.0)))
          (λ i.
          let q = In_some (said_by s.me) y s.leading i in
          let l = said_its s.me q.0 y q.1.1 in
          let x = h.leading s among q.0 q.1.0 in
          let led : led_in c.servers (q.0).leader.txn ≡ Some q.0 =
          ap (λ n. leading_of (q.0).leader.txn (leading_at (slice_get c.servers n))) (x.own ∙ me)
          ∙ ap (λ o. leading_of (q.0).leader.txn (leading_at o)) at ∙ x.one in
          ap (session_of c.servers) l.txn ∙ ap (λ o. session_by o (ended_in c.servers (q.0).leader.txn)) led ∙ ap Some (sym l.session))

      pub one_said : (y z : Agreed) → In y (said_at s) → In z (said_at s) → y.key.txn ≡ z.key.txn → y.wanted.session ≡ z.wanted.session
      one_said y z i j e =
          let same : Some y.wanted.session ≡ Some z.wanted.session =
          sym (said_session y i) ∙ ap (session_of c.servers) e ∙ said_session z j in
          cc
