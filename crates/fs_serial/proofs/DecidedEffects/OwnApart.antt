-- What was decided for one session and is on its way: it changes other things, part by part.
use Rattle.std.proofs.Common.{◌≡◌, ◌==◌, ◌+◌, ◌≤◌, ℕ, Bool, true, false, List, ◌∷◌, ◌++◌, length, refl, sym, ap, ◌∙◌, subst, cond, inl, inr, arith, length-append}
use Rattle.std.specs.Prelude.{◌≢◌, Option, Some, None, slice_get}
use Rattle.std.specs.List.{cons_option}
use Rattle.std.proofs.lemmas.Bool.{eqb-true}
use Rattle.std.proofs.lemmas.List.Elements.{filter-append}
use Rattle.fs_ident.specs.Ident.{same}
use Rattle.fs_ident.specs.In.{In}
use Rattle.fs_ident.specs.declared.actor.Session.{Session}
use Rattle.fs_ident.specs.declared.actor.TxnNo.{TxnNo}
use Rattle.fs_ident.proofs.Same.{one_session, same_self}
use Rattle.fs_ident.proofs.Standing.{In-behind, In-both, In-front, In-got}
use Rattle.fs_field.specs.After.{changed_file}
use Rattle.fs_msg.specs.declared.answer.Answer.{Answer}
use Rattle.fs_msg.specs.declared.client_msg.ClientMsg.{ClientMsg}
use Rattle.fs_client.specs.declared.exchange.Exchange.{Exchange}
use Rattle.fs_client.specs.declared.state.Client.{Client}
use Rattle.fs_server.specs.declared.state.Server.{Server}
use Rattle.fs_txn.specs.Grants.{Decided}
use Rattle.fs_txn.specs.Leading.{ending_of}
use Rattle.fs_txn.specs.Stages.{IsStage, Key, Stage, Told, Wanted, is_of, told_of}
use Rattle.fs_txn.specs.Stages.IsAsking.{coming, refused, granted}
use Rattle.fs_txn.specs.Stages.IsEnding.{decided, done}
use Rattle.fs_txn.specs.Stages.Stage.{Unknown, Asked, Counted, Awaited}
use Rattle.fs_txn.specs.declared.leading.Ending.{Ending}
use Rattle.fs_txn.proofs.Keys.{kept_in, key_itself}
use Rattle.fs_serial.specs.Cluster.{Cluster, InFlight}
use Rattle.fs_serial.specs.Decided.{IsOwnApart}
use Rattle.fs_serial.specs.Exchange.{OneExchange, due}
use Rattle.fs_serial.specs.Leading.{LedHolds}
use Rattle.fs_serial.specs.Owed.{ends_in}
use Rattle.fs_serial.specs.Words.{decided_among, decided_by, desks_of, key_of, stage_of_key, telling_of, told_in}
use Rattle.fs_serial.specs.Seen.{ClusterHolds}
use Rattle.fs_serial.proofs.DecidedEffects.Deciding.{IsDeciding, deciding_by, deciding_in, its_ending, its_session, told, told_as, told_effect, w, word}
use Rattle.fs_serial.proofs.Lists.Servers.{In_at}
use Rattle.fs_serial.proofs.Replies.Knowing.{In-filter_map}
use Rattle.fs_serial.proofs.Transactions.AwaitedWords.{there as got_there}
use Rattle.fs_serial.proofs.Transactions.Desks.{IsDecidingWord, telling_append}
use Rattle.fs_serial.proofs.Transactions.OneOfSession.{ends_its, one_txn as one_txn_of, txns_of}
use Rattle.fs_serial.proofs.Transactions.OwnersOfLocks.{part_txn}
use Rattle.fs_serial.proofs.Transactions.OneOwner.{some_there}

-- ## One word of a part

at_most : (key : Key) (wanted : Wanted) (stage : Stage) (prepared : ℕ → Option Wanted) (told : List Told)
    → IsStage key wanted stage prepared told → length told ≤ 1
at_most key wanted Unknown prepared told i = let n : length told ≡ 0 = ap length i.0 in omega (arith, n)
at_most key wanted (Counted at v) prepared told i = let n : length told ≡ 0 = ap length i.0 in omega (arith, n)
at_most key wanted (Asked at) prepared told i = elim i.1 as (λ _. length told ≤ 1) [
  | coming e none ↦ let n : length told ≡ 1 = ap length e in omega (arith, n)
  | refused v against e none ↦ let n : length told ≡ 1 = ap length e in omega (arith, n)
  | granted e alone ↦ let n : length told ≡ 1 = ap length e in omega (arith, n)
]
at_most key wanted (Awaited at) prepared told i = elim i.1 as (λ _. length told ≤ 1) [
  | decided es e alone ↦ let n : length told ≡ 1 = ap length e in omega (arith, n)
  | done e none ↦ let n : length told ≡ 1 = ap length e in omega (arith, n)
]

-- two messages that stand apart, of one part, are two words of it
two_words : (key : Key) (front back : List InFlight) (f g : InFlight) (x y : Told) → told_in f ≡ Some x → told_in g ≡ Some y
    → is_of key x ≡ true → is_of key y ≡ true → In g (front ++ back) → 2 ≤ length (told_of key (telling_of (front ++ f ∷ back)))
two_words key front back f g x y fx gy own its i =
    let a : List Told = told_of key (telling_of front) in
    let b : List Told = told_of key (telling_of back) in
    let here : told_of key (telling_of (f ∷ back)) ≡ x ∷ b =
    ap (λ o. told_of key (cons_option o (telling_of back))) fx ∙ ap (λ t. cond t (x ∷ b) b) own in
    let whole : told_of key (telling_of (front ++ f ∷ back)) ≡ a ++ (x ∷ b) =
    ap (told_of key) (telling_append front (f ∷ back)) ∙ filter-append (is_of key) (telling_of front) (telling_of (f ∷ back))
    ∙ ap (λ ys. a ++ ys) here in
    let all : length (told_of key (telling_of (front ++ f ∷ back))) ≡ length a + length (x ∷ b) =
    ap length whole ∙ length-append a (x ∷ b) in
    In-both g front back (2 ≤ length (told_of key (telling_of (front ++ f ∷ back))))
    (λ j. let n : 1 ≤ length a = some_there y a (kept_in (is_of key) y (telling_of front) (In-filter_map told_in g y front j gy) its) in
    omega (arith, all, n))
    (λ j. let n : 1 ≤ length b = some_there y b (kept_in (is_of key) y (telling_of back) (In-filter_map told_in g y back j gy) its) in
    omega (arith, all, n)) i

-- ## One question or answer

one_due : (k : Client) (o : Option Exchange) (up : List ClientMsg) (down : List Answer) → OneExchange k o up down
    → length up + length (due down) ≤ 1
one_due k None up down h =
    let a : length up ≡ 0 = ap length h.0 in
    let b : length (due down) ≡ 0 = ap length h.1 in omega (arith, a, b)
one_due k (Some x) up down (inl q) =
    let a : length up ≡ 1 = ap length q.asked in
    let b : length (due down) ≡ 0 = ap length q.silent in omega (arith, a, b)
one_due k (Some x) up down (inr q) =
    let a : length up ≡ 0 = ap length q.asked in
    let b : length (due down) ≡ 1 = ap length q.told in omega (arith, a, b)

module _ (skew greatest : ℕ) (c : Cluster) (h : ClusterHolds skew greatest c) where
  abbrev led : LedHolds c
  led = h.led

  pub one_each : (s : Server) → In s c.servers → (x : Session) → length (ends_in c x).up + length (due (ends_in c x).down) ≤ 1
  one_each s i x =
      one_due (ends_in c x).client (ends_in c x).client.exchange (ends_in c x).up (ends_in c x).down (((h.parts s i).0.exchanges x).one)

  pub one_of_session : (s : Server) → In s c.servers → (x : Session) (a b : TxnNo) → In a (txns_of x c.servers) → In b (txns_of x c.servers)
      → a ≡ b
  one_of_session s i x = one_txn_of c led x (one_each s i x)

  pub one_ending : (s t : Server) (a b : Ending) → In s c.servers → In t c.servers → In a s.ending → In b t.ending
      → a.session ≡ b.session → a ≡ b
  one_ending s t a b i j k l e =
      let x = led.ending s i a k in
      let y = led.ending t j b l in
      let txn : a.txn ≡ b.txn = one_of_session s i b.session a.txn b.txn
      (ends_its b.session c.servers s i a k e) (ends_its b.session c.servers t j b l refl) in
      let p = In_at c.servers s i in
      let q = In_at c.servers t j in
      let place : p.place ≡ q.place =
      sym (h.places.numbered p.place s p.is) ∙ sym x.own ∙ ap (λ (z : TxnNo). z.server) txn ∙ y.own
      ∙ h.places.numbered q.place t q.is in
      let got : Some s ≡ Some t = sym p.is ∙ ap (slice_get c.servers) place ∙ q.is in
      let same : s ≡ t = cc in
      let both : Some a ≡ Some b =
      sym x.one ∙ ap (λ (z : Server). ending_of a.txn z.ending) same ∙ ap (λ z. ending_of z t.ending) txn ∙ y.one in
      cc

  -- ## Two messages

  module _ (f g : InFlight) (d e : Decided) (p : IsDeciding c.servers f d) (q : IsDeciding c.servers g e) (at : In f c.in_flight)
      (there : In g c.in_flight) (same_by : (d.by.0 == e.by.0) ≡ true) where
    abbrev k : Key
    k = key_of p.message.txn p.message.number

    abbrev l : Key
    l = key_of q.message.txn q.message.number

    abbrev u : Told
    u = word c led d f at p

    some_server : (s : Server) × (slice_get c.servers f.to ≡ Some s)
    some_server = got_there c.servers f.to ((h.places.goes f at).to)

    pub one_txn : p.message.txn ≡ q.message.txn
    one_txn =
        let mine : In p.message.txn (txns_of d.by c.servers) = subst (λ x. In p.message.txn (txns_of x c.servers))
        (its_session c led d f at p) (part_txn c led k (inr (its_ending c led d f at p))) in
        let other : In q.message.txn (txns_of e.by c.servers) = subst (λ x. In q.message.txn (txns_of x c.servers))
        (its_session c led e g there q) (part_txn c led l (inr (its_ending c led e g there q))) in
        one_of_session some_server.0 (In-got c.servers f.to some_server.0 some_server.1) d.by p.message.txn q.message.txn mine
        (subst (λ x. In q.message.txn (txns_of x c.servers)) (sym (one_session d.by e.by same_by)) other)

    pub u_word : IsDecidingWord (desks_of led.parts c) k u
    u_word = w c led d f at p

    known : (key : Key) (at : ℕ) → stage_of_key c.servers key ≡ Awaited at → stage_of_key c.servers key ≢ Unknown
    known key at e n = let wrong : Awaited at ≡ Unknown = sym e ∙ n in absurd (cc)

    pub two_parts : (p.message.number == q.message.number) ≡ false → changed_file d.effect ≡ changed_file e.effect → ⊥
    two_parts other files =
        let t = w c led d f at p in
        let v = w c led e g there q in
        let a = led.told k t.at t.effects (told c led d f at p) d.effect (told_effect c led d f at p) in
        let b = led.told l v.at v.effects (told c led e g there q) e.effect (told_effect c led e g there q) in
        let apart : same (led.parts k).part.file (led.parts l).part.file ≡ false =
        led.files k l one_txn other (known k t.at t.stage) (known l v.at v.stage) in
        let one : (led.parts k).part.file ≡ (led.parts l).part.file = sym a.file ∙ files ∙ b.file in
        let wrong : true ≡ false = sym (same_self (led.parts l).part.file) ∙ ap (λ x. same x (led.parts l).part.file) (sym one) ∙ apart in
        absurd (cc)

  -- ## One message and the others

  module _ (f : InFlight) (front back : List InFlight) (whole : c.in_flight ≡ front ++ f ∷ back) where
    here : In f c.in_flight
    here = subst (In f) (sym whole) (In-behind f front (f ∷ back) (inl refl))

    others_there : (g : InFlight) → In g (front ++ back) → In g c.in_flight
    others_there g i = subst (In g) (sym whole) (In-both g front back (In g (front ++ f ∷ back)) (In-front g front (f ∷ back))
        (λ j. In-behind g front (f ∷ back) (inr j)) i)

    -- no other message is of its part
    other_part : (g : InFlight) (d e : Decided) (p : IsDeciding c.servers g d) (q : IsDeciding c.servers f e) (i : In g (front ++ back))
        → p.message.txn ≡ q.message.txn → p.message.number ≡ q.message.number → ⊥
    other_part g d e p q i txn number =
        let key : Key = key_of q.message.txn q.message.number in
        let is : key_of p.message.txn p.message.number ≡ key =
        ap (λ t. key_of t p.message.number) txn ∙ ap (key_of q.message.txn) number in
        let two : 2 ≤ length (told_of key (telling_of (front ++ f ∷ back))) =
        two_words key front back f g (word c led e f here q) (word c led d g (others_there g i) p)
        (told_as c led e f here q) (told_as c led d g (others_there g i) p)
        (key_itself key)
        (ap (λ x. is_of key (let z : Told = record (word c led d g (others_there g i) p) { key = x } in z)) is
        ∙ key_itself key) i in
        let one : length (told_of key (telling_of c.in_flight)) ≤ 1 =
        at_most key (led.parts key) (stage_of_key c.servers key) _ (told_of key (telling_of c.in_flight)) (led.stages key) in
        let same : length (told_of key (telling_of c.in_flight)) ≡ length (told_of key (telling_of (front ++ f ∷ back))) =
        ap (λ fs. length (told_of key (telling_of fs))) whole in
        absurd (omega (arith, two, one, same))

    pub own_files : (d e : Decided) → In d (decided_among c.servers (front ++ back)) → In e (decided_by c.servers f.message)
        → (d.by.0 == e.by.0) ≡ true → changed_file d.effect ≡ changed_file e.effect → ⊥
    own_files d e i j same_by files =
        let r = deciding_in c.servers (front ++ back) d i in
        let g : InFlight = r.0 in
        let p : IsDeciding c.servers g d = r.1.1 in
        let q : IsDeciding c.servers f e = deciding_by c.servers f e j in
        let there : In g c.in_flight = others_there g r.1.0 in
        by g p q r.1.0 there (p.message.number == q.message.number) refl
      where
        by : (g : InFlight) (p : IsDeciding c.servers g d) (q : IsDeciding c.servers f e) (i : In g (front ++ back))
            (there : In g c.in_flight) (b : Bool) → (p.message.number == q.message.number) ≡ b → ⊥
        by g p q i there false t = two_parts g f d e p q there here same_by t files
        by g p q i there true t =
            other_part g d e p q i (one_txn g f d e p q there here same_by) (eqb-true p.message.number q.message.number t)

    pub own_apart : IsOwnApart (decided_among c.servers (front ++ back)) (decided_by c.servers f.message)
    own_apart d e i j same_by files = absurd (own_files d e i j same_by files)
