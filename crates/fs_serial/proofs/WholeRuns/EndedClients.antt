-- Every event of a client keeps what is told of leases that had ended right: the session waits until it hears how its operation ended.
use Rattle.std.proofs.Common.{◌≡◌, ◌==◌, ◌+◌, ◌≤◌, ℕ, Bool, true, false, not, List, ◌∷◌, ◌++◌, length, cond, refl, sym, ap, ◌∙◌, subst}
use Rattle.std.proofs.Common.{inl, inr, arith, length-append}
use Rattle.std.specs.Prelude.{Option, Some, None}
use Rattle.fs_ident.specs.In.{In}
use Rattle.fs_ident.specs.declared.actor.LeaseNo.{LeaseNo}
use Rattle.fs_ident.specs.declared.actor.Session.{Session}
use Rattle.fs_ident.proofs.Same.{one_session}
use Rattle.fs_ident.proofs.Standing.{In-append, In-mapped}
use Rattle.fs_record.specs.declared.led_end.LedEnd.TheVariants as led
use Rattle.fs_model.specs.declared.op.Op.{Op}
use Rattle.fs_msg.specs.declared.answer.Answer.{Answer}
use Rattle.fs_msg.specs.declared.answer.Answer.TheVariants as answer
use Rattle.fs_client.specs.Acts.{act_plan}
use Rattle.fs_client.specs.Answers.{answer_plan}
use Rattle.fs_client.specs.Client.{committed}
use Rattle.fs_client.specs.Turns.{turn_plan}
use Rattle.fs_client.specs.declared.exchange.Exchange.{Exchange}
use Rattle.fs_client.specs.declared.led.Led.{Led}
use Rattle.fs_client.specs.declared.plan.Plan.{Plan}
use Rattle.fs_client.specs.declared.state.Client.{Client}
use Rattle.fs_server.specs.declared.state.Server.{Server}
use Rattle.fs_txn.specs.declared.leading.Leading.{Leading}
use Rattle.fs_txn.proofs.Keys.{kept_in}
use Rattle.fs_serial.specs.Cluster.{CanCome, ClientEvent, Cluster, Lines, after_client, after_plan, is_with, without_first}
use Rattle.fs_serial.specs.Cluster.ClientEvent.{Does, Turns, Hears}
use Rattle.fs_serial.specs.EndedLeases.{EndsFair, WasEnded}
use Rattle.fs_serial.specs.Exchange.{OneExchange, due, is_recall}
use Rattle.fs_serial.specs.Leading.{IsLedBy, LeadsFor, LeavesLedClient}
use Rattle.fs_serial.specs.Owed.{ends_in, owed_to}
use Rattle.fs_serial.specs.Seen.{ClusterHolds}
use Rattle.fs_serial.specs.World.{pushed}
use Rattle.fs_serial.proofs.DecidedEffects.OwnApart.{one_each}
use Rattle.fs_serial.proofs.Lists.Journals.{session_itself}
use Rattle.fs_serial.proofs.Lists.SetAt.{In_without}
use Rattle.fs_serial.proofs.Lists.Traffic.{IsTaken, messages, messages_append, taken_first}
use Rattle.fs_serial.proofs.Transactions.ClientsWait.{act_waits, client_waits, turn_waits}
use Rattle.fs_serial.proofs.Transactions.OneOfSession.{due_both}
use Rattle.fs_serial.proofs.Transactions.OneOwner.{some_there}
use Rattle.fs_serial.proofs.WholeRuns.ClusterClients.{some_server}
use Rattle.fs_serial.proofs.WholeRuns.EndedEvents.{IsLedAt, led_at}
use Rattle.fs_serial.proofs.WholeRuns.EndedStay.{ended_stays, same_later}

-- ## Answers that are due

due_there : (down : List (ℕ × Answer)) (j : ℕ) (a : Answer) → In (j, a) down → is_recall a ≡ false → In a (due (messages down))
due_there down j a i other =
    kept_in (λ (x : Answer). not (is_recall x)) a (messages down) (In-mapped (λ (m : ℕ × Answer). m.1) (j, a) down i) (ap not other)

-- one that is heard, and one that is left
two_due : (front back : List (ℕ × Answer)) (i j : ℕ) (a b : Answer) → is_recall a ≡ false → is_recall b ≡ false → In (j, b) (front ++ back)
    → 2 ≤ length (due (messages (front ++ (i, a) ∷ back)))
two_due front back i j a b first other there =
    let xs : List Answer = due (messages front) in
    let ys : List Answer = due (messages back) in
    let whole : due (messages (front ++ (i, a) ∷ back)) ≡ xs ++ a ∷ ys =
    ap due (messages_append front ((i, a) ∷ back)) ∙ due_both (messages front) (a ∷ messages back)
    ∙ ap (λ t. xs ++ cond (not t) (a ∷ ys) ys) first in
    let all : length (due (messages (front ++ (i, a) ∷ back))) ≡ length xs + length (a ∷ ys) =
    ap length whole ∙ length-append xs (a ∷ ys) in
    elim (In-append (j, b) front back there) as (λ _. 2 ≤ length (due (messages (front ++ (i, a) ∷ back)))) [
      | inl k ↦ let n : 1 ≤ length xs = some_there b xs (due_there front j b k other) in omega (arith, all, n)
      | inr k ↦ let n : 1 ≤ length ys = some_there b ys (due_there back j b k other) in omega (arith, all, n)
    ]

-- nothing is heard of what is led where a lease is asked back
recalled_waits : (c : Client) (now from : ℕ) (a : Answer) → is_recall a ≡ true → (committed (answer_plan c now from a).ready c).led ≡ c.led
recalled_waits c now from (answer.Recall number) e = refl
recalled_waits c now from (answer.Granted gs fresh end) e = absurd (cc e)
recalled_waits c now from (answer.Renewed rows end) e = absurd (cc e)
recalled_waits c now from (answer.Released count end) e = absurd (cc e)
recalled_waits c now from (answer.Shipped count end) e = absurd (cc e)
recalled_waits c now from (answer.Led end) e = absurd (cc e)

module _ (skew greatest now : ℕ) (c : Cluster) (by : Session) (h : ClusterHolds skew greatest c) (f : EndsFair c) where
  few_one : length (ends_in c by).up + length (due (ends_in c by).down) ≤ 1
  few_one = let q = some_server c h.places in one_each skew greatest c h q.0 q.1 by

  one : OneExchange (c.lines by).client (c.lines by).client.exchange (ends_in c by).up (ends_in c by).down
  one = let q = some_server c h.places in ((h.parts q.0 q.1).0.exchanges by).one

  abbrev down : List (ℕ × Answer)
  down = (c.lines by).down

  few_heard : length (due (messages down)) ≤ 1
  few_heard =
      let all : length (due (ends_in c by).down) ≡ length (due (owed_to by c.servers)) + length (due (messages down)) =
      ap length (due_both (owed_to by c.servers) (messages down)) ∙ length-append (due (owed_to by c.servers)) (due (messages down)) in
      let few : length (ends_in c by).up + length (due (ends_in c by).down) ≤ 1 = few_one in
      omega (arith, all, few)

  -- a session that is told something asked for it
  asked_some : (a : Answer) → In a (due (messages down)) → (x : Exchange) × ((c.lines by).client.exchange ≡ Some x)
  asked_some a i = by_exchange (c.lines by).client.exchange refl one
    where
      by_exchange : (o : Option Exchange) → (c.lines by).client.exchange ≡ o
          → OneExchange (c.lines by).client o (ends_in c by).up (ends_in c by).down
          → (x : Exchange) × ((c.lines by).client.exchange ≡ Some x)
      by_exchange (Some x) e q = (x, e)
      by_exchange None e q =
          let all : length (due (ends_in c by).down) ≡ length (due (owed_to by c.servers)) + length (due (messages down)) =
          ap length (due_both (owed_to by c.servers) (messages down)) ∙ length-append (due (owed_to by c.servers)) (due (messages down)) in
          let none : length (due (ends_in c by).down) ≡ 0 = ap length q.1 in
          let some : 1 ≤ length (due (messages down)) = some_there a (due (messages down)) i in
          absurd (omega (arith, all, none, some))

  module _ {N : Type 0} (rest : List (ℕ × Answer)) (p : Plan N) (waits : LeavesLedClient by c (after_plan by rest p c).lines)
      (told_waits : (number : LeaseNo) (end reading j : ℕ) → In (j, answer.Led (led.Ended number end reading)) rest
      → (WasEnded c by number end reading) × ((committed p.ready (c.lines by).client).led ≡ (c.lines by).client.led)) where
    abbrev then : Cluster
    then = after_plan by rest p c

    abbrev new : Lines
    new = record { client = committed p.ready (c.lines by).client; up = pushed p.out.send (c.lines by).up; down = rest }

    own : then.lines by ≡ new
    own = ap (λ b. let z : Lines = cond b new (c.lines by) in z) (session_itself by)

    still : (y : Session) (number : LeaseNo) (end reading : ℕ) → (then.lines y).client.led ≡ (c.lines y).client.led
        → WasEnded c y number end reading → WasEnded then y number end reading
    still y number end reading same = ended_stays c then y number end reading (same_later c then refl (λ j. omega arith)) same

    -- whoever has something led waits for the same
    led_still : (y : Session) (n : ℕ) (d : Led) → IsLedBy c.lines y n d → (s : Server) → In s c.servers → LeadsFor s y
        → (then.lines y).client.led ≡ (c.lines y).client.led
    led_still y n d q s i leads = by_session (by.0 == y.0) refl
      where
        by_session : (b : Bool) → (by.0 == y.0) ≡ b → (then.lines y).client.led ≡ (c.lines y).client.led
        by_session true e =
            let its : by ≡ y = one_session by y e in
            let was : IsLedBy c.lines by n d = subst (λ z. IsLedBy c.lines z n d) (sym its) q in
            let is : IsLedBy then.lines by n d = waits n d was (s, (i, subst (LeadsFor s) (sym its) leads)) in
            subst (λ z. (then.lines z).client.led ≡ (c.lines z).client.led) its (is.led ∙ sym was.led)
        by_session false e = ap (λ b. (let z : Lines = cond b new (c.lines y) in z).client.led) e

    leading_still : (s : Server) → In s c.servers → (l : Leading) → In l s.leading
        → (then.lines l.leader.session).client.led ≡ (c.lines l.leader.session).client.led
    leading_still s i l j =
        let q = h.led.leading s i l j in
        led_still l.leader.session s.me q.led q.client s i (inl (l, (j, refl)))

    heard : (y : Session) (j : ℕ) (number : LeaseNo) (end reading : ℕ)
        → In (j, answer.Led (led.Ended number end reading)) (then.lines y).down → WasEnded then y number end reading
    heard y j number end reading = by_session (by.0 == y.0) refl
      where
        by_session : (b : Bool) → (by.0 == y.0) ≡ b → In (j, answer.Led (led.Ended number end reading)) (then.lines y).down
            → WasEnded then y number end reading
        by_session true e i =
            let its : by ≡ y = one_session by y e in
            let a : Answer = answer.Led (led.Ended number end reading) in
            let there : In (j, a) rest = subst (λ (z : Lines). In (j, a) z.down) own
            (subst (λ z. In (j, a) (then.lines z).down) (sym its) i) in
            let q = told_waits number end reading j there in
            subst (λ z. WasEnded then z number end reading) its
            (still by number end reading (ap (λ (z : Lines). z.client.led) own ∙ q.1) q.0)
        by_session false e i =
            let same : then.lines y ≡ c.lines y = ap (λ b. let z : Lines = cond b new (c.lines y) in z) e in
            still y number end reading (ap (λ (z : Lines). z.client.led) same) (f.told y j number end reading
            (subst (λ (z : Lines). In (j, answer.Led (led.Ended number end reading)) z.down) same i))

    pub plan_fair : EndsFair then
    plan_fair = record {
      counted = λ s i l j number end reading v.
          still l.leader.session number end reading (leading_still s i l j) (f.counted s i l j number end reading v);
      coming = λ g i m e number end reading v l is.
          let z : IsLedAt c.servers m.txn l = led_at c.servers m.txn l is in
          still l.leader.session number end reading (leading_still z.server z.there l z.among)
          (f.coming g i m e number end reading v l is);
      kept = λ s i x j number end reading e.
          let q = h.led.ending s i x j in
          still x.session number end reading (led_still x.session s.me q.led q.client s i (inr (x, (j, refl))))
          (f.kept s i x j number end reading e);
      told = heard;
    }

  -- ## Each event

  abbrev client : Client
  client = (c.lines by).client

  does_fair : (o : Op) → CanCome by (Does o) c → EndsFair (after_client by now (Does o) c)
  does_fair o can = plan_fair down (act_plan client now o) (client_waits by c few_one now (Does o) can)
      (λ number end reading j i. let w = f.told by j number end reading i in (w, (act_waits client now o w.led w.waits).led))

  turn_fair : EndsFair (after_client by now Turns c)
  turn_fair = plan_fair down (turn_plan client now) (client_waits by c few_one now Turns tt) (λ number end reading j i.
      let w = f.told by j number end reading i in
      let x = asked_some (answer.Led (led.Ended number end reading))
      (due_there down j (answer.Led (led.Ended number end reading)) i refl) in
      (w, (turn_waits client now x.0 x.1).led))

  module _ (from : ℕ) (a : Answer) (can : CanCome by (Hears from a) c) where
    taken : IsTaken (is_with from) down (from, a)
    taken = taken_first (is_with from) down (from, a) can

    -- while an end is on its way, nothing but what is asked back is heard
    only_recalls : (b : Answer) (j : ℕ) → is_recall b ≡ false → In (j, b) (without_first (is_with from) down) → (r : Bool) → is_recall a ≡ r
        → r ≡ true
    only_recalls b j other i true e = refl
    only_recalls b j other i false e =
        let two : 2 ≤ length (due (messages (taken.front ++ (from, a) ∷ taken.back))) =
        two_due taken.front taken.back from j a b e other (subst (In (j, b)) taken.left i) in
        let few : length (due (messages down)) ≤ 1 = few_heard in
        let same : length (due (messages down)) ≡ length (due (messages (taken.front ++ (from, a) ∷ taken.back))) =
        ap (λ xs. length (due (messages xs))) taken.whole in
        absurd (omega (arith, two, few, same))

    hears_fair : EndsFair (after_client by now (Hears from a) c)
    hears_fair = plan_fair (without_first (is_with from) down) (answer_plan client now from a)
        (client_waits by c few_one now (Hears from a) can)
        (λ number end reading j i.
        let e : Answer = answer.Led (led.Ended number end reading) in
        let recall : is_recall a ≡ true = only_recalls e j refl i (is_recall a) refl in
        (f.told by j number end reading (In_without (is_with from) down (j, e) i), recalled_waits client now from a recall))

  pub client_keeps_fair : (e : ClientEvent) → CanCome by e c → EndsFair (after_client by now e c)
  client_keeps_fair (Does o) can = does_fair o can
  client_keeps_fair Turns can = turn_fair
  client_keeps_fair (Hears from a) can = hears_fair from a can
