-- A session for which an operation is led waits for its server, whatever else its client does.
use Rattle.std.proofs.Common.{◌≡◌, ◌==◌, ◌+◌, ◌≤◌, ◌++◌, ℕ, Bool, true, false, not, List}
use Rattle.std.proofs.Common.{length, refl, sym, ap, ◌∙◌, subst, cond, inl, inr, filter, arith, length-append}
use Rattle.std.specs.Prelude.{Some, None, is_some}
use Rattle.fs_ident.specs.In.{In}
use Rattle.fs_ident.specs.declared.actor.Session.{Session}
use Rattle.fs_ident.proofs.Passing.{found}
use Rattle.fs_ident.proofs.Same.{itself}
use Rattle.fs_ident.proofs.Standing.{In-mapped}
use Rattle.fs_model.specs.declared.op.Op.{Op}
use Rattle.fs_msg.specs.declared.answer.Answer.{Answer}
use Rattle.fs_msg.specs.declared.answer.Answer.TheVariants as answer
use Rattle.fs_msg.specs.declared.client_msg.ClientMsg.{ClientMsg}
use Rattle.fs_msg.specs.declared.client_msg.ClientMsg.TheVariants as message
use Rattle.fs_client.specs.Acts.{act_on, act_plan, unless_led}
use Rattle.fs_client.specs.Answers.{answer_plan, fits, strange, fitting_plan}
use Rattle.fs_client.specs.Client.{begun, committed}
use Rattle.fs_client.specs.Led.{lead_of}
use Rattle.fs_client.specs.Turns.{idle, turn_free, turn_plan}
use Rattle.fs_client.specs.declared.exchange.Exchange.{Exchange}
use Rattle.fs_client.specs.declared.exchange.Exchange.TheVariants.{Leads}
use Rattle.fs_client.specs.declared.led.Led.{Led}
use Rattle.fs_client.specs.declared.state.Client.{Client}
use Rattle.fs_server.specs.declared.state.Server.{Server}
use Rattle.fs_txn.specs.declared.leading.Ending.{Ending}
use Rattle.fs_txn.specs.declared.leading.Leading.{Leading}
use Rattle.fs_txn.proofs.Keys.{kept_in}
use Rattle.fs_serial.specs.Cluster.{CanCome, ClientEvent, Cluster, Lines, after_client, is_with, with_lines}
use Rattle.fs_serial.specs.Cluster.ClientEvent.{Does, Turns, Hears}
use Rattle.fs_serial.specs.Exchange.{due, is_recall}
use Rattle.fs_serial.specs.Leading.{IsLedBy, LeadsFor, LeavesLedClient, LedHolds}
use Rattle.fs_serial.specs.Owed.{ends_in, owed_at, owed_to, question_of, taken_at, taken_leads}
use Rattle.fs_serial.proofs.Lists.Journals.{session_itself}
use Rattle.fs_serial.proofs.Lists.Traffic.{messages}
use Rattle.fs_serial.proofs.Transactions.OneOfSession.{all_owed_due, due_both}
use Rattle.fs_serial.proofs.Transactions.OthersKeep.{client_keeps_led}
use Rattle.fs_serial.proofs.Transactions.Tables.{In_all}
use Rattle.fs_serial.proofs.Transactions.OneOwner.{some_there}

-- ## The client

-- what is led and what was asked stays
pub record IsWaiting (c d : Client) : Type 0 where
  pub led : d.led ≡ c.led
  pub exchange : d.exchange ≡ c.exchange

pub act_waits : (c : Client) (now : ℕ) (o : Op) (l : Led) → c.led ≡ Some l → IsWaiting c (committed (act_plan c now o).ready c)
act_waits c now o l h = elim c.over as (λ x. IsWaiting c (committed (act_on x o (begun now c)).ready c)) [
  | Some n ↦ record { led = refl; exchange = refl }
  | None ↦ subst (λ x. IsWaiting c (committed (unless_led x o (begun now c)).ready c)) (sym h) (record { led = refl; exchange = refl })
]

pub turn_waits : (c : Client) (now : ℕ) (x : Exchange) → c.exchange ≡ Some x → IsWaiting c (committed (turn_plan c now).ready c)
turn_waits c now x h =
    subst (λ b. IsWaiting c (committed (cond b (idle (begun now c)) (turn_free (begun now c))).ready c)) (sym (ap is_some h))
    (record { led = refl; exchange = refl })

-- the answer is how an operation that was led ended
abbrev pub tells_end : Answer → Bool
tells_end (answer.Led e) = true
tells_end a = false

-- no other answer fits, but a recall
unfit : (c : Client) (now from n : ℕ) (a : Answer) → c.exchange ≡ Some (Leads n) → fits from (Some (Leads n)) a (begun now c) ≡ false
    → IsWaiting c (committed (answer_plan c now from a).ready c)
unfit c now from n a h f =
    subst (λ b. IsWaiting c (committed (cond b (fitting_plan a (begun now c)) (strange (begun now c))).ready c))
    (sym (ap (λ x. fits from x a (begun now c)) h ∙ f)) (record { led = refl; exchange = refl })

hear_waits : (c : Client) (now from n : ℕ) (a : Answer) → c.exchange ≡ Some (Leads n) → tells_end a ≡ false
    → IsWaiting c (committed (answer_plan c now from a).ready c)
hear_waits c now from n (answer.Granted gs fresh e) h t = unfit c now from n (answer.Granted gs fresh e) h refl
hear_waits c now from n (answer.Renewed rows e) h t = unfit c now from n (answer.Renewed rows e) h refl
hear_waits c now from n (answer.Released count e) h t = unfit c now from n (answer.Released count e) h refl
hear_waits c now from n (answer.Shipped count e) h t = unfit c now from n (answer.Shipped count e) h refl
hear_waits c now from n (answer.Recall number) h t = record { led = refl; exchange = refl }
hear_waits c now from n (answer.Led e) h t = absurd (cc t)

-- ## No end is told while a transaction stands

module _ (by : Session) (c : Cluster) (one : length (ends_in c by).up + length (due (ends_in c by).down) ≤ 1) where
  abbrev asked : List ClientMsg
  asked = messages (c.lines by).up

  abbrev heard : List Answer
  heard = messages (c.lines by).down

  taken : (d : Led) → (c.lines by).client.led ≡ Some d → (s : Server) → In s c.servers → (l : Leading) → In l s.leading
      → l.leader.session ≡ by
      → 1 ≤ length (taken_leads by (c.lines by).client.led c.servers)
  taken d led s i l j own =
      let among : In l (filter (λ (m : Leading). m.leader.session.0 == by.0) s.leading) = kept_in
      (λ (m : Leading). m.leader.session.0 == by.0) l s.leading j (ap (λ (z : Session). z.0 == by.0) own ∙ itself by.0) in
      let its : In (message.Lead (lead_of d)) (taken_at by (Some d) s) = In_all (λ (m : Leading). question_of (Some d))
      (message.Lead (lead_of d)) l (filter (λ (m : Leading). m.leader.session.0 == by.0) s.leading) among (inl refl) in
      subst (λ x. 1 ≤ length (taken_leads by x c.servers)) (sym led)
      (some_there (message.Lead (lead_of d)) (taken_leads by (Some d) c.servers)
      (In_all (taken_at by (Some d)) (message.Lead (lead_of d)) s c.servers i its))

  pub owed : (s : Server) → In s c.servers → (x : Ending) → In x s.ending → x.session ≡ by → 1 ≤ length (owed_to by c.servers)
  owed s i x j own =
      let among : In x (filter (λ (m : Ending). m.session.0 == by.0) s.ending) = kept_in (λ (m : Ending). m.session.0 == by.0) x s.ending j
      (ap (λ (z : Session). z.0 == by.0) own ∙ itself by.0) in
      let its : In (answer.Led x.end) (owed_at by s) = In-mapped (λ (m : Ending). answer.Led m.end) x
      (filter (λ (m : Ending). m.session.0 == by.0) s.ending) among in
      some_there (answer.Led x.end) (owed_to by c.servers) (In_all (owed_at by) (answer.Led x.end) s c.servers i its)

  -- an answer that is due is the only one
  pub no_end_told : (n : ℕ) (d : Led) → IsLedBy c.lines by n d → (s : Server) → In s c.servers → LeadsFor s by → (a : Answer) → In a heard
      → tells_end a ≡ true → ⊥
  no_end_told n d waits s i leads a j t =
      let up : length (ends_in c by).up ≡ length asked + length (taken_leads by (c.lines by).client.led c.servers) = length-append asked
      (taken_leads by (c.lines by).client.led c.servers) in
      let down : length (due (ends_in c by).down) ≡ length (owed_to by c.servers) + length (due heard) =
      ap length (due_both (owed_to by c.servers) heard ∙ ap (λ ys. ys ++ due heard) (all_owed_due by c.servers))
      ∙ length-append (owed_to by c.servers) (due heard) in
      let told_one : 1 ≤ length (due heard) = some_there a (due heard)
      (kept_in (λ (x : Answer). not (is_recall x)) a heard j (no_recall a t)) in
      elim leads as (λ _. ⊥) [
        | inl q ↦ let more : 1 ≤ length (taken_leads by (c.lines by).client.led c.servers) = taken d waits.led s i q.0 q.1.0 q.1.1 in
            absurd (omega (arith, one, up, down, told_one, more))
        | inr q ↦ let more : 1 ≤ length (owed_to by c.servers) = owed s i q.0 q.1.0 q.1.1 in absurd
            (omega (arith, one, up, down, told_one, more))
      ]
    where
      no_recall : (a : Answer) → tells_end a ≡ true → not (is_recall a) ≡ true
      no_recall (answer.Led e) t = refl
      no_recall (answer.Recall number) t = absurd (cc t)
      no_recall a t = refl

  -- ## Every event of the client

  own_lines : (own : Lines) → with_lines by own c.lines by ≡ own
  own_lines own = ap (λ b. cond b own (c.lines by)) (session_itself by)

  still_waits : (own : Lines) (n : ℕ) (d : Led) → IsWaiting (c.lines by).client own.client → IsLedBy c.lines by n d
      → IsLedBy (with_lines by own c.lines) by n d
  still_waits own n d q h = record {
    led = ap (λ (l : Lines). l.client.led) (own_lines own) ∙ q.led ∙ h.led;
    asked = ap (λ (l : Lines). l.client.exchange) (own_lines own) ∙ q.exchange ∙ h.asked;
  }

  pub client_waits : (now : ℕ) (e : ClientEvent) → CanCome by e c → LeavesLedClient by c (after_client by now e c).lines
  client_waits now (Does o) can n d h leads = still_waits _ n d (act_waits (c.lines by).client now o d h.led) h
  client_waits now Turns can n d h leads = still_waits _ n d (turn_waits (c.lines by).client now (Leads n) h.asked) h
  client_waits now (Hears from a) can n d h leads =
      still_waits _ n d (hear_waits (c.lines by).client now from n a h.asked (by_answer (tells_end a) refl)) h
    where
      by_answer : (b : Bool) → tells_end a ≡ b → b ≡ false
      by_answer true t = absurd (no_end_told n d h leads.0 leads.1.0 leads.1.1 a
          (In-mapped (λ (m : ℕ × Answer). m.1) (from, a) (c.lines by).down (found (is_with from) (c.lines by).down (from, a) can).0) t)
      by_answer false t = refl

-- so it keeps all that holds of transactions
pub waiting_keeps_led : (by : Session) (now : ℕ) (e : ClientEvent) (c : Cluster) → LedHolds c
    → length (ends_in c by).up + length (due (ends_in c by).down) ≤ 1 → CanCome by e c → LedHolds (after_client by now e c)
waiting_keeps_led by now e c held one can = client_keeps_led by now e c held (client_waits by c one now e can)
