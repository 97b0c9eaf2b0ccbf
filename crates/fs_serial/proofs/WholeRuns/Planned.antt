-- A client's question goes out with its exchange.
use Rattle.std.proofs.Common.{◌≡◌, ℕ, not, ◌&&◌, ◌/◌, ◌+◌, true, false, List, [], ◌∷◌, ◌++◌, append-nil, cond, refl, sym, ap, ap₂, ◌∙◌, subst, inl, inr}
use Rattle.std.specs.Prelude.{Option, Some, None, is_some}
use Rattle.fs_ident.specs.In.{In}
use Rattle.fs_field.specs.declared.asked.Need.{Need}
use Rattle.fs_field.specs.declared.asked.Need.TheVariants as need
use Rattle.fs_map.specs.Map.{Owners}
use Rattle.fs_model.specs.Step.{is_empty}
use Rattle.fs_model.specs.declared.op.Op.{Op}
use Rattle.fs_model.specs.declared.reply.Reply.{Reply}
use Rattle.fs_msg.specs.declared.answer.Answer.{Answer}
use Rattle.fs_msg.specs.declared.answer.Answer.TheVariants.{Granted, Renewed, Released, Shipped, Recall, Led}
use Rattle.fs_msg.specs.declared.act.Act.{Act}
use Rattle.fs_msg.specs.declared.act.Act.TheVariants as act
use Rattle.fs_msg.specs.declared.act.Busy.TheVariants as busy
use Rattle.fs_msg.specs.declared.client_msg.ClientMsg.{ClientMsg}
use Rattle.fs_msg.specs.declared.entry.Entry.{Entry}
use Rattle.fs_view.specs.declared.view_lease.ViewLease.{ViewLease}
use Rattle.fs_view.specs.View.{missing_in, reply_in}
use Rattle.fs_record.specs.declared.led_end.LedEnd.{LedEnd}
use Rattle.fs_record.specs.declared.led_end.LedEnd.TheVariants as end
use Rattle.fs_client.specs.Acts.{act_on, answer_with, answers, ask_for, asks, full_one, hinted, need_file, stays, unless_led, worth}
use Rattle.fs_client.specs.Answers.{ended_plan, fits, hear, led_plan, strange, fitting_plan}
use Rattle.fs_client.specs.Client.{begun, changed, committed, with_hints}
use Rattle.fs_client.specs.Turns.{ending, idle, release_some, renew_some, returned, ship_some, turn_free, turn_on}
use Rattle.fs_client.specs.declared.change.Change.{Change}
use Rattle.fs_client.specs.declared.change.Change.TheVariants as change
use Rattle.fs_client.specs.declared.exchange.Exchange.{Exchange}
use Rattle.fs_client.specs.declared.exchange.Exchange.TheVariants.{Leads, Releases}
use Rattle.fs_client.specs.declared.led.Led.{Led as TheLed}
use Rattle.fs_client.specs.declared.plan.Plan.{Plan}
use Rattle.fs_client.specs.declared.plan.Ready.{Ready}
use Rattle.fs_client.specs.declared.state.Client.{Client}
use Rattle.fs_serial.specs.Cluster.{Lines}
use Rattle.fs_serial.specs.Exchange.{OneExchange, due, server_of_question}
use Rattle.fs_serial.specs.Seen.{IsAddressed}
use Rattle.fs_serial.specs.World.{pushed}
use Rattle.fs_serial.proofs.WholeRuns.Addressing.{addressed_still, none_asked, not_none, one_asked}
use Rattle.fs_serial.proofs.Replies.Answering.{AnswerEnds, answer_ends, as_entry, as_led, as_move, as_read, not_told, put_off}
use Rattle.fs_serial.proofs.Lists.EachAt.{nothing_of}
use Rattle.fs_serial.proofs.Lists.Traffic.{messages}
use Rattle.fs_serial.proofs.Transactions.OneOfSession.{due_both}

-- ## The exchange after a change

abbrev exchange_after : Change → Option Exchange → Option Exchange
exchange_after change.Nothing x = x
exchange_after change.Read x = x
exchange_after (change.Reply entry effects) x = x
exchange_after (change.Ask y) x = Some y
exchange_after (change.Leave to numbers) x = Some (Releases to numbers)
exchange_after (change.Grant leases full) x = None
exchange_after (change.Renew ends) x = None
exchange_after (change.Release numbers) x = None
exchange_after (change.Admit count over) x = None
exchange_after (change.Lead to led) x = Some (Leads to)
exchange_after (change.LedDone effects) x = None
exchange_after change.LedFreed x = None
exchange_after (change.Recall number) x = x

changed_exchange : (ch : Change) (c : Client) → (changed ch c).exchange ≡ exchange_after ch c.exchange
changed_exchange change.Nothing c = refl
changed_exchange change.Read c = refl
changed_exchange (change.Reply entry effects) c = refl
changed_exchange (change.Ask y) c = refl
changed_exchange (change.Leave to numbers) c = refl
changed_exchange (change.Grant leases full) c = refl
changed_exchange (change.Renew ends) c = refl
changed_exchange (change.Release numbers) c = refl
changed_exchange (change.Admit count over) c = refl
changed_exchange (change.Lead to led) c = refl
changed_exchange (change.LedDone effects) c = refl
changed_exchange change.LedFreed c = refl
changed_exchange (change.Recall number) c = refl

hints_exchange : (o : Option Owners) (c : Client) → (with_hints o c).exchange ≡ c.exchange
hints_exchange None c = refl
hints_exchange (Some hints) c = refl

committed_exchange : (r : Ready) (c : Client) → (committed r c).exchange ≡ exchange_after r.change c.exchange
committed_exchange r c = hints_exchange r.hints (changed r.change (begun r.now c)) ∙ changed_exchange r.change (begun r.now c)

-- ## What goes out with it

-- a message to the server of the exchange, or none
abbrev pub GoesWith : Change → Option (ℕ × ClientMsg) → Type 0
GoesWith (change.Ask x) sent = (m : ClientMsg) × (sent ≡ Some (server_of_question x, m))
GoesWith (change.Leave to numbers) sent = (m : ClientMsg) × (sent ≡ Some (to, m))
GoesWith (change.Lead to led) sent = (m : ClientMsg) × (sent ≡ Some (to, m))
GoesWith ch sent = sent ≡ None

abbrev pub IsPosted : {N : Type 0} → Plan N → Type 0
IsPosted p = GoesWith p.ready.change p.out.send

full_posted : (needs : List Need) (c : Client) → IsPosted (full_one needs c)
full_posted [] c = refl
full_posted (need.Lease field kind ∷ needs) c = full_posted needs c
full_posted (need.Fresh dir ∷ needs) c = refl

ask_posted : (needs wanted : List Need) (c : Client) → IsPosted (ask_for needs wanted c)
ask_posted needs [] c = full_posted needs c
ask_posted needs (n ∷ ns) c = elim (is_some c.exchange) as (λ b. IsPosted (cond b (stays (act.Busy busy.Exchange) c) (asks (hinted c (need_file n)) (n ∷ ns) c))) [
  | true ↦ refl
  | false ↦ (_, refl)
]

each_posted : (o : Op) (r : Reply) (c : Client) (p : Plan Act) → AnswerEnds o r c p → IsPosted p
each_posted o r c p (as_entry t) = refl
each_posted o r c p (as_read t n e) = refl
each_posted o r c p (as_move t n e) = refl
each_posted o r c p (as_led t l x e moved k) = (_, refl)
each_posted o r c p (put_off what) = refl
each_posted o r c p not_told = refl

answers_posted : (o : Op) (r : Reply) (c : Client) → IsPosted (answers o r c)
answers_posted o r c = each_posted o r c (answers o r c) (answer_ends o r c)

with_posted : (r : Option Reply) (o : Op) (c : Client) → IsPosted (answer_with r o c)
with_posted (Some r) o c = answers_posted o r c
with_posted None o c = ask_posted (missing_in c.view c.last o) (worth c.full (missing_in c.view c.last o)) c

unless_posted : (led : Option TheLed) (o : Op) (c : Client) → IsPosted (unless_led led o c)
unless_posted (Some l) o c = refl
unless_posted None o c = with_posted (reply_in c.view c.last o) o c

pub act_posted : (over : Option ℕ) (o : Op) (c : Client) → IsPosted (act_on over o c)
act_posted (Some n) o c = refl
act_posted None o c = unless_posted c.led o c

ship_posted : (log : List Entry) (c : Client) → IsPosted (ship_some log c)
ship_posted [] c = refl
ship_posted (e ∷ es) c = (_, refl)

renew_posted : (ks : List ViewLease) (c : Client) → IsPosted (renew_some ks c)
renew_posted [] c = refl
renew_posted (k ∷ ks) c = (_, refl)

release_posted : (ks : List ViewLease) (c : Client) → IsPosted (release_some ks c)
release_posted [] c = renew_posted (ending (c.last + c.term / 2) c.view) c
release_posted (k ∷ ks) c = (_, refl)

free_posted : (c : Client) → IsPosted (turn_free c)
free_posted c = elim (not (is_empty c.log) && not (is_some c.over)) as (λ b. IsPosted (cond b (ship_some c.log c) (release_some (returned c.view) c))) [ true ↦ ship_posted c.log c | false ↦ release_posted (returned c.view) c ]

pub turn_posted : (c : Client) → IsPosted (turn_on c)
turn_posted c = elim (is_some c.exchange) as (λ b. IsPosted (cond b (idle c) (turn_free c))) [ true ↦ refl | false ↦ free_posted c ]

ended_posted : (l : TheLed) (e : LedEnd) (c : Client) → IsPosted (ended_plan l e c)
ended_posted l (end.Done r) c = refl
ended_posted l (end.Ended lease until now) c = refl
ended_posted l (end.Again why) c = refl

led_posted : (led : Option TheLed) (e : LedEnd) (c : Client) → IsPosted (led_plan led e c)
led_posted None e c = refl
led_posted (Some l) e c = ended_posted l e c

told_posted : (a : Answer) (c : Client) → IsPosted (fitting_plan a c)
told_posted (Granted grants fresh e) c = refl
told_posted (Renewed ends e) c = refl
told_posted (Released count e) c = refl
told_posted (Shipped count e) c = refl
told_posted (Led e) c = led_posted c.led e c
told_posted (Recall number) c = refl

pub hear_posted : (from : ℕ) (a : Answer) (c : Client) → IsPosted (hear from a c)
hear_posted from a c = elim (fits from c.exchange a c) as (λ b. IsPosted (cond b (fitting_plan a c) (strange c))) [ true ↦ told_posted a c | false ↦ refl ]

-- ## So it goes where it was addressed

abbrev planned : Client → Option (ℕ × ClientMsg) → List (ℕ × ClientMsg) → List (ℕ × Answer) → Lines
planned c sent up rest = record { client = c; up = pushed sent up; down = rest }

-- what one that stands alone is asked and told, among more
fewer_due : (o d : List Answer) → due (o ++ d) ≡ [] → due d ≡ []
fewer_due o d h = (nothing_of (due o) (due d) (sym (due_both o d) ∙ h)).1

first_of : {X : Type 0} (a b : List X) (m : X) → (a ≡ [] → ⊥) → a ++ b ≡ m ∷ [] → a ≡ m ∷ []
first_of [] b m some e = absurd (some refl)
first_of (z ∷ zs) b m some e =
    let same : z ≡ m = cc in
    let none : zs ++ b ≡ [] = cc in
    ap₂ (λ y ys. y ∷ ys) same (nothing_of zs b none).0

fewer_asked : (c : Client) (x : Exchange) (a b : List ClientMsg) (o d : List Answer) → (a ≡ [] → ⊥)
    → OneExchange c (Some x) (a ++ b) (o ++ d) → OneExchange c (Some x) a d
fewer_asked c x a b o d some (inl h) = inl (record {
  message = h.message;
  asked = first_of a b h.message some h.asked;
  question = h.question;
  silent = fewer_due o d h.silent;
})
fewer_asked c x a b o d some (inr h) = absurd (some (nothing_of a b h.asked).0)

-- where so many more questions, and answers in front, are the session's
module _ (c : Client) (l : Lines) (sent : Option (ℕ × ClientMsg)) (rest : List (ℕ × Answer)) (more : List ClientMsg) (front : List Answer)
    (few : (m : ℕ × Answer) → In m rest → In m l.down) (h : IsAddressed l) where
  abbrev then : Lines
  then = planned c sent l.up rest

  stands : c.exchange ≡ l.client.exchange → sent ≡ None → IsAddressed then
  stands e s = addressed_still l then e (λ m i. subst (λ o. In m (pushed o l.up)) s i) few h

  ends : c.exchange ≡ None → OneExchange c c.exchange (messages then.up ++ more) (front ++ messages rest) → IsAddressed then
  ends e one =
      let none = subst (λ x. OneExchange c x (messages then.up ++ more) (front ++ messages rest)) e one in
      none_asked then ((nothing_of (messages then.up) more none.0).0, fewer_due front (messages rest) none.1)

  goes : (x : Exchange) (m : ClientMsg) → c.exchange ≡ Some x → sent ≡ Some (server_of_question x, m)
      → OneExchange c c.exchange (messages then.up ++ more) (front ++ messages rest) → IsAddressed then
  goes x m e s one = one_asked then x l.up m e (ap (λ o. pushed o l.up) s)
      (fewer_asked c x (messages then.up) more front (messages rest)
      (λ none. not_none l.up (server_of_question x) m (ap (λ o. messages (pushed o l.up)) (sym s) ∙ none))
      (subst (λ y. OneExchange c y (messages then.up ++ more) (front ++ messages rest)) e one))

  by_change : (ch : Change) → GoesWith ch sent → c.exchange ≡ exchange_after ch l.client.exchange
      → OneExchange c c.exchange (messages then.up ++ more) (front ++ messages rest) → IsAddressed then
  by_change change.Nothing g e one = stands e g
  by_change change.Read g e one = stands e g
  by_change (change.Reply entry effects) g e one = stands e g
  by_change (change.Ask x) g e one = goes x g.0 e g.1 one
  by_change (change.Leave to numbers) g e one = goes (Releases to numbers) g.0 e g.1 one
  by_change (change.Grant leases full) g e one = ends e one
  by_change (change.Renew es) g e one = ends e one
  by_change (change.Release numbers) g e one = ends e one
  by_change (change.Admit count over) g e one = ends e one
  by_change (change.Lead to led) g e one = goes (Leads to) g.0 e g.1 one
  by_change (change.LedDone effects) g e one = ends e one
  by_change change.LedFreed g e one = ends e one
  by_change (change.Recall number) g e one = stands e g

pub addressed_among : {N : Type 0} (p : Plan N) (l : Lines) (rest : List (ℕ × Answer)) (more : List ClientMsg) (front : List Answer)
    → ((m : ℕ × Answer) → In m rest → In m l.down) → IsPosted p
    → OneExchange (committed p.ready l.client) (committed p.ready l.client).exchange (messages (pushed p.out.send l.up) ++ more)
    (front ++ messages rest)
    → IsAddressed l → IsAddressed (record { client = committed p.ready l.client; up = pushed p.out.send l.up; down = rest })
addressed_among p l rest more front few posted one h =
    by_change (committed p.ready l.client) l p.out.send rest more front few h p.ready.change posted (committed_exchange p.ready l.client) one

pub plan_addressed : {N : Type 0} (p : Plan N) (l : Lines) (rest : List (ℕ × Answer)) → ((m : ℕ × Answer) → In m rest → In m l.down) → IsPosted p
    → OneExchange (committed p.ready l.client) (committed p.ready l.client).exchange (messages (pushed p.out.send l.up)) (messages rest)
    → IsAddressed l → IsAddressed (record { client = committed p.ready l.client; up = pushed p.out.send l.up; down = rest })
plan_addressed p l rest few posted one = addressed_among p l rest [] [] few posted
    (subst (λ ms. OneExchange (committed p.ready l.client) (committed p.ready l.client).exchange ms (messages rest))
    (sym (append-nil (messages (pushed p.out.send l.up)))) one)
