-- Plans that are made at the reading of an event.
use Rattle.std.proofs.Common.{◌≡◌, ℕ, ◌≤◌, ◌⊎◌, Bool, true, false, List, [], ◌∷◌, refl, ap, cond, arith, sym, ◌∙◌, inl, inr, Ok, Err}
use Rattle.std.specs.Prelude.{Option, Some, None, Result, IfOk, IsErrOf, is_some, max, nat_le, not, ◌&&◌}
use Rattle.std.proofs.lemmas.Bool.Decides.{nat_tests}
use Rattle.fs_ident.proofs.Booleans.{joined}
use Rattle.fs_ident.specs.declared.kind.Kind.{Kind}
use Rattle.fs_ident.specs.declared.limits.TheConstants.{LATEST}
use Rattle.fs_ident.specs.declared.memory.Memory.{Memory}
use Rattle.fs_field.specs.declared.asked.Need.{Need}
use Rattle.fs_field.specs.declared.asked.Need.TheVariants.{Lease, Fresh}
use Rattle.fs_model.specs.declared.op.Op.{Op}
use Rattle.fs_model.specs.declared.reply.Reply.{Reply}
use Rattle.fs_model.specs.Sound.{is_change}
use Rattle.fs_model.specs.Step.{is_empty}
use Rattle.fs_msg.specs.declared.act.Act.{Act}
use Rattle.fs_msg.specs.declared.act.Act.TheVariants as act
use Rattle.fs_msg.specs.declared.act.Busy.TheVariants as busy
use Rattle.fs_msg.specs.declared.answer.Answer.{Answer}
use Rattle.fs_msg.specs.declared.answer.Answer.TheVariants.{Granted, Renewed, Released, Shipped, Recall}
use Rattle.fs_msg.specs.declared.answer.Answer.TheVariants as answer
use Rattle.fs_msg.specs.declared.client_note.ClientNote.{ClientNote}
use Rattle.fs_msg.specs.declared.entry.Entry.{Entry}
use Rattle.fs_msg.specs.declared.core_error.Counter.{Counter}
use Rattle.fs_msg.specs.declared.core_error.Counter.TheVariants.{Entries}
use Rattle.fs_msg.specs.declared.core_error.CoreError.{CoreError}
use Rattle.fs_msg.specs.declared.core_error.CoreError.TheVariants as errors
use Rattle.fs_record.specs.Effects.{tells_its_effects}
use Rattle.fs_record.specs.declared.led_end.LedEnd.{LedEnd}
use Rattle.fs_record.specs.declared.led_end.LedEnd.TheVariants as led
use Rattle.fs_view.specs.declared.view_lease.ViewLease.{ViewLease}
use Rattle.fs_view.specs.View.{known_by, lapsed_at, missing_in, reply_in}
use Rattle.fs_client.specs.declared.led.Led.{Led}
use Rattle.fs_client.specs.declared.plan.Plan.{Plan}
use Rattle.fs_client.specs.declared.plan.Ready.{Ready}
use Rattle.fs_client.specs.declared.state.Client.{Client}
use Rattle.fs_client.specs.Acts.{act_on, act_plan, answer_with, answers_move, answers_plain, ask_for, asks, full_one, hinted, is_act_spent, leads_on, leads_or_waits, need_file, reads, reads_or_waits, replies, stays, unless_led, worth}
use Rattle.fs_client.specs.Answers.{answer_plan, ended_plan, fits, hear, led_plan, strange, fitting_plan}
use Rattle.fs_client.specs.Client.{IsClient, begun, can_change, can_commit}
use Rattle.fs_client.specs.Led.{is_led, moved_known}
use Rattle.fs_client.specs.Turns.{ending, idle, release_some, renew_some, returned, ship_some, turn_free, turn_on, turn_plan}

-- ## A plan has the reading of its event

pub max_again : (a b : ℕ) → max a (max a b) ≡ max a b
max_again a b = omega arith

begun_again : (now : ℕ) (c : Client) → begun (max c.last now) c ≡ begun now c
begun_again now c = ap (λ n. let x : Client = record c { last = n; view = lapsed_at n c.view } in x) (max_again c.last now)

in_time : (a b n : ℕ) → a ≤ n → b ≤ n → nat_le (max a b) n ≡ true
in_time a b n h g = grind (arith, nat_tests)

pub can_still : (now : ℕ) (c : Client) (r : Ready) → IsClient c → now ≤ LATEST → r.now ≡ max c.last now → can_change r.change (begun now c) ≡ true → can_commit r c ≡ true
can_still now c r i n e h =
    joined (nat_le r.now LATEST) (can_change r.change (begun r.now c))
    (ap (λ k. nat_le k LATEST) e ∙ in_time c.last now LATEST i.last n)
    (ap (λ k. can_change r.change (begun k c)) e ∙ (ap (can_change r.change) (begun_again now c) ∙ h))

either_now : {N : Type 0} (b : Bool) (p q : Plan N) (n : ℕ) → p.ready.now ≡ n → q.ready.now ≡ n → (cond b p q).ready.now ≡ n
either_now true p q n h g = h
either_now false p q n h g = g

-- ## Operations

full_now : (needs : List Need) (c : Client) → (full_one needs c).ready.now ≡ c.last
full_now [] c = refl
full_now (Lease field kind ∷ needs) c = full_now needs c
full_now (Fresh dir ∷ needs) c = refl

ask_now : (needs ns : List Need) (c : Client) → (ask_for needs ns c).ready.now ≡ c.last
ask_now needs [] c = full_now needs c
ask_now needs (n ∷ ns) c = elim (is_some c.exchange) as (λ b. (cond b (stays (act.Busy busy.Exchange) c) (asks (hinted c (need_file n)) (n ∷ ns) c)).ready.now ≡ c.last) [ true ↦ refl | false ↦ refl ]

plain_now : (o : Op) (r : Reply) (c : Client) → (answers_plain o r c).ready.now ≡ c.last
plain_now o r c = either_now (not (is_change r) && is_empty c.log) (reads o r c) (replies o r c) c.last refl refl

on_now : (moved : Option (List ℕ × Kind)) (o : Op) (r : Reply) (c : Client) → (leads_on moved o r c).ready.now ≡ c.last
on_now None o r c = refl
on_now (Some moved) o r c = refl

lead_now : (o : Op) (r : Reply) (c : Client) → (leads_or_waits o r c).ready.now ≡ c.last
lead_now o r c =
    let moved = moved_known (known_by c.view c.last) o in
    let log = stays (act.Busy busy.Log) c in
    either_now (is_some c.exchange) (stays (act.Busy busy.Exchange) c) (cond (is_empty c.log) (leads_on moved o r c) log) c.last refl
    (either_now (is_empty c.log) (leads_on moved o r c) log c.last (on_now moved o r c) refl)

move_now : (o : Op) (r : Reply) (c : Client) → (answers_move o r c).ready.now ≡ c.last
move_now o r c = either_now (is_led o r) (leads_or_waits o r c) (reads_or_waits o r c) c.last (lead_now o r c) (either_now (is_empty c.log) (reads o r c) (stays (act.Busy busy.Log) c) c.last refl refl)

answer_now : (r : Option Reply) (o : Op) (c : Client) → (answer_with r o c).ready.now ≡ c.last
answer_now (Some r) o c = either_now (tells_its_effects o) (answers_plain o r c) (answers_move o r c) c.last (plain_now o r c) (move_now o r c)
answer_now None o c = ask_now (missing_in c.view c.last o) (worth c.full (missing_in c.view c.last o)) c

unless_now : (led : Option Led) (o : Op) (c : Client) → (unless_led led o c).ready.now ≡ c.last
unless_now (Some l) o c = refl
unless_now None o c = answer_now (reply_in c.view c.last o) o c

act_now : (over : Option ℕ) (o : Op) (c : Client) → (act_on over o c).ready.now ≡ c.last
act_now (Some n) o c = refl
act_now None o c = unless_now c.led o c

module _ (now : ℕ) (o : Op) (c x : Client) (i : IsClient c) (n : now ≤ LATEST) (e : x ≡ begun now c) where
  pub act_is : (r : Result (Plan Act) CoreError) → IfOk r (λ p. p ≡ act_on x.over o x) → IfOk r (λ p. p ≡ act_plan c now o)
  act_is (Ok p) h = h ∙ ap (λ (b : Client). act_on b.over o b) e
  act_is (Err m) h = h

  pub act_can : (r : Result (Plan Act) CoreError) → IfOk r (λ p. p ≡ act_on x.over o x) → IfOk r (λ p. can_change p.ready.change x ≡ true) → IfOk r (λ p. can_commit p.ready c ≡ true)
  act_can (Ok p) h k =
      can_still now c p.ready i n (ap (λ (q : Plan Act). q.ready.now) h ∙ (act_now x.over o x ∙ ap (λ (b : Client). b.last) e)) (ap (can_change p.ready.change) (sym e) ∙ k)
  act_can (Err m) h k = h

  spent_at : can_change (act_on x.over o x).ready.change x ≡ false → is_act_spent c now o ≡ true
  spent_at h = ap (λ b. not b) (ap (λ (b : Client). can_change (act_on b.over o b).ready.change b) (sym e) ∙ h)

  pub act_spent : (r : Result (Plan Act) CoreError) → ((counter : Counter) → IsErrOf r (errors.Spent counter) → (counter ≡ Entries) × (can_change (act_on x.over o x).ready.change x ≡ false)) → (counter : Counter) → IsErrOf r (errors.Spent counter) → (counter ≡ Entries) × (is_act_spent c now o ≡ true)
  act_spent r s counter h = ((s counter h).0, spent_at (s counter h).1)

  pub act_only : (r : Result (Plan Act) CoreError) → IfOk r (λ p. p ≡ act_on x.over o x) → IfOk r (λ p. can_change p.ready.change x ≡ true) → ((counter : Counter) → IsErrOf r (errors.Spent counter) → (counter ≡ Entries) × (can_change (act_on x.over o x).ready.change x ≡ false)) → is_act_spent c now o ≡ true → (IsErrOf r (errors.Spent Entries)) ⊎ (IsErrOf r errors.Memory)
  act_only (Ok p) h k s t =
      let can : can_change (act_plan c now o).ready.change (begun now c) ≡ true = sym (ap (λ (b : Client). can_change (act_on b.over o b).ready.change b) e) ∙ (ap (λ (q : Plan Act). can_change q.ready.change x) (sym h) ∙ k) in
      let no : is_act_spent c now o ≡ false = ap (λ b. not b) can in
      let f : true ≡ false = sym t ∙ no in
      absurd (cc)
  act_only (Err (errors.Spent counter)) h k s t = inl (ap (λ m. let r : Result (Plan Act) CoreError = Err (errors.Spent m) in r) (s counter refl).0)
  act_only (Err errors.Memory) h k s t = inr refl

-- ## Turns

renew_now : (ks : List ViewLease) (c : Client) → (renew_some ks c).ready.now ≡ c.last
renew_now [] c = refl
renew_now (k ∷ ks) c = refl

release_now : (ks : List ViewLease) (c : Client) → (release_some ks c).ready.now ≡ c.last
release_now [] c = renew_now (ending _ c.view) c
release_now (k ∷ ks) c = refl

ship_now : (es : List Entry) (c : Client) → (ship_some es c).ready.now ≡ c.last
ship_now [] c = refl
ship_now (e ∷ es) c = refl

turn_now : (c : Client) → (turn_on c).ready.now ≡ c.last
turn_now c = either_now (is_some c.exchange) (idle c) (turn_free c) c.last refl (either_now (not (is_empty c.log) && not (is_some c.over)) (ship_some c.log c) (release_some (returned c.view) c) c.last (ship_now c.log c) (release_now (returned c.view) c))

pub turn_is : (now : ℕ) (c x : Client) (r : Result (Plan ClientNote) Memory) → x ≡ begun now c → IfOk r (λ p. p ≡ turn_on x) → IfOk r (λ p. p ≡ turn_plan c now)
turn_is now c x (Ok p) e h = h ∙ ap turn_on e
turn_is now c x (Err m) e h = h

pub turn_can : (now : ℕ) (c x : Client) (r : Result (Plan ClientNote) Memory) → IsClient c → now ≤ LATEST → x ≡ begun now c → IfOk r (λ p. p ≡ turn_on x) → IfOk r (λ p. can_change p.ready.change x ≡ true) → IfOk r (λ p. can_commit p.ready c ≡ true)
turn_can now c x (Ok p) i n e h k =
    can_still now c p.ready i n (ap (λ (q : Plan ClientNote). q.ready.now) h ∙ (turn_now x ∙ ap (λ (b : Client). b.last) e)) (ap (can_change p.ready.change) (sym e) ∙ k)
turn_can now c x (Err m) i n e h k = h

-- ## Answers

ended_now : (l : Led) (e : LedEnd) (c : Client) → (ended_plan l e c).ready.now ≡ c.last
ended_now l (led.Done r) c = refl
ended_now l (led.Ended lease until now) c = refl
ended_now l (led.Again why) c = refl

led_now : (o : Option Led) (e : LedEnd) (c : Client) → (led_plan o e c).ready.now ≡ c.last
led_now None e c = refl
led_now (Some l) e c = ended_now l e c

told_now : (a : Answer) (c : Client) → (fitting_plan a c).ready.now ≡ c.last
told_now (Granted gs fresh e) c = refl
told_now (Renewed rows e) c = refl
told_now (Released count e) c = refl
told_now (Shipped count e) c = refl
told_now (answer.Led e) c = led_now c.led e c
told_now (Recall number) c = refl

hear_now : (from : ℕ) (a : Answer) (c : Client) → (hear from a c).ready.now ≡ c.last
hear_now from a c = either_now (fits from c.exchange a c) (fitting_plan a c) (strange c) c.last (told_now a c) refl

pub answer_is : (now from : ℕ) (a : Answer) (c x : Client) (r : Result (Plan ClientNote) Memory) → x ≡ begun now c → IfOk r (λ p. p ≡ hear from a x) → IfOk r (λ p. p ≡ answer_plan c now from a)
answer_is now from a c x (Ok p) e h = h ∙ ap (hear from a) e
answer_is now from a c x (Err m) e h = h

pub answer_can : (now from : ℕ) (a : Answer) (c x : Client) (r : Result (Plan ClientNote) Memory) → IsClient c → now ≤ LATEST → x ≡ begun now c → IfOk r (λ p. p ≡ hear from a x) → IfOk r (λ p. can_change p.ready.change x ≡ true) → IfOk r (λ p. can_commit p.ready c ≡ true)
answer_can now from a c x (Ok p) i n e h k =
    can_still now c p.ready i n (ap (λ (q : Plan ClientNote). q.ready.now) h ∙ (hear_now from a x ∙ ap (λ (b : Client). b.last) e)) (ap (can_change p.ready.change) (sym e) ∙ k)
answer_can now from a c x (Err m) i n e h k = h
