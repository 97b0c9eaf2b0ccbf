-- Who says that it is over, and what makes a client so; and that what is known is answered.
use Rattle.std.proofs.Common.{◌≡◌, ℕ, ◌/◌, ◌+◌, not, ◌&&◌, Bool, true, false, List, [], ◌∷◌, cond, refl, ap, sym, ◌∙◌, subst, inl, inr}
use Rattle.std.specs.Prelude.{Option, Some, None, is_some}
use Rattle.fs_field.specs.declared.asked.Need.{Need}
use Rattle.fs_field.specs.declared.asked.Need.TheVariants as need
use Rattle.fs_ident.specs.declared.kind.Kind.{Kind}
use Rattle.fs_map.specs.Map.{Owners}
use Rattle.fs_model.specs.Sound.{is_change}
use Rattle.fs_model.specs.Step.{is_empty}
use Rattle.fs_model.specs.declared.op.Op.{Op}
use Rattle.fs_model.specs.declared.reply.Reply.{Reply}
use Rattle.fs_msg.specs.declared.act.Act.{Act}
use Rattle.fs_msg.specs.declared.act.Act.TheVariants as act
use Rattle.fs_msg.specs.declared.act.Busy.{Busy}
use Rattle.fs_msg.specs.declared.act.Busy.TheVariants as busy
use Rattle.fs_msg.specs.declared.answer.Answer.{Answer}
use Rattle.fs_msg.specs.declared.answer.Answer.TheVariants.{Granted, Renewed, Released, Shipped, Recall}
use Rattle.fs_msg.specs.declared.answer.Answer.TheVariants as answer
use Rattle.fs_msg.specs.declared.entry.Entry.{Entry}
use Rattle.fs_record.specs.Effects.{tells_its_effects}
use Rattle.fs_record.specs.declared.led_end.LedEnd.{LedEnd}
use Rattle.fs_record.specs.declared.led_end.LedEnd.TheVariants as led
use Rattle.fs_view.specs.declared.view_lease.ViewLease.{ViewLease}
use Rattle.fs_view.specs.View.{given_by, known_by, missing_in, reply_in}
use Rattle.fs_view.proofs.Walks.{replied}
use Rattle.fs_client.specs.Acts.{act_on, act_plan, answer_with, answers, answers_move, answers_plain, ask_for, asks, full_one, hinted, leads_on, leads_or_waits, need_file, reads, reads_or_waits, replies, stays, unless_led, worth}
use Rattle.fs_client.specs.Answers.{answer_plan, ended_plan, fits, hear, led_plan, strange, fitting_plan}
use Rattle.fs_client.specs.Client.{begun, changed, committed, with_hints}
use Rattle.fs_client.specs.Laws.{IsAnswered, over_told}
use Rattle.fs_client.specs.Led.{is_led, moved_known}
use Rattle.fs_client.specs.Turns.{ending, idle, release_some, renew_some, returned, ship_some, turn_free, turn_on, turn_plan}
use Rattle.fs_client.specs.declared.change.Change.{Change}
use Rattle.fs_client.specs.declared.change.Change.TheVariants as change
use Rattle.fs_client.specs.declared.led.Led.{Led}
use Rattle.fs_client.specs.declared.plan.Plan.{Plan}
use Rattle.fs_client.specs.declared.plan.Ready.{Ready}
use Rattle.fs_client.specs.declared.state.Client.{Client}

-- ## The refused entry after a change

abbrev over_in : Change → Option ℕ → Option ℕ
over_in change.Nothing over = over
over_in change.Read over = over
over_in (change.Reply entry effects) over = over
over_in (change.Ask x) over = over
over_in (change.Leave to numbers) over = over
over_in (change.Grant leases full) over = over
over_in (change.Renew ends) over = over
over_in (change.Release numbers) over = over
over_in (change.Admit count now) over = now
over_in (change.Lead to led) over = over
over_in (change.LedDone effects) over = over
over_in change.LedFreed over = over
over_in (change.Recall number) over = over

changed_over : (ch : Change) (c : Client) → (changed ch c).over ≡ over_in ch c.over
changed_over change.Nothing c = refl
changed_over change.Read c = refl
changed_over (change.Reply entry effects) c = refl
changed_over (change.Ask x) c = refl
changed_over (change.Leave to numbers) c = refl
changed_over (change.Grant leases full) c = refl
changed_over (change.Renew ends) c = refl
changed_over (change.Release numbers) c = refl
changed_over (change.Admit count now) c = refl
changed_over (change.Lead to led) c = refl
changed_over (change.LedDone effects) c = refl
changed_over change.LedFreed c = refl
changed_over (change.Recall number) c = refl

hints_over : (o : Option Owners) (c : Client) → (with_hints o c).over ≡ c.over
hints_over None c = refl
hints_over (Some hints) c = refl

committed_over : (r : Ready) (c : Client) → (committed r c).over ≡ over_in r.change c.over
committed_over r c = hints_over r.hints (changed r.change (begun r.now c)) ∙ changed_over r.change (begun r.now c)

-- ## An operation

-- it says nothing of being over, and changes nothing of that
record GoesOn (p : Plan Act) : Type 0 where
  note : (n : ℕ) → p.out.note ≡ act.Over n → ⊥
  stays : (over : Option ℕ) → over_in p.ready.change over ≡ over

waits_goes : (what : Busy) (c : Client) → GoesOn (stays (act.Busy what) c)
waits_goes what c = record { note = λ n e. absurd (cc e); stays = λ over. refl }

full_goes : (needs : List Need) (c : Client) → GoesOn (full_one needs c)
full_goes [] c = record { note = λ n e. absurd (cc e); stays = λ over. refl }
full_goes (need.Lease field kind ∷ needs) c = full_goes needs c
full_goes (need.Fresh dir ∷ needs) c = record { note = λ n e. absurd (cc e); stays = λ over. refl }

either_goes : (b : Bool) (p q : Plan Act) → GoesOn p → GoesOn q → GoesOn (cond b p q)
either_goes true p q h g = h
either_goes false p q h g = g

ask_goes : (needs wanted : List Need) (c : Client) → GoesOn (ask_for needs wanted c)
ask_goes needs [] c = full_goes needs c
ask_goes needs (n ∷ ns) c = either_goes (is_some c.exchange) (stays (act.Busy busy.Exchange) c) (asks (hinted c (need_file n)) (n ∷ ns) c) (waits_goes busy.Exchange c) (record { note = λ n e. absurd (cc e); stays = λ over. refl })

reads_go : (o : Op) (r : Reply) (c : Client) → GoesOn (reads o r c)
reads_go o r c = record { note = λ n e. absurd (cc e); stays = λ over. refl }

plain_goes : (o : Op) (r : Reply) (c : Client) → GoesOn (answers_plain o r c)
plain_goes o r c = either_goes (not (is_change r) && is_empty c.log) (reads o r c) (replies o r c) (reads_go o r c) (record { note = λ n e. absurd (cc e); stays = λ over. refl })

on_goes : (moved : Option (List ℕ × Kind)) (o : Op) (r : Reply) (c : Client) → GoesOn (leads_on moved o r c)
on_goes None o r c = record { note = λ n e. absurd (cc e); stays = λ over. refl }
on_goes (Some moved) o r c = record { note = λ n e. absurd (cc e); stays = λ over. refl }

lead_goes : (o : Op) (r : Reply) (c : Client) → GoesOn (leads_or_waits o r c)
lead_goes o r c =
    let moved = moved_known (known_by c.view c.last) o in
    let log = stays (act.Busy busy.Log) c in
    either_goes (is_some c.exchange) (stays (act.Busy busy.Exchange) c) (cond (is_empty c.log) (leads_on moved o r c) log) (waits_goes busy.Exchange c)
    (either_goes (is_empty c.log) (leads_on moved o r c) log (on_goes moved o r c) (waits_goes busy.Log c))

move_goes : (o : Op) (r : Reply) (c : Client) → GoesOn (answers_move o r c)
move_goes o r c =
    either_goes (is_led o r) (leads_or_waits o r c) (reads_or_waits o r c) (lead_goes o r c)
    (either_goes (is_empty c.log) (reads o r c) (stays (act.Busy busy.Log) c) (reads_go o r c) (waits_goes busy.Log c))

answers_go : (o : Op) (r : Reply) (c : Client) → GoesOn (answers o r c)
answers_go o r c = either_goes (tells_its_effects o) (answers_plain o r c) (answers_move o r c) (plain_goes o r c) (move_goes o r c)

with_goes : (r : Option Reply) (o : Op) (c : Client) → GoesOn (answer_with r o c)
with_goes (Some r) o c = answers_go o r c
with_goes None o c = ask_goes (missing_in c.view c.last o) (worth c.full (missing_in c.view c.last o)) c

unless_goes : (led : Option Led) (o : Op) (c : Client) → GoesOn (unless_led led o c)
unless_goes (Some l) o c = waits_goes busy.Led c
unless_goes None o c = with_goes (reply_in c.view c.last o) o c

on_over : (over : Option ℕ) (o : Op) (c : Client) (n : ℕ) → (act_on over o c).out.note ≡ act.Over n → over ≡ Some n
on_over (Some m) o c n e = let same : m ≡ n = cc e in ap Some same
on_over None o c n e = absurd ((unless_goes c.led o c).note n e)

on_stays : (over : Option ℕ) (o : Op) (c : Client) (was : Option ℕ) → over_in (act_on over o c).ready.change was ≡ was
on_stays (Some m) o c was = refl
on_stays None o c was = (unless_goes c.led o c).stays was

pub act_over : (c : Client) (now n : ℕ) (o : Op) → (act_plan c now o).out.note ≡ act.Over n → c.over ≡ Some n
act_over c now n o e = on_over c.over o (begun now c) n e

pub over_acts : (c : Client) (now n : ℕ) (o : Op) → c.over ≡ Some n → (act_plan c now o).out.note ≡ act.Over n
over_acts c now n o e = ap (λ (x : Option ℕ). (act_on x o (begun now c)).out.note) e

pub acts_stay : (c : Client) (now : ℕ) (o : Op) → (committed (act_plan c now o).ready c).over ≡ c.over
acts_stay c now o = committed_over (act_plan c now o).ready c ∙ on_stays c.over o (begun now c) c.over

-- ## A turn

abbrev Stays : {N : Type 0} → Plan N → Type 0
Stays p = (over : Option ℕ) → over_in p.ready.change over ≡ over

renew_stays : (ks : List ViewLease) (c : Client) → Stays (renew_some ks c)
renew_stays [] c = λ over. refl
renew_stays (k ∷ ks) c = λ over. refl

release_stays : (ks : List ViewLease) (c : Client) → Stays (release_some ks c)
release_stays [] c = renew_stays (ending (c.last + c.term / 2) c.view) c
release_stays (k ∷ ks) c = λ over. refl

ship_stays : (log : List Entry) (c : Client) → Stays (ship_some log c)
ship_stays [] c = λ over. refl
ship_stays (e ∷ es) c = λ over. refl

free_stays : (c : Client) → Stays (turn_free c)
free_stays c = elim (not (is_empty c.log) && not (is_some c.over)) as (λ b. Stays (cond b (ship_some c.log c) (release_some (returned c.view) c))) [ true ↦ ship_stays c.log c | false ↦ release_stays (returned c.view) c ]

turned_stays : (c : Client) → Stays (turn_on c)
turned_stays c = elim (is_some c.exchange) as (λ b. Stays (cond b (idle c) (turn_free c))) [ true ↦ (λ over. refl) | false ↦ free_stays c ]

pub turns_stay : (c : Client) (now : ℕ) → (committed (turn_plan c now).ready c).over ≡ c.over
turns_stay c now = committed_over (turn_plan c now).ready c ∙ turned_stays (begun now c) c.over

-- ## An answer

ended_over : (l : Led) (e : LedEnd) (c : Client) → over_in (ended_plan l e c).ready.change c.over ≡ over_told (ended_plan l e c).out.note c.over
ended_over l (led.Done r) c = refl
ended_over l (led.Ended lease until now) c = refl
ended_over l (led.Again why) c = refl

led_over : (o : Option Led) (e : LedEnd) (c : Client) → over_in (led_plan o e c).ready.change c.over ≡ over_told (led_plan o e c).out.note c.over
led_over None e c = refl
led_over (Some l) e c = ended_over l e c

told_over : (a : Answer) (c : Client) → over_in (fitting_plan a c).ready.change c.over ≡ over_told (fitting_plan a c).out.note c.over
told_over (Granted grants fresh e) c = refl
told_over (Renewed rows e) c = refl
told_over (Released count e) c = refl
told_over (Shipped count e) c = refl
told_over (answer.Led e) c = led_over c.led e c
told_over (Recall number) c = refl

heard_over : (from : ℕ) (a : Answer) (c : Client) → over_in (hear from a c).ready.change c.over ≡ over_told (hear from a c).out.note c.over
heard_over from a c = elim (fits from c.exchange a c) as (λ b. over_in (cond b (fitting_plan a c) (strange c)).ready.change c.over ≡ over_told (cond b (fitting_plan a c) (strange c)).out.note c.over) [ true ↦ told_over a c | false ↦ refl ]

pub answers_tell : (c : Client) (now from : ℕ) (a : Answer) → (committed (answer_plan c now from a).ready c).over ≡ over_told (answer_plan c now from a).out.note c.over
answers_tell c now from a = committed_over (answer_plan c now from a).ready c ∙ heard_over from a (begun now c)

-- ## What is known

answered_plainly : (o : Op) (r : Reply) (c : Client) → reply_in c.view c.last o ≡ Some r → IsAnswered c o (answers_plain o r c)
answered_plainly o r c e = elim (not (is_change r) && is_empty c.log) as (λ b. IsAnswered c o (cond b (reads o r c) (replies o r c))) [
  | true ↦ record { reply = r; known = e; told = inr refl; silent = refl }
  | false ↦ record { reply = r; known = e; told = inl refl; silent = refl }
]

answered_by : (o : Op) (r : Reply) (c : Client) → tells_its_effects o ≡ true → reply_in c.view c.last o ≡ Some r → IsAnswered c o (answers o r c)
answered_by o r c plain e = subst (λ b. IsAnswered c o (cond b (answers_plain o r c) (answers_move o r c))) (sym plain) (answered_plainly o r c e)

answered_with : (r : Option Reply) (o : Op) (c : Client) → tells_its_effects o ≡ true → missing_in c.view c.last o ≡ [] → reply_in c.view c.last o ≡ r → IsAnswered c o (answer_with r o c)
answered_with (Some r) o c plain none e = answered_by o r c plain e
answered_with None o c plain none e = absurd (replied (known_by c.view c.last) (given_by c.view c.last) o none e)

answered_unless : (led : Option Led) (o : Op) (c : Client) → tells_its_effects o ≡ true → led ≡ None → missing_in c.view c.last o ≡ [] → IsAnswered c o (unless_led led o c)
answered_unless (Some l) o c plain unled none = absurd (cc)
answered_unless None o c plain unled none = answered_with (reply_in c.view c.last o) o c plain none refl

pub answered_at_once : (c : Client) (now : ℕ) (o : Op) → tells_its_effects o ≡ true → c.over ≡ None → c.led ≡ None → missing_in (begun now c).view (begun now c).last o ≡ [] → IsAnswered (begun now c) o (act_plan c now o)
answered_at_once c now o plain over unled none =
    subst (λ (x : Option ℕ). IsAnswered (begun now c) o (act_on x o (begun now c))) (sym over) (answered_unless c.led o (begun now c) plain unled none)
