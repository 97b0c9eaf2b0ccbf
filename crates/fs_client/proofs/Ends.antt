-- What ends an operation that is led, and what uses its number up.
use Rattle.std.proofs.Common.{◌≡◌, ℕ, ◌+◌, ◌/◌, not, ◌&&◌, Bool, true, false, List, [], ◌∷◌, cond, refl, ap, sym, ◌∙◌}
use Rattle.std.specs.Prelude.{Option, Some, None, is_some}
use Rattle.fs_map.specs.Map.{Owners}
use Rattle.fs_model.specs.Step.{is_empty}
use Rattle.fs_model.specs.declared.op.Op.{Op}
use Rattle.fs_msg.specs.declared.answer.Answer.{Answer}
use Rattle.fs_msg.specs.declared.answer.Answer.TheVariants.{Granted, Renewed, Released, Shipped, Recall}
use Rattle.fs_msg.specs.declared.answer.Answer.TheVariants as answer
use Rattle.fs_msg.specs.declared.client_note.ClientNote.{ClientNote}
use Rattle.fs_msg.specs.declared.entry.Entry.{Entry}
use Rattle.fs_record.specs.declared.led_end.LedEnd.{LedEnd}
use Rattle.fs_record.specs.declared.led_end.LedEnd.TheVariants as led
use Rattle.fs_view.specs.declared.view_lease.ViewLease.{ViewLease}
use Rattle.fs_client.specs.Acts.{act_on, act_plan, unless_led}
use Rattle.fs_client.specs.Answers.{answer_plan, ended_plan, fits, hear, led_plan, strange, fitting_plan}
use Rattle.fs_client.specs.Client.{begun, changed, committed, with_hints}
use Rattle.fs_client.specs.Laws.{led_told, next_told}
use Rattle.fs_client.specs.Turns.{ending, idle, release_some, renew_some, returned, ship_some, turn_free, turn_on, turn_plan}
use Rattle.fs_client.specs.declared.change.Change.{Change}
use Rattle.fs_client.specs.declared.change.Change.TheVariants as change
use Rattle.fs_client.specs.declared.led.Led.{Led}
use Rattle.fs_client.specs.declared.plan.Plan.{Plan}
use Rattle.fs_client.specs.declared.plan.Ready.{Ready}
use Rattle.fs_client.specs.declared.state.Client.{Client}
use Rattle.fs_client.proofs.Keeping.{admitted_leaves}

-- ## What is led and the next number after a change

abbrev led_in : Change → Option Led → Option Led
led_in (change.Lead to led) was = Some led
led_in (change.LedDone effects) was = None
led_in change.LedFreed was = None
led_in ch was = was

abbrev next_in : Change → ℕ → ℕ
next_in change.Read n = n + 1
next_in (change.Reply entry effects) n = n + 1
next_in (change.LedDone effects) n = n + 1
next_in ch n = n

-- what is led in the one, and its next number, are these
abbrev Has : Client → Option Led → ℕ → Type 0
Has c led next = (c.led ≡ led) × (c.next ≡ next)

changed_has : (ch : Change) (c : Client) → Has (changed ch c) (led_in ch c.led) (next_in ch c.next)
changed_has change.Nothing c = (refl, refl)
changed_has change.Read c = (refl, refl)
changed_has (change.Reply entry effects) c = (refl, refl)
changed_has (change.Ask x) c = (refl, refl)
changed_has (change.Leave to numbers) c = (refl, refl)
changed_has (change.Grant leases full) c = (refl, refl)
changed_has (change.Renew ends) c = (refl, refl)
changed_has (change.Release numbers) c = (refl, refl)
changed_has (change.Admit count over) c = admitted_leaves count c
changed_has (change.Lead to led) c = (refl, refl)
changed_has (change.LedDone effects) c = (refl, refl)
changed_has change.LedFreed c = (refl, refl)
changed_has (change.Recall number) c = (refl, refl)

hinted_has : (o : Option Owners) (c : Client) → Has (with_hints o c) c.led c.next
hinted_has None c = (refl, refl)
hinted_has (Some hints) c = (refl, refl)

committed_has : (r : Ready) (c : Client) → Has (committed r c) (led_in r.change c.led) (next_in r.change c.next)
committed_has r c =
    let h = hinted_has r.hints (changed r.change (begun r.now c)) in
    let k = changed_has r.change (begun r.now c) in
    (h.0 ∙ k.0, h.1 ∙ k.1)

-- ## Changes that leave both

abbrev Leaves : Change → Type 0
Leaves ch = ((led : Option Led) → led_in ch led ≡ led) × ((n : ℕ) → next_in ch n ≡ n)

left : (r : Ready) (c : Client) → Leaves r.change → Has (committed r c) c.led c.next
left r c h = let k = committed_has r c in (k.0 ∙ h.0 c.led, k.1 ∙ h.1 c.next)

-- ## An operation

unless_leaves : (o : Op) (c : Client) (led : Option Led) (l : Led) → led ≡ Some l → Leaves (unless_led led o c).ready.change
unless_leaves o c None l e = absurd (cc)
unless_leaves o c (Some k) l e = ((λ led. refl), (λ n. refl))

on_leaves : (over : Option ℕ) (o : Op) (c : Client) (l : Led) → c.led ≡ Some l → Leaves (act_on over o c).ready.change
on_leaves (Some n) o c l e = ((λ led. refl), (λ n. refl))
on_leaves None o c l e = unless_leaves o c c.led l e

pub acts_leave : (c : Client) (now : ℕ) (o : Op) (l : Led) → c.led ≡ Some l → ((committed (act_plan c now o).ready c).led ≡ c.led) × ((committed (act_plan c now o).ready c).next ≡ c.next)
acts_leave c now o l e = left (act_plan c now o).ready c (on_leaves c.over o (begun now c) l e)

-- ## A turn

either_leaves : (b : Bool) (p q : Plan ClientNote) → Leaves p.ready.change → Leaves q.ready.change → Leaves (cond b p q).ready.change
either_leaves true p q h g = h
either_leaves false p q h g = g

renew_leaves : (ks : List ViewLease) (c : Client) → Leaves (renew_some ks c).ready.change
renew_leaves [] c = ((λ led. refl), (λ n. refl))
renew_leaves (k ∷ ks) c = ((λ led. refl), (λ n. refl))

release_leaves : (ks : List ViewLease) (c : Client) → Leaves (release_some ks c).ready.change
release_leaves [] c = renew_leaves (ending (c.last + c.term / 2) c.view) c
release_leaves (k ∷ ks) c = ((λ led. refl), (λ n. refl))

ship_leaves : (log : List Entry) (c : Client) → Leaves (ship_some log c).ready.change
ship_leaves [] c = ((λ led. refl), (λ n. refl))
ship_leaves (e ∷ es) c = ((λ led. refl), (λ n. refl))

turned_leaves : (c : Client) → Leaves (turn_on c).ready.change
turned_leaves c =
    either_leaves (is_some c.exchange) (idle c) (turn_free c) ((λ led. refl), (λ n. refl))
    (either_leaves (not (is_empty c.log) && not (is_some c.over)) (ship_some c.log c) (release_some (returned c.view) c) (ship_leaves c.log c) (release_leaves (returned c.view) c))

pub turns_leave : (c : Client) (now : ℕ) → ((committed (turn_plan c now).ready c).led ≡ c.led) × ((committed (turn_plan c now).ready c).next ≡ c.next)
turns_leave c now = left (turn_plan c now).ready c (turned_leaves (begun now c))

-- ## An answer

-- both are as the note tells
abbrev Tells : Plan ClientNote → Type 0
Tells p = ((led : Option Led) → led_in p.ready.change led ≡ led_told p.out.note led) × ((n : ℕ) → next_in p.ready.change n ≡ next_told p.out.note n)

ended_tells : (l : Led) (e : LedEnd) (c : Client) → Tells (ended_plan l e c)
ended_tells l (led.Done r) c = ((λ led. refl), (λ n. refl))
ended_tells l (led.Ended lease until now) c = ((λ led. refl), (λ n. refl))
ended_tells l (led.Again why) c = ((λ led. refl), (λ n. refl))

led_tells : (o : Option Led) (e : LedEnd) (c : Client) → Tells (led_plan o e c)
led_tells None e c = ((λ led. refl), (λ n. refl))
led_tells (Some l) e c = ended_tells l e c

told_tells : (a : Answer) (c : Client) → Tells (fitting_plan a c)
told_tells (Granted grants fresh e) c = ((λ led. refl), (λ n. refl))
told_tells (Renewed rows e) c = ((λ led. refl), (λ n. refl))
told_tells (Released count e) c = ((λ led. refl), (λ n. refl))
told_tells (Shipped count e) c = ((λ led. refl), (λ n. refl))
told_tells (answer.Led e) c = led_tells c.led e c
told_tells (Recall number) c = ((λ led. refl), (λ n. refl))

heard_tells : (from : ℕ) (a : Answer) (c : Client) → Tells (hear from a c)
heard_tells from a c = elim (fits from c.exchange a c) as (λ b. Tells (cond b (fitting_plan a c) (strange c))) [ true ↦ told_tells a c | false ↦ ((λ led. refl), (λ n. refl)) ]

pub answers_end : (c : Client) (now from : ℕ) (a : Answer) → ((committed (answer_plan c now from a).ready c).led ≡ led_told (answer_plan c now from a).out.note c.led) × ((committed (answer_plan c now from a).ready c).next ≡ next_told (answer_plan c now from a).out.note c.next)
answers_end c now from a =
    let k = committed_has (answer_plan c now from a).ready c in
    let h = heard_tells from a (begun now c) in
    (k.0 ∙ h.0 c.led, k.1 ∙ h.1 c.next)
