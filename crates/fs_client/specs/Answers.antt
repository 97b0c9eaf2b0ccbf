-- What a client does with an answer.
use Rattle.std.specs.Prelude.{ℕ, zero, suc, Bool, true, false, not, ◌&&◌, ◌==◌, nat_le, List, [], ◌∷◌, ◌++◌, length, take, map, Option, Some, None, if◌then◌else◌}
use Rattle.std.specs.List.{list_any}
use Rattle.fs_ident.specs.Ident.{parent}
use Rattle.fs_ident.specs.declared.actor.LeaseNo.{LeaseNo}
use Rattle.fs_field.specs.declared.field.Field.{Field}
use Rattle.fs_field.specs.declared.field.Field.TheVariants.{Life}
use Rattle.fs_field.specs.declared.lease_kind.LeaseKind.{LeaseKind}
use Rattle.fs_field.specs.declared.lease_kind.LeaseKind.TheVariants.{Exclusive}
use Rattle.fs_field.specs.Field.{same_field}
use Rattle.fs_field.specs.Table.{same_no, same_kind, is_parent}
use Rattle.fs_field.specs.Value.{is_value_of}
use Rattle.fs_map.specs.Lists.{map_after_hint}
use Rattle.fs_map.specs.Map.{Owners}
use Rattle.fs_msg.specs.declared.answer.Answer.{Answer}
use Rattle.fs_msg.specs.declared.answer.Answer.TheVariants.{Granted, Renewed, Released, Shipped, Recall}
use Rattle.fs_msg.specs.declared.answer.Answer.TheVariants as answer
use Rattle.fs_msg.specs.declared.answer.Grant.{Grant}
use Rattle.fs_msg.specs.declared.client_note.ClientNote.{ClientNote}
use Rattle.fs_msg.specs.declared.client_note.ClientNote.TheVariants as note
use Rattle.fs_msg.specs.declared.end.End.{End}
use Rattle.fs_msg.specs.declared.end.End.TheVariants as end
use Rattle.fs_msg.specs.declared.entry.Entry.{Entry}
use Rattle.fs_record.specs.declared.led_end.LedEnd.{LedEnd}
use Rattle.fs_record.specs.declared.led_end.LedEnd.TheVariants as led
use Rattle.fs_view.specs.declared.view_lease.ViewLease.{ViewLease}
use Rattle.fs_view.specs.declared.new_lease.NewLease.{NewLease}
use Rattle.fs_view.specs.ViewLease.{has_number}
use Rattle.fs_client.specs.declared.change.Change.{Change}
use Rattle.fs_client.specs.declared.change.Change.TheVariants as change
use Rattle.fs_client.specs.declared.exchange.Exchange.{Exchange}
use Rattle.fs_client.specs.declared.exchange.Exchange.TheVariants.{Asks, Renews, Releases, Ships, Leads}
use Rattle.fs_client.specs.declared.led.Led.{Led}
use Rattle.fs_client.specs.declared.plan.Plan.{Plan}
use Rattle.fs_client.specs.declared.state.Client.{Client}
use Rattle.fs_client.specs.Client.{begun}
use Rattle.fs_client.specs.Acts.{only_noted}
use Rattle.fs_client.specs.Led.{effects_of_led, end_fits, hints_again}

-- ## Which answers fit

-- the grant is of this item, with a value of its field
abbrev pub is_of_item : Field × LeaseKind → Grant → Bool
is_of_item item g = (same_field g.field item.0 && same_kind g.kind item.1) && is_value_of g.field g.value

-- no lease has the number, and none of these grants
abbrev pub is_new : List ViewLease → List Grant → Grant → Bool
is_new leases before g = not (list_any (has_number g.no) leases) && not (list_any (λ (b : Grant). same_no b.no g.no) before)

-- the grants are of the items at the front, in order
abbrev pub front_fits : List (Field × LeaseKind) → List ViewLease → List Grant → List Grant → Bool
front_fits items leases before [] = true
front_fits [] leases before (g ∷ gs) = false
front_fits (x ∷ xs) leases before (g ∷ gs) = (is_of_item x g && is_new leases before g) && front_fits xs leases (before ++ g ∷ []) gs

-- the last of the grants is the exclusive lease on the new file's life, and those before it are of the items at the front
abbrev pub life_last : List (Field × LeaseKind) → List ℕ → List ViewLease → List Grant → List Grant → Bool
life_last items id leases front [] = false
life_last items id leases front (g ∷ []) = front_fits items leases [] front && (is_of_item (Life id, Exclusive) g && is_new leases front g)
life_last items id leases front (g ∷ h ∷ gs) = life_last items id leases (front ++ g ∷ []) (h ∷ gs)

-- the grants are of the items at the front, and behind them, where an identifier came, of that file's life
abbrev pub grants_fit : List (Field × LeaseKind) → Option (List ℕ) → List ViewLease → List Grant → Bool
grants_fit items None leases gs = front_fits items leases [] gs
grants_fit items (Some id) leases gs = life_last items id leases [] gs

-- an identifier comes only below the directory that was named
abbrev pub fresh_fits : Option (List ℕ) → Option (List ℕ) → Bool
fresh_fits asked None = true
fresh_fits None (Some id) = false
fresh_fits (Some dir) (Some id) = is_parent dir (parent id)

-- the numbers are those at the front of the ones that were sent
abbrev pub begins_numbers : List LeaseNo → List LeaseNo → Bool
begins_numbers sent [] = true
begins_numbers [] (n ∷ ns) = false
begins_numbers (s ∷ ss) (n ∷ ns) = same_no s n && begins_numbers ss ns

-- the entry at the place has the number
abbrev pub is_entry_at : ℕ → ℕ → List Entry → Bool
is_entry_at n k [] = false
is_entry_at n zero (e ∷ es) = e.n == n
is_entry_at n (suc k) (e ∷ es) = is_entry_at n k es

-- a refused entry is the one behind those that were admitted, of these that were handed in
abbrev pub refusal_fits : End → ℕ → List Entry → Bool
refusal_fits (end.Ended n lease until now) count sent = is_entry_at n count sent
refusal_fits e count sent = true

abbrev pub answer_fits : ℕ → Exchange → Answer → Client → Bool
answer_fits from (Asks to items fresh) (Granted grants given e) c =
    (to == from) && (fresh_fits fresh given && grants_fit items given c.view.leases grants)
answer_fits from (Renews to numbers) (Renewed rows e) c =
    (to == from) && begins_numbers numbers (map (λ (r : LeaseNo × Option ℕ). r.0) rows)
answer_fits from (Releases to numbers) (Released count e) c = (to == from) && nat_le count (length numbers)
answer_fits from (Ships to sent) (Shipped count e) c = (to == from) && (nat_le count sent && refusal_fits e count (take sent c.log))
answer_fits from (Leads to) (answer.Led e) c = (to == from) && end_fits c.led e
answer_fits from x a c = false

-- an answer fits the exchange that stands; a recall always fits
abbrev pub fits : ℕ → Option Exchange → Answer → Client → Bool
fits from x (Recall number) c = true
fits from None a c = false
fits from (Some x) a c = answer_fits from x a c

-- ## What an answer changes

-- the directory for which the identifier of the field's file was given
abbrev pub below_field : Option (List ℕ) → Field → Option (List ℕ)
below_field None field = None
below_field (Some id) field = if same_field field (Life id) then parent id else None

abbrev pub below_of : Option (List ℕ) → Grant → Option (List ℕ)
below_of fresh g = below_field fresh g.field

abbrev pub lease_in : Option (List ℕ) → Grant → NewLease
lease_in fresh g = record { no = g.no; field = g.field; kind = g.kind; until = g.until; value = g.value; below = below_of fresh g }

abbrev pub leases_in : Option (List ℕ) → List Grant → List NewLease
leases_in fresh gs = map (lease_in fresh) gs

-- the directory that has no number left
abbrev pub full_told : End → Option (List ℕ)
full_told (end.NoIds dir) = Some dir
full_told e = None

abbrev pub over_after : End → Option ℕ → Option ℕ
over_after (end.Ended n lease until now) over = Some n
over_after e over = over

abbrev pub numbers_sent : Option Exchange → List LeaseNo
numbers_sent (Some (Releases to numbers)) = numbers
numbers_sent x = []

-- the answer ends where another server is said to manage what is next
abbrev pub hints_told : End → Owners → Option Owners
hints_told (end.Moved prefix to) hints = Some (map_after_hint hints prefix to)
hints_told e hints = None

-- the change, and what is said
abbrev pub noted_with : Change → End → ClientNote → Client → Plan ClientNote
noted_with ch e n c = record {
  ready = record { now = c.last; change = ch; hints = hints_told e c.hints };
  out = record { note = n; send = None; admitted = None };
}

abbrev pub granted_plan : List Grant → Option (List ℕ) → End → Client → Plan ClientNote
granted_plan gs fresh e c = noted_with (change.Grant (leases_in fresh gs) (full_told e)) e (note.Granted (length gs) e) c

abbrev pub renewed_plan : List (LeaseNo × Option ℕ) → End → Client → Plan ClientNote
renewed_plan rows e c = noted_with (change.Renew rows) e (note.Renewed (length rows) e) c

abbrev pub released_plan : ℕ → End → Client → Plan ClientNote
released_plan count e c = noted_with (change.Release (take count (numbers_sent c.exchange))) e (note.Released count e) c

abbrev pub shipped_plan : ℕ → End → Client → Plan ClientNote
shipped_plan count e c = noted_with (change.Admit count (over_after e c.over)) e (note.Shipped count e) c

-- an answer that fits no question changes no more than any event does
abbrev pub strange : Client → Plan ClientNote
strange c = only_noted change.Nothing note.Strange c

-- what was led is done, or refused, or may be asked for again
abbrev pub ended_plan : Led → LedEnd → Client → Plan ClientNote
ended_plan l (led.Done r) c = only_noted (change.LedDone (effects_of_led l r)) (note.Led l.entry.n r) c
ended_plan l (led.Ended lease until now) c = only_noted change.LedFreed (note.LedEnded lease until now) c
ended_plan l (led.Again why) c = record {
  ready = record { now = c.last; change = change.LedFreed; hints = hints_again why c.hints };
  out = record { note = note.LedAgain why; send = None; admitted = None };
}

abbrev pub led_plan : Option Led → LedEnd → Client → Plan ClientNote
led_plan None e c = strange c
led_plan (Some l) e c = ended_plan l e c

-- an answer that fits; all but a recall end the exchange
abbrev pub fitting_plan : Answer → Client → Plan ClientNote
fitting_plan (Granted gs fresh e) c = granted_plan gs fresh e c
fitting_plan (Renewed rows e) c = renewed_plan rows e c
fitting_plan (Released count e) c = released_plan count e c
fitting_plan (Shipped count e) c = shipped_plan count e c
fitting_plan (answer.Led e) c = led_plan c.led e c
fitting_plan (Recall number) c = only_noted (change.Recall number) (note.Recall number) c

abbrev pub hear : ℕ → Answer → Client → Plan ClientNote
hear from a c = if fits from c.exchange a c then fitting_plan a c else strange c

abbrev pub answer_plan : Client → ℕ → ℕ → Answer → Plan ClientNote
answer_plan c now from a = hear from a (begun now c)
