-- Grants that fit the question are leases that can come.
use Rattle.std.proofs.Common.{◌≡◌, ℕ, ◌+◌, ◌<◌, Bool, true, false, not, ◌&&◌, ◌||◌, List, [], ◌∷◌, ◌++◌, append-nil, append_assoc, refl, ap, sym, ◌∙◌, get_or, length, take}
use Rattle.std.specs.Prelude.{Option, Some, None, Result, Ok, Err, IfOk, is_some}
use Rattle.fs_ident.specs.declared.memory.Memory.{Memory}
use Rattle.fs_msg.specs.declared.client_note.ClientNote.{ClientNote}
use Rattle.fs_client.specs.declared.plan.Plan.{Plan}
use Rattle.std.specs.List.{list_any}
use Rattle.std.proofs.lemmas.List.{take_more, map-append}
use Rattle.std.proofs.Math.Bool.{or_assoc, or-false}
use Rattle.fs_ident.specs.declared.actor.LeaseNo.{LeaseNo}
use Rattle.fs_ident.proofs.Booleans.{both}
use Rattle.fs_field.specs.declared.field.Field.{Field}
use Rattle.fs_field.specs.declared.field.Field.TheVariants.{Life}
use Rattle.fs_field.specs.declared.lease_kind.LeaseKind.{LeaseKind}
use Rattle.fs_field.specs.declared.lease_kind.LeaseKind.TheVariants.{Exclusive}
use Rattle.fs_field.specs.Table.{same_no}
use Rattle.fs_field.specs.Value.{is_value_of}
use Rattle.fs_msg.specs.declared.answer.Answer.{Answer}
use Rattle.fs_msg.specs.declared.answer.Answer.TheVariants.{Granted, Renewed, Released, Shipped, Recall}
use Rattle.fs_msg.specs.declared.answer.Answer.TheVariants as answer
use Rattle.fs_msg.specs.declared.answer.Grant.{Grant}
use Rattle.fs_record.specs.declared.led_end.LedEnd.{LedEnd}
use Rattle.fs_record.specs.declared.led_end.LedEnd.TheVariants as led
use Rattle.fs_view.specs.declared.view_lease.ViewLease.{ViewLease}
use Rattle.fs_view.specs.ViewLease.{has_number}
use Rattle.fs_view.specs.View.{can_grant_all, kept_new}
use Rattle.fs_client.specs.declared.exchange.Exchange.{Exchange}
use Rattle.fs_client.specs.declared.exchange.Exchange.TheVariants.{Asks, Renews, Releases, Ships, Leads}
use Rattle.fs_client.specs.declared.led.Led.{Led}
use Rattle.fs_client.specs.declared.state.Client.{Client}
use Rattle.fs_client.specs.Answers.{ended_plan, fits, front_fits, grants_fit, is_new, is_of_item, lease_in, leases_in, led_plan, life_last, fitting_plan}
use Rattle.fs_client.specs.Client.{IsClient, can_change, has_number_left}

pub leases_step : (fresh : Option (List ℕ)) (gs : List Grant) (i : ℕ) (d : Grant) → i < length gs → leases_in fresh (take (i + 1) gs) ≡ leases_in fresh (take i gs) ++ lease_in fresh (get_or gs i d) ∷ []
leases_step fresh gs i d h = rw (take_more gs i d h) (map-append (lease_in fresh) (take i gs) (get_or gs i d ∷ []))

-- ## Numbers that are new

-- the leases with those that these grants bring
abbrev pub kept_with : Option (List ℕ) → List ViewLease → List Grant → List ViewLease
kept_with fresh leases [] = leases
kept_with fresh leases (g ∷ gs) = kept_with fresh (leases ++ kept_new (lease_in fresh g) ∷ []) gs

any_one : (f : ViewLease → Bool) (xs : List ViewLease) (x : ViewLease) → list_any f (xs ++ x ∷ []) ≡ (list_any f xs || f x)
any_one f [] x = or-false (f x)
any_one f (y ∷ xs) x = ap (λ b. f y || b) (any_one f xs x) ∙ sym (or_assoc (f y) (list_any f xs) (f x))

abbrev pub has_no_of : LeaseNo → Grant → Bool
has_no_of n b = same_no b.no n

any_kept : (fresh : Option (List ℕ)) (n : LeaseNo) (leases : List ViewLease) (before : List Grant) → list_any (has_number n) (kept_with fresh leases before) ≡ (list_any (has_number n) leases || list_any (has_no_of n) before)
any_kept fresh n leases [] = sym (or-false (list_any (has_number n) leases))
any_kept fresh n leases (g ∷ gs) =
    any_kept fresh n (leases ++ kept_new (lease_in fresh g) ∷ []) gs
    ∙ ap (λ b. b || list_any (has_no_of n) gs) (any_one (has_number n) leases (kept_new (lease_in fresh g)))
    ∙ or_assoc (list_any (has_number n) leases) (same_no g.no n) (list_any (has_no_of n) gs)

more_kept : (fresh : Option (List ℕ)) (leases : List ViewLease) (before : List Grant) (g : Grant) → kept_with fresh leases (before ++ g ∷ []) ≡ kept_with fresh leases before ++ kept_new (lease_in fresh g) ∷ []
more_kept fresh leases [] g = refl
more_kept fresh leases (b ∷ bs) g = more_kept fresh (leases ++ kept_new (lease_in fresh b) ∷ []) bs g

-- ## Tests that pass

neither : (a b : Bool) → (not a && not b) ≡ true → not (a || b) ≡ true
neither true b h = absurd (cc)
neither false b h = h

-- a grant that fits is a lease that can come
can_one : (fresh : Option (List ℕ)) (item : Field × LeaseKind) (leases : List ViewLease) (before : List Grant) (g : Grant) (rest : Bool) → is_of_item item g ≡ true → is_new leases before g ≡ true → rest ≡ true
    → ((is_value_of g.field g.value && not (list_any (has_number g.no) (kept_with fresh leases before))) && rest) ≡ true
can_one fresh item leases before g rest p q r =
    let value : is_value_of g.field g.value ≡ true = (both _ _ p).1 in
    let new : not (list_any (has_number g.no) (kept_with fresh leases before)) ≡ true = ap not (any_kept fresh g.no leases before) ∙ neither (list_any (has_number g.no) leases) (list_any (has_no_of g.no) before) q in
    ap (λ b. (b && not (list_any (has_number g.no) (kept_with fresh leases before))) && rest) value ∙ ap (λ b. b && rest) new ∙ r

-- grants of items at the front, and what comes behind them
front_can : (items : List (Field × LeaseKind)) (given : Option (List ℕ)) (leases : List ViewLease) (before gs rest : List Grant) → front_fits items leases before gs ≡ true → can_grant_all (leases_in given rest) (kept_with given leases (before ++ gs)) ≡ true
    → can_grant_all (leases_in given (gs ++ rest)) (kept_with given leases before) ≡ true
front_can items given leases before [] rest h more = ap (λ gs. can_grant_all (leases_in given rest) (kept_with given leases gs)) (sym (append-nil before)) ∙ more
front_can [] given leases before (g ∷ gs) rest h more = absurd (cc)
front_can (x ∷ xs) given leases before (g ∷ gs) rest h more =
    let p = both _ _ h in
    let q = both _ _ p.0 in
    let behind : can_grant_all (leases_in given rest) (kept_with given leases ((before ++ g ∷ []) ++ gs)) ≡ true = ap (λ fs. can_grant_all (leases_in given rest) (kept_with given leases fs)) (append_assoc before (g ∷ []) gs) ∙ more in
    can_one given x leases before g _ q.0 q.1 (ap (λ ks. can_grant_all (leases_in given (gs ++ rest)) ks) (sym (more_kept given leases before g)) ∙ front_can xs given leases (before ++ g ∷ []) gs rest p.1 behind)

last_can : (items : List (Field × LeaseKind)) (id : List ℕ) (given : Option (List ℕ)) (leases : List ViewLease) (front gs : List Grant) → life_last items id leases front gs ≡ true → can_grant_all (leases_in given (front ++ gs)) leases ≡ true
last_can items id given leases front [] h = absurd (cc)
last_can items id given leases front (g ∷ []) h =
    let p = both _ _ h in
    let q = both _ _ p.1 in
    front_can items given leases [] front (g ∷ []) p.0 (can_one given (Life id, Exclusive) leases front g true q.0 q.1 refl)
last_can items id given leases front (g ∷ k ∷ gs) h = ap (λ fs. can_grant_all (leases_in given fs) leases) (sym (append_assoc front (g ∷ []) (k ∷ gs))) ∙ last_can items id given leases (front ++ g ∷ []) (k ∷ gs) h

grants_can : (items : List (Field × LeaseKind)) (given fresh : Option (List ℕ)) (leases : List ViewLease) (gs : List Grant) → grants_fit items fresh leases gs ≡ true → can_grant_all (leases_in given gs) leases ≡ true
grants_can items given None leases gs h = ap (λ fs. can_grant_all (leases_in given fs) leases) (sym (append-nil gs)) ∙ front_can items given leases [] gs [] h refl
grants_can items given (Some id) leases gs h = last_can items id given leases [] gs h

-- ## What an answer that fits changes

ended_can : (l : Led) (e : LedEnd) (c : Client) → has_number_left c ≡ true → can_change (ended_plan l e c).ready.change c ≡ true
ended_can l (led.Done r) c h = h
ended_can l (led.Ended lease until now) c h = refl
ended_can l (led.Again why) c h = refl

led_can : (o : Option Led) (e : LedEnd) (c : Client) → (is_some o ≡ true → has_number_left c ≡ true) → can_change (led_plan o e c).ready.change c ≡ true
led_can None e c h = refl
led_can (Some l) e c h = ended_can l e c (h refl)

pub fits_can : (from : ℕ) (x : Option Exchange) (a : Answer) (c : Client) → IsClient c → fits from x a c ≡ true → can_change (fitting_plan a c).ready.change c ≡ true
fits_can from x (Recall number) c i h = refl
fits_can from x (Renewed rows e) c i h = refl
fits_can from x (Released count e) c i h = refl
fits_can from x (Shipped count e) c i h = refl
fits_can from x (answer.Led e) c i h = led_can c.led e c i.led
fits_can from None (Granted gs given e) c i h = absurd (cc)
fits_can from (Some (Asks to items asked)) (Granted gs given e) c i h = grants_can items given given c.view.leases gs (both _ _ (both _ _ h).1).1
fits_can from (Some (Renews to numbers)) (Granted gs given e) c i h = absurd (cc)
fits_can from (Some (Releases to numbers)) (Granted gs given e) c i h = absurd (cc)
fits_can from (Some (Ships to count)) (Granted gs given e) c i h = absurd (cc)
fits_can from (Some (Leads to)) (Granted gs given e) c i h = absurd (cc)

pub ok_can : (r : Result (Plan ClientNote) Memory) (q : Plan ClientNote) (c : Client) → IfOk r (λ p. p ≡ q) → can_change q.ready.change c ≡ true → IfOk r (λ p. can_change p.ready.change c ≡ true)
ok_can (Ok p) q c e h = ap (λ (x : Plan ClientNote). can_change x.ready.change c) e ∙ h
ok_can (Err m) q c e h = tt
