-- Turns of a client.
use Rattle.std.proofs.Common.{◌≡◌, ℕ, ◌+◌, ◌/◌, ◌<◌, Bool, true, false, List, [], ◌∷◌, ◌++◌, suc, refl, ap, cond, length, get_or, take, drop, map, sym, append-nil, append_assoc, ◌∙◌}
use Rattle.std.specs.Prelude.{Option, Some, None, is_some, not, ◌&&◌, ◌==◌}
use Rattle.std.specs.List.{filter, slice_get}
use Rattle.std.proofs.lemmas.List.{take_more, drop_more, map-append}
use Rattle.fs_ident.specs.declared.actor.LeaseNo.{LeaseNo}
use Rattle.fs_model.specs.Step.{is_empty}
use Rattle.fs_msg.specs.declared.client_msg.ClientMsg.TheVariants as client
use Rattle.fs_msg.specs.declared.client_note.ClientNote.{ClientNote}
use Rattle.fs_msg.specs.declared.client_note.ClientNote.TheVariants as note
use Rattle.fs_view.specs.declared.view_lease.ViewLease.{ViewLease}
use Rattle.fs_client.specs.declared.change.Change.TheVariants as change
use Rattle.fs_client.specs.declared.exchange.Exchange.TheVariants as exchange
use Rattle.fs_client.specs.declared.plan.Plan.{Plan}
use Rattle.fs_client.specs.declared.state.Client.{Client}
use Rattle.fs_msg.specs.declared.entry.Entry.{Entry}
use Rattle.fs_model.specs.Asking.{home_of}
use Rattle.fs_client.specs.Acts.{hinted}
use Rattle.fs_client.specs.Client.{can_change}
use Rattle.fs_client.specs.Turns.{ending, entries_at, idle, kept_at, numbers_in, pair_of, release_some, releases, renew_some, renews, returned, sends, ship_some, turn_free, turn_on}

pub numbers_step : (pairs : List (List ℕ × LeaseNo)) (i : ℕ) (d : List ℕ × LeaseNo) → i < length pairs → map (λ pair. pair.1) (take (i + 1) pairs) ≡ map (λ pair. pair.1) (take i pairs) ++ (get_or pairs i d).1 ∷ []
numbers_step pairs i d h = rw (take_more pairs i d h) (map-append (λ (pair : List ℕ × LeaseNo). pair.1) (take i pairs) (get_or pairs i d ∷ []))

same_length : (ks : List ViewLease) → length (map pair_of ks) ≡ length ks
same_length [] = refl
same_length (k ∷ ks) = ap suc (same_length ks)

same_numbers : (ks : List ViewLease) → map (λ (pair : List ℕ × LeaseNo). pair.1) (map pair_of ks) ≡ numbers_in ks
same_numbers [] = refl
same_numbers (k ∷ ks) = ap (λ rest. (pair_of k).1 ∷ rest) (same_numbers ks)

first_of : (ks : List ViewLease) (pairs : List (List ℕ × LeaseNo)) (x : Option (List ℕ × LeaseNo)) → pairs ≡ map pair_of ks → slice_get pairs 0 ≡ x → slice_get (map pair_of ks) 0 ≡ x
first_of ks pairs x e h = ap (λ ps. slice_get ps 0) (sym e) ∙ h

nothing_there : (ks : List ViewLease) → slice_get (map pair_of ks) 0 ≡ None → ks ≡ []
nothing_there [] h = refl
nothing_there (k ∷ ks) h = absurd (cc h)

-- those at a server, whether they are chosen as leases or as pairs
pub pairs_at : (c : Client) (to : ℕ) (ks : List ViewLease) → filter (λ (pair : List ℕ × LeaseNo). hinted c pair.0 == to) (map pair_of ks) ≡ map pair_of (kept_at c to ks)
pairs_at c to [] = refl
pairs_at c to (k ∷ ks) = elim (hinted c (pair_of k).0 == to) as (λ b. cond b (pair_of k ∷ filter (λ (pair : List ℕ × LeaseNo). hinted c pair.0 == to) (map pair_of ks)) (filter (λ (pair : List ℕ × LeaseNo). hinted c pair.0 == to) (map pair_of ks)) ≡ map pair_of (cond b (k ∷ kept_at c to ks) (kept_at c to ks))) [ true ↦ ap (λ rest. pair_of k ∷ rest) (pairs_at c to ks) | false ↦ pairs_at c to ks ]

-- ## Entries at the front

-- one more is handed in at the server
pub entries_more : (c : Client) (to : ℕ) (log : List Entry) (i : ℕ) (d : Entry) → i < length log → (hinted c (home_of (get_or log i d).op) == to) ≡ true
    → take (i + 1) log ++ entries_at c to (drop (i + 1) log) ≡ take i log ++ entries_at c to (drop i log)
entries_more c to log i d h t =
    rw (take_more log i d h, drop_more log i d h)
    (append_assoc (take i log) (get_or log i d ∷ []) (entries_at c to (drop (i + 1) log))
    ∙ ap (λ b. take i log ++ cond b (get_or log i d ∷ entries_at c to (drop (i + 1) log)) []) (sym t))

-- the next one is not
pub entries_stop : (c : Client) (to : ℕ) (log : List Entry) (i : ℕ) (d : Entry) → i < length log → (hinted c (home_of (get_or log i d).op) == to) ≡ false
    → take i log ≡ take i log ++ entries_at c to (drop i log)
entries_stop c to log i d h t =
    rw (drop_more log i d h)
    (sym (append-nil (take i log))
    ∙ ap (λ b. take i log ++ cond b (get_or log i d ∷ entries_at c to (drop (i + 1) log)) []) (sym t))

-- ## Releases

pub none_returned : (c : Client) (pairs : List (List ℕ × LeaseNo)) → pairs ≡ map pair_of (returned c.view) → slice_get pairs 0 ≡ None → release_some (returned c.view) c ≡ renew_some (ending (c.last + c.term / 2) c.view) c
none_returned c pairs e h = ap (λ ks. release_some ks c) (nothing_there (returned c.view) (first_of (returned c.view) pairs None e h))

released : (ks : List ViewLease) (first : List ℕ × LeaseNo) (c : Client) → slice_get (map pair_of ks) 0 ≡ Some first → release_some ks c ≡ releases (hinted c first.0) (kept_at c (hinted c first.0) ks) c
released [] first c h = absurd (cc h)
released (k ∷ ks) first c h = let q : pair_of k ≡ first = cc h in ap (λ (x : List ℕ × LeaseNo). releases (hinted c x.0) (kept_at c (hinted c x.0) (k ∷ ks)) c) q

pub some_returned : (c : Client) (pairs : List (List ℕ × LeaseNo)) (first : List ℕ × LeaseNo) → pairs ≡ map pair_of (returned c.view) → slice_get pairs 0 ≡ Some first → release_some (returned c.view) c ≡ releases (hinted c first.0) (kept_at c (hinted c first.0) (returned c.view)) c
some_returned c pairs first e h = released (returned c.view) first c (first_of (returned c.view) pairs (Some first) e h)

back : (to : ℕ) (ks : List ViewLease) (c : Client) (pairs : List (List ℕ × LeaseNo)) (numbers : List LeaseNo) → pairs ≡ map pair_of ks → numbers ≡ map (λ pair. pair.1) pairs
    → sends to (note.Releases (length pairs) to) (client.Release pairs) (change.Leave to numbers) c ≡ releases to ks c
back to ks c pairs numbers e f =
    let n : length pairs ≡ length ks = ap length e ∙ same_length ks in
    let g : numbers ≡ numbers_in ks = f ∙ (ap (map (λ (pair : List ℕ × LeaseNo). pair.1)) e ∙ same_numbers ks) in
    ap (λ k. sends to (note.Releases k to) (client.Release pairs) (change.Leave to numbers) c) n
    ∙ (ap (λ ps. sends to (note.Releases (length ks) to) (client.Release ps) (change.Leave to numbers) c) e
    ∙ ap (λ ns. sends to (note.Releases (length ks) to) (client.Release (map pair_of ks)) (change.Leave to ns) c) g)

pub sent_back : (to : ℕ) (c : Client) (pairs : List (List ℕ × LeaseNo)) (numbers : List LeaseNo) → pairs ≡ map pair_of (kept_at c to (returned c.view)) → numbers ≡ map (λ pair. pair.1) pairs
    → sends to (note.Releases (length pairs) to) (client.Release pairs) (change.Leave to numbers) c ≡ releases to (kept_at c to (returned c.view)) c
sent_back to c pairs numbers e f = back to (kept_at c to (returned c.view)) c pairs numbers e f

-- ## Renewals

pub none_ending : (c : Client) (soon : ℕ) (pairs : List (List ℕ × LeaseNo)) → pairs ≡ map pair_of (ending soon c.view) → slice_get pairs 0 ≡ None → renew_some (ending soon c.view) c ≡ idle c
none_ending c soon pairs e h = ap (λ ks. renew_some ks c) (nothing_there (ending soon c.view) (first_of (ending soon c.view) pairs None e h))

renewed : (ks : List ViewLease) (first : List ℕ × LeaseNo) (c : Client) → slice_get (map pair_of ks) 0 ≡ Some first → renew_some ks c ≡ renews (hinted c first.0) (kept_at c (hinted c first.0) ks) c
renewed [] first c h = absurd (cc h)
renewed (k ∷ ks) first c h = let q : pair_of k ≡ first = cc h in ap (λ (x : List ℕ × LeaseNo). renews (hinted c x.0) (kept_at c (hinted c x.0) (k ∷ ks)) c) q

pub some_ending : (c : Client) (soon : ℕ) (pairs : List (List ℕ × LeaseNo)) (first : List ℕ × LeaseNo) → pairs ≡ map pair_of (ending soon c.view) → slice_get pairs 0 ≡ Some first → renew_some (ending soon c.view) c ≡ renews (hinted c first.0) (kept_at c (hinted c first.0) (ending soon c.view)) c
some_ending c soon pairs first e h = renewed (ending soon c.view) first c (first_of (ending soon c.view) pairs (Some first) e h)

on : (to : ℕ) (ks : List ViewLease) (c : Client) (pairs : List (List ℕ × LeaseNo)) (numbers : List LeaseNo) → pairs ≡ map pair_of ks → numbers ≡ map (λ pair. pair.1) pairs
    → sends to (note.Renews (length pairs) to) (client.Renew pairs) (change.Ask (exchange.Renews to numbers)) c ≡ renews to ks c
on to ks c pairs numbers e f =
    let n : length pairs ≡ length ks = ap length e ∙ same_length ks in
    let g : numbers ≡ numbers_in ks = f ∙ (ap (map (λ (pair : List ℕ × LeaseNo). pair.1)) e ∙ same_numbers ks) in
    ap (λ k. sends to (note.Renews k to) (client.Renew pairs) (change.Ask (exchange.Renews to numbers)) c) n
    ∙ (ap (λ ps. sends to (note.Renews (length ks) to) (client.Renew ps) (change.Ask (exchange.Renews to numbers)) c) e
    ∙ ap (λ ns. sends to (note.Renews (length ks) to) (client.Renew (map pair_of ks)) (change.Ask (exchange.Renews to ns)) c) g)

pub sent_on : (to soon : ℕ) (c : Client) (pairs : List (List ℕ × LeaseNo)) (numbers : List LeaseNo) → pairs ≡ map pair_of (kept_at c to (ending soon c.view)) → numbers ≡ map (λ pair. pair.1) pairs
    → sends to (note.Renews (length pairs) to) (client.Renew pairs) (change.Ask (exchange.Renews to numbers)) c ≡ renews to (kept_at c to (ending soon c.view)) c
sent_on to soon c pairs numbers e f = on to (kept_at c to (ending soon c.view)) c pairs numbers e f

-- ## A turn can always be made

renew_can : (ks : List ViewLease) (c d : Client) → can_change (renew_some ks c).ready.change d ≡ true
renew_can [] c d = refl
renew_can (k ∷ ks) c d = refl

release_can : (ks : List ViewLease) (c d : Client) → can_change (release_some ks c).ready.change d ≡ true
release_can [] c d = renew_can (ending (c.last + c.term / 2) c.view) c d
release_can (k ∷ ks) c d = refl

ship_can : (es : List Entry) (c d : Client) → can_change (ship_some es c).ready.change d ≡ true
ship_can [] c d = refl
ship_can (e ∷ es) c d = refl

either_can : (b : Bool) (p q : Plan ClientNote) (d : Client) → can_change p.ready.change d ≡ true → can_change q.ready.change d ≡ true → can_change (cond b p q).ready.change d ≡ true
either_can true p q d h g = h
either_can false p q d h g = g

pub turn_can : (c : Client) → can_change (turn_on c).ready.change c ≡ true
turn_can c = either_can (is_some c.exchange) (idle c) (turn_free c) c refl (either_can (not (is_empty c.log) && not (is_some c.over)) (ship_some c.log c) (release_some (returned c.view) c) c (ship_can c.log c c) (release_can (returned c.view) c c))
