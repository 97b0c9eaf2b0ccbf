-- What is on its way while a client goes on.
use Rattle.std.proofs.Common.{◌≡◌, ℕ, zero, suc, ◌==◌, ◌&&◌, not, true, false, List, [], ◌∷◌, ◌++◌, refl, sym, ap, ◌∙◌, subst, inl, inr, arith, append_assoc, length-append, take}
use Rattle.std.specs.Prelude.{Option, Some, None, nat_le}
use Rattle.std.specs.List.{list_any}
use Rattle.std.proofs.lemmas.Bool.{not-true}
use Rattle.fs_ident.specs.In.{In}
use Rattle.fs_ident.specs.declared.actor.LeaseNo.{LeaseNo}
use Rattle.fs_ident.specs.declared.actor.Session.{Session}
use Rattle.fs_ident.proofs.Booleans.{both, joined}
use Rattle.fs_ident.proofs.Standing.{none_any}
use Rattle.fs_field.specs.declared.field.Field.{Field}
use Rattle.fs_field.specs.declared.field.Field.TheVariants.{Life}
use Rattle.fs_field.specs.declared.lease_kind.LeaseKind.{LeaseKind}
use Rattle.fs_field.specs.declared.lease_kind.LeaseKind.TheVariants.{Exclusive}
use Rattle.fs_field.specs.declared.row.Row.{Row}
use Rattle.fs_field.specs.Table.{same_no}
use Rattle.fs_moderows.proofs.Witnesses.{In_none}
use Rattle.fs_msg.specs.declared.answer.Answer.{Answer}
use Rattle.fs_msg.specs.declared.answer.Answer.TheVariants.{Granted, Renewed, Released, Shipped, Led}
use Rattle.fs_msg.specs.declared.answer.Grant.{Grant}
use Rattle.fs_msg.specs.declared.client_msg.ClientMsg.{ClientMsg}
use Rattle.fs_msg.specs.declared.end.End.{End}
use Rattle.fs_msg.specs.declared.end.End.TheVariants as end
use Rattle.fs_msg.specs.declared.entry.Entry.{Entry}
use Rattle.fs_client.specs.Answers.{answer_fits, fresh_fits, front_fits, grants_fit, is_new, is_of_item, life_last, refusal_fits, is_entry_at}
use Rattle.fs_client.specs.Led.{end_fits}
use Rattle.fs_client.specs.Turns.{pair_of}
use Rattle.fs_client.specs.declared.exchange.Exchange.{Exchange}
use Rattle.fs_client.specs.declared.exchange.Exchange.TheVariants.{Asks, Renews, Releases, Ships, Leads}
use Rattle.fs_client.specs.declared.state.Client.{Client}
use Rattle.fs_view.specs.declared.view_lease.ViewLease.{ViewLease}
use Rattle.fs_view.specs.ViewLease.{number_of, has_number, is_leaving}
use Rattle.fs_serial.specs.Exchange.{OneExchange, ShipsLog, IsFront, IsReturned, LeadsTold, ReleasesReturned, ReturnFits, ReturnsFit, server_of_question, ExchangeFits}
use Rattle.fs_serial.specs.Settled.{Lease, Settled}
use Rattle.fs_serial.specs.World.{HasNumber}

-- ## Fewer numbers

pub record IsNumbered (ks : List ViewLease) (wanted : LeaseNo) : Type 0 where
  pub kept : ViewLease
  pub among : In kept ks
  pub number : number_of kept.standing ≡ wanted

abbrev pub FewerNumbers : List ViewLease → List ViewLease → Type 0
FewerNumbers old new = (k : ViewLease) → In k new → IsNumbered old (number_of k.standing)

still_none : (old new : List ViewLease) (n : LeaseNo) → FewerNumbers old new → list_any (has_number n) old ≡ false → list_any (has_number n) new ≡ false
still_none old new n fewer h = In_none (has_number n) new (λ k i. let j = fewer k i in ap (λ m. same_no m n) (sym j.number) ∙ none_any (has_number n) old h j.kept j.among)

new_still : (old new : List ViewLease) (before : List Grant) (g : Grant) → FewerNumbers old new → is_new old before g ≡ true → is_new new before g ≡ true
new_still old new before g fewer h =
    let q = both (not (list_any (has_number g.no) old)) (not (list_any (λ (b : Grant). same_no b.no g.no) before)) h in
    joined _ _ (ap not (still_none old new g.no fewer (not-true (list_any (has_number g.no) old) q.0))) q.1

front_still : (old new : List ViewLease) (items : List (Field × LeaseKind)) (before gs : List Grant) → FewerNumbers old new → front_fits items old before gs ≡ true → front_fits items new before gs ≡ true
front_still old new items before [] fewer h = refl
front_still old new [] before (g ∷ gs) fewer h = h
front_still old new (x ∷ xs) before (g ∷ gs) fewer h =
    let p = both (is_of_item x g && is_new old before g) (front_fits xs old (before ++ g ∷ []) gs) h in
    let q = both (is_of_item x g) (is_new old before g) p.0 in
    joined _ _ (joined _ _ q.0 (new_still old new before g fewer q.1)) (front_still old new xs (before ++ g ∷ []) gs fewer p.1)

last_still : (old new : List ViewLease) (items : List (Field × LeaseKind)) (id : List ℕ) (front gs : List Grant) → FewerNumbers old new → life_last items id old front gs ≡ true → life_last items id new front gs ≡ true
last_still old new items id front [] fewer h = h
last_still old new items id front (g ∷ []) fewer h =
    let p = both (front_fits items old [] front) (is_of_item (Life id, Exclusive) g && is_new old front g) h in
    let q = both (is_of_item (Life id, Exclusive) g) (is_new old front g) p.1 in
    joined _ _ (front_still old new items [] front fewer p.0) (joined _ _ q.0 (new_still old new front g fewer q.1))
last_still old new items id front (g ∷ k ∷ gs) fewer h = last_still old new items id (front ++ g ∷ []) (k ∷ gs) fewer h

grants_still : (old new : List ViewLease) (items : List (Field × LeaseKind)) (fresh : Option (List ℕ)) (gs : List Grant) → FewerNumbers old new → grants_fit items fresh old gs ≡ true → grants_fit items fresh new gs ≡ true
grants_still old new items None gs fewer h = front_still old new items [] gs fewer h
grants_still old new items (Some id) gs fewer h = last_still old new items id [] gs fewer h

-- among those that were sent
entry_still : (n k sent : ℕ) (log more : List Entry) → is_entry_at n k (take sent log) ≡ true → is_entry_at n k (take sent (log ++ more)) ≡ true
entry_still n k zero log more h = absurd (cc)
entry_still n k (suc sent) [] more h = absurd (cc)
entry_still n zero (suc sent) (e ∷ es) more h = h
entry_still n (suc k) (suc sent) (e ∷ es) more h = entry_still n k sent es more h

refusal_still : (e : End) (count sent : ℕ) (log more : List Entry) → refusal_fits e count (take sent log) ≡ true → refusal_fits e count (take sent (log ++ more)) ≡ true
refusal_still (end.Ended n lease until now) count sent log more h = entry_still n count sent log more h
refusal_still end.All count sent log more h = h
refusal_still (end.Wait blocker) count sent log more h = h
refusal_still (end.Locked txn) count sent log more h = h
refusal_still (end.Moved prefix to) count sent log more h = h
refusal_still (end.NoIds dir) count sent log more h = h

-- ## A client that goes on

-- the lease with its file goes back
pub record WentBack (leases : List ViewLease) (wanted : List ℕ × LeaseNo) : Type 0 where
  pub kept : ViewLease
  pub among : In kept leases
  pub pair : pair_of kept ≡ wanted
  pub leaving : is_leaving kept.standing ≡ true

-- it has no more leases, the same ones go back, and entries come behind its log
pub record GoesOnAs (c d : Client) (more : List Entry) : Type 0 where
  pub exchange : d.exchange ≡ c.exchange
  pub led : d.led ≡ c.led
  pub fewer : FewerNumbers c.view.leases d.view.leases
  pub log : d.log ≡ c.log ++ more
  pub went : (k : ViewLease) → In k d.view.leases → is_leaving k.standing ≡ true → WentBack c.view.leases (pair_of k)
  pub goes : (k : ViewLease) → In k c.view.leases → is_leaving k.standing ≡ true → IsReturned d.view.leases (number_of k.standing)

-- an answer that fits still does
pub fits_still : (c d : Client) (more : List Entry) (from : ℕ) (x : Exchange) (a : Answer) → GoesOnAs c d more → answer_fits from x a c ≡ true → answer_fits from x a d ≡ true
fits_still c d more from (Asks to items fresh) (Granted grants given e) g h =
    let p = both (to == from) (fresh_fits fresh given && grants_fit items given c.view.leases grants) h in
    let q = both (fresh_fits fresh given) (grants_fit items given c.view.leases grants) p.1 in
    joined _ _ p.0 (joined _ _ q.0 (grants_still c.view.leases d.view.leases items given grants g.fewer q.1))
fits_still c d more from (Renews to numbers) (Renewed rows e) g h = h
fits_still c d more from (Releases to numbers) (Released count e) g h = h
fits_still c d more from (Ships to sent) (Shipped count e) g h =
    let p = both (to == from) (nat_le count sent && refusal_fits e count (take sent c.log)) h in
    let q = both (nat_le count sent) (refusal_fits e count (take sent c.log)) p.1 in
    joined _ _ p.0 (joined _ _ q.0 (ap (λ log. refusal_fits e count (take sent log)) g.log ∙ refusal_still e count sent c.log more q.1))
fits_still c d more from (Leads to) (Led e) g h = ap (λ o. (to == from) && end_fits o e) g.led ∙ h
fits_still c d more from x a g h = absurd (cc)

one_still : (c d : Client) (more : List Entry) (x : Option Exchange) (up : List ClientMsg) (down : List Answer) → GoesOnAs c d more → OneExchange c x up down → OneExchange d x up down
one_still c d more None up down g h = h
one_still c d more (Some x) up down g (inl h) = inl h
one_still c d more (Some x) up down g (inr h) = inr (record { answer = h.answer; told = h.told; asked = h.asked; fits = fits_still c d more (server_of_question x) x h.answer g h.fits })

ships_still : (x : Option Exchange) (log more : List Entry) → ShipsLog x log → ShipsLog x (log ++ more)
ships_still None log more h = tt
ships_still (Some (Asks to items fresh)) log more h = tt
ships_still (Some (Renews to numbers)) log more h = tt
ships_still (Some (Releases to numbers)) log more h = tt
ships_still (Some (Ships to count)) log more h = let q = length-append log more in omega arith
ships_still (Some (Leads to)) log more h = tt

released_still : (x : Option Exchange) (c d : Client) (more : List Entry) → GoesOnAs c d more → ReleasesReturned x c.view.leases → ReleasesReturned x d.view.leases
released_still None c d more g h = tt
released_still (Some (Asks to items fresh)) c d more g h = tt
released_still (Some (Renews to numbers)) c d more g h = tt
released_still (Some (Releases to numbers)) c d more g h = λ n i. let q : IsReturned c.view.leases n = h n i in let p = g.goes q.kept q.among q.leaving in record { kept = p.kept; among = p.among; number = p.number ∙ q.number; leaving = p.leaving }
released_still (Some (Ships to count)) c d more g h = tt
released_still (Some (Leads to)) c d more g h = tt

-- no lease has a number that none had
abbrev pub FewerLeases : List Lease → List Lease → Type 0
FewerLeases old new = (l : Lease) → In l new → HasNumber old l.no

pub returns_still : (given : ℕ → ℕ) (rows : List Row) (by : Session) (c d : Client) (more : List Entry) (old new : List Lease) → GoesOnAs c d more → FewerLeases old new → ReturnsFit given rows by c.view.leases old → ReturnsFit given rows by d.view.leases new
returns_still given rows by c d more old new g fewer h k i t =
    let q = g.went k i t in
    let r : ReturnFits given rows by old (pair_of k) = subst (ReturnFits given rows by old) q.pair (h q.kept q.among q.leaving) in
    record { fits = r.fits; alone = λ l j e. let m = fewer l j in r.alone m.lease m.held (m.number ∙ e); own = r.own }

pub exchange_still : (skew greatest : ℕ) (given : ℕ → ℕ) (rows : List Row) (by : Session) (c d : Client) (more : List Entry) (up : List ClientMsg) (down : List Answer) (now then seen later : Settled) → GoesOnAs c d more → FewerLeases now.leases then.leases → FewerLeases seen.leases later.leases → later.log ≡ seen.log ++ more → later.over ≡ seen.over
    → ExchangeFits skew greatest given rows by c up down now seen → ExchangeFits skew greatest given rows by d up down then later
exchange_still skew greatest given rows by c d more up down now then seen later g now_fewer seen_fewer log over h = record {
  one = subst (λ x. OneExchange d x up down) (sym g.exchange) (one_still c d more c.exchange up down g h.one);
  ships = subst (λ x. ShipsLog x d.log) (sym g.exchange) (subst (ShipsLog c.exchange) (sym g.log) (ships_still c.exchange c.log more h.ships));
  front = λ entries i. let q : IsFront entries seen = h.front entries i in record { rest = q.rest ++ more; log = log ∙ ap (λ es. es ++ more) q.log ∙ append_assoc entries q.rest more; over = over ∙ q.over };
  leads = subst (LeadsTold up) (sym g.led) h.leads;
  released = subst (λ x. ReleasesReturned x d.view.leases) (sym g.exchange) (released_still c.exchange c d more g h.released);
  kinds = h.kinds;
  pairs = h.pairs;
  returns = returns_still given rows by c d more seen.leases later.leases g seen_fewer h.returns;
  renewals = λ ends e i n until j l k same live. let m = now_fewer l k in h.renewals ends e i n until j m.lease m.held (m.number ∙ same) live;
}
