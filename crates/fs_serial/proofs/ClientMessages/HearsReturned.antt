-- A client hears that a lease is asked back, or that leases came back to their server.
use Rattle.std.proofs.Common.{◌≡◌, ℕ, zero, suc, not, Bool, true, false, List, [], ◌∷◌, take, refl, sym, ap, ◌∙◌, subst, inl, inr, cond, append-nil}
use Rattle.std.specs.Prelude.{Option, Some, None, filter, option_map}
use Rattle.std.specs.List.{filter_map, cons_option}
use Rattle.fs_ident.specs.In.{In}
use Rattle.fs_ident.specs.declared.actor.LeaseNo.{LeaseNo}
use Rattle.fs_ident.specs.declared.actor.Session.{Session}
use Rattle.fs_ident.proofs.Standing.{In-filter, In-map, In-mapped}
use Rattle.fs_field.proofs.SameNo.{same_no_is}
use Rattle.fs_msg.specs.declared.answer.Answer.{Answer}
use Rattle.fs_msg.specs.declared.answer.Answer.TheVariants.{Released, Recall}
use Rattle.fs_msg.specs.declared.client_msg.ClientMsg.{ClientMsg}
use Rattle.fs_msg.specs.declared.end.End.{End}
use Rattle.fs_msg.specs.declared.item.Item.{Item}
use Rattle.fs_client.specs.Answers.{numbers_sent}
use Rattle.fs_client.specs.Client.{released_all, released_one, with_released, with_recalled}
use Rattle.fs_client.specs.Turns.{pair_of}
use Rattle.fs_client.specs.declared.exchange.Exchange.{Exchange}
use Rattle.fs_client.specs.declared.exchange.Exchange.TheVariants.{Asks, Renews, Releases, Ships, Leads}
use Rattle.fs_client.specs.declared.state.Client.{Client}
use Rattle.fs_view.specs.declared.view_lease.ViewLease.{ViewLease}
use Rattle.fs_view.specs.declared.view_lease.Standing.{Standing}
use Rattle.fs_view.specs.declared.view_lease.Standing.TheVariants.{Held, Pinned, Leaving}
use Rattle.fs_view.specs.ViewLease.{number_of, has_number, is_leaving, entries_of, lease_of, recalled_as}
use Rattle.fs_view.specs.View.{View, stands, without_lease}
use Rattle.fs_serial.specs.Client.{led_before, times_in}
use Rattle.fs_serial.specs.Exchange.{IsReturned, ReleasesReturned, ExchangeFits, ReturnFits, ReturnsFit}
use Rattle.fs_serial.specs.Parts.{SessionHolds, SessionFits}
use Rattle.fs_serial.specs.Pending.{UsesHeld}
use Rattle.fs_serial.specs.Settled.{Settled, lease_in, lease_with, settled, settled_now}
use Rattle.fs_serial.specs.Sight.{Sight}
use Rattle.fs_serial.proofs.ClientMessages.Carried.{GoesOnAs, exchange_still}
use Rattle.fs_serial.proofs.Lists.Journals.{each_image}
use Rattle.fs_serial.proofs.ClientMessages.Heard.{IsHeard, heard, quiet_exchange, recall_exchange}
use Rattle.fs_serial.proofs.Replies.ReplyPins.{distinct_mapped, pair_in, same_leases}
use Rattle.fs_serial.proofs.ClientMessages.SessionStates.{SessionStateHolds, seen_at}

-- ## A recall

abbrev one_recall : LeaseNo → ViewLease → ViewLease
one_recall n k = cond (has_number n k) (record k { recalled = recalled_as k.standing k.recalled }) k

recall_standing : (n : LeaseNo) (k : ViewLease) → (one_recall n k).standing ≡ k.standing
recall_standing n k = within (has_number n k)
  where
    within : (b : Bool)
        → (cond b (let x : ViewLease = record k { recalled = recalled_as k.standing k.recalled } in x) k).standing ≡ k.standing
    within true = refl
    within false = refl

recall_lease : (n : LeaseNo) (k : ViewLease) → lease_in (one_recall n k) ≡ lease_in k
recall_lease n k = within (has_number n k)
  where
    within : (b : Bool)
        → lease_in (cond b (let x : ViewLease = record k { recalled = recalled_as k.standing k.recalled } in x) k) ≡ lease_in k
    within true = refl
    within false = refl

module _ (skew greatest : ℕ) (s : Sight) (by : Session) (replied : List Item) (c : Client) (up : List ClientMsg) (n : LeaseNo) (rest : List Answer) (h : SessionStateHolds skew greatest s by replied c up (Recall n ∷ rest)) where
  abbrev recalled : Client
  recalled = with_recalled n c

  number : (k : ViewLease) → number_of (one_recall n k).standing ≡ number_of k.standing
  number k = ap number_of (recall_standing n k)

  pair : (k : ViewLease) → pair_of (one_recall n k) ≡ pair_of k
  pair k = ap pair_in (recall_standing n k)

  now : settled_now recalled ≡ settled_now c
  now = ap (λ ls. let x : Settled = record { leases = ls; log = c.log; next = c.next; over = c.over; led = c.led } in x) (same_leases (one_recall n) (recall_lease n) c.view.leases)

  pub recalled_seen : seen_at by recalled rest ≡ seen_at by c (Recall n ∷ rest)
  recalled_seen = ap (settled by rest) now

  goes_on : GoesOnAs c recalled []
  goes_on = record {
    exchange = refl;
    led = refl;
    fewer = λ k i. let q = In-map (one_recall n) k c.view.leases i in record { kept = q.0; among = q.1.0; number = sym (number q.0) ∙ ap (λ (k : ViewLease). number_of k.standing) (sym q.1.1) };
    log = sym (append-nil c.log);
    went = λ k i t.
        let q = In-map (one_recall n) k c.view.leases i in
        record { kept = q.0; among = q.1.0; pair = sym (pair q.0) ∙ ap pair_of (sym q.1.1); leaving = sym (ap is_leaving (recall_standing n q.0)) ∙ ap (λ (k : ViewLease). is_leaving k.standing) (sym q.1.1) ∙ t };
    goes = λ k i t. record { kept = one_recall n k; among = In-mapped (one_recall n) k c.view.leases i; number = number k; leaving = ap is_leaving (recall_standing n k) ∙ t };
  }

  pub session_recalled : SessionStateHolds skew greatest s by replied recalled up rest
  session_recalled = record {
    holds = subst (SessionHolds skew greatest s by replied) (sym recalled_seen) h.holds;
    fits = subst (SessionFits skew greatest s by) (sym recalled_seen) h.fits;
    client = record {
      session = h.client.session;
      viewed = h.client.viewed;
      pending = h.client.pending;
      distinct = distinct_mapped (one_recall n) number c.view.leases h.client.distinct;
      pinned = each_image (one_recall n) (λ k. entries_of k.standing ≡ times_in (number_of k.standing) (led_before c.led c.log)) c.view.leases (λ k i. ap entries_of (recall_standing n k) ∙ h.client.pinned k i ∙ ap (λ m. times_in m (led_before c.led c.log)) (sym (number k)));
      held = subst (λ (d : Settled). UsesHeld d.leases (led_before c.led c.log)) (sym now) h.client.held;
    };
    exchange = exchange_still skew greatest s.given s.rows by c recalled [] up rest (settled_now c) (settled_now recalled) (seen_at by c (Recall n ∷ rest)) (seen_at by recalled rest) goes_on
        (λ l i. record { lease = l; held = subst (λ (d : Settled). In l d.leases) now i; number = refl })
        (λ l i. record { lease = l; held = subst (λ (d : Settled). In l d.leases) recalled_seen i; number = refl })
        (ap (λ (d : Settled). d.log) recalled_seen ∙ sym (append-nil (seen_at by c (Recall n ∷ rest)).log)) (ap (λ (d : Settled). d.over) recalled_seen)
        (recall_exchange skew greatest s.given s.rows by c up n rest (settled_now c) (seen_at by c (Recall n ∷ rest)) h.exchange);
  }

-- ## Leases that came back

-- these leases go back
abbrev AllGoing : List LeaseNo → List ViewLease → Type 0
AllGoing ns ks = (n : LeaseNo) → In n ns → (k : ViewLease) → In k ks → number_of k.standing ≡ n → is_leaving k.standing ≡ true

no_lease : (k : ViewLease) (s : Standing) → k.standing ≡ s → is_leaving s ≡ true → lease_in k ≡ None
no_lease k (Held l) e h = absurd (cc)
no_lease k (Pinned u) e h = absurd (cc)
no_lease k (Leaving l) e h = ap (λ s. option_map (lease_with k) (lease_of s)) e

one_gone : (n : LeaseNo) (ks : List ViewLease) → ((k : ViewLease) → In k ks → number_of k.standing ≡ n → is_leaving k.standing ≡ true) → filter_map lease_in (filter (λ k. not (has_number n k)) ks) ≡ filter_map lease_in ks
one_gone n [] h = refl
one_gone n (k ∷ ks) h = within (has_number n k) refl (one_gone n ks (λ x i. h x (inr i)))
  where
    within : (b : Bool) → has_number n k ≡ b → filter_map lease_in (filter (λ k. not (has_number n k)) ks) ≡ filter_map lease_in ks → filter_map lease_in (cond (not b) (k ∷ filter (λ k. not (has_number n k)) ks) (filter (λ k. not (has_number n k)) ks)) ≡ cons_option (lease_in k) (filter_map lease_in ks)
    within true t rec = rec ∙ ap (λ o. cons_option o (filter_map lease_in ks)) (sym (no_lease k k.standing refl (h k (inl refl) (same_no_is (number_of k.standing) n t))))
    within false t rec = ap (cons_option (lease_in k)) rec

-- what remains of a view
pub record HasReturned (v w : View) : Type 0 where
  pub session : w.session ≡ v.session
  pub pending : w.pending ≡ v.pending
  pub was : (k : ViewLease) → In k w.leases → In k v.leases
  pub same : filter_map lease_in w.leases ≡ filter_map lease_in v.leases

one_returned : (b : Bool) (n : LeaseNo) (v : View) → ((k : ViewLease) → In k v.leases → number_of k.standing ≡ n → is_leaving k.standing ≡ true) → HasReturned v (cond b (without_lease n v) v)
one_returned true n v h = record { session = refl; pending = refl; was = λ k i. In-filter (λ k. not (has_number n k)) k v.leases i; same = one_gone n v.leases h }
one_returned false n v h = record { session = refl; pending = refl; was = λ k i. i; same = refl }

all_returned : (ns : List LeaseNo) (v : View) → AllGoing ns v.leases → HasReturned v (released_all ns v)
all_returned [] v h = record { session = refl; pending = refl; was = λ k i. i; same = refl }
all_returned (n ∷ ns) v h =
    let w : View = released_one n v in
    let p : HasReturned v w = one_returned (stands is_leaving n v.leases) n v (h n (inl refl)) in
    let q : HasReturned w (released_all ns w) = all_returned ns w (λ m i k j. h m (inr i) k (p.was k j)) in
    record { session = q.session ∙ p.session; pending = q.pending ∙ p.pending; was = λ k i. p.was k (q.was k i); same = q.same ∙ p.same }

sent_returned : (x : Option Exchange) (ks : List ViewLease) → ReleasesReturned x ks → (n : LeaseNo) → In n (numbers_sent x)
    → IsReturned ks n
sent_returned None ks h n i = absurd i
sent_returned (Some (Asks to items fresh)) ks h n i = absurd i
sent_returned (Some (Renews to numbers)) ks h n i = absurd i
sent_returned (Some (Releases to numbers)) ks h n i = h n i
sent_returned (Some (Ships to count)) ks h n i = absurd i
sent_returned (Some (Leads to)) ks h n i = absurd i

in_front : {X : Type 0} (k : ℕ) (x : X) (xs : List X) → In x (take k xs) → In x xs
in_front zero x xs i = absurd i
in_front (suc k) x [] i = i
in_front (suc k) x (y ∷ ys) (inl e) = inl e
in_front (suc k) x (y ∷ ys) (inr i) = inr (in_front k x ys i)

pub session_released : (skew greatest : ℕ) (s : Sight) (by : Session) (replied : List Item) (c : Client) (up : List ClientMsg) (count : ℕ) (e : End) (rest : List Answer) → SessionStateHolds skew greatest s by replied c up (Released count e ∷ rest) → SessionStateHolds skew greatest s by replied (with_released (take count (numbers_sent c.exchange)) c) up rest
session_released skew greatest s by replied c up count e rest h =
    let w : IsHeard c up (Released count e) rest = heard c c.exchange up (Released count e) rest refl refl h.exchange.one in
    let ns : List LeaseNo = take count (numbers_sent c.exchange) in
    let then_ : Client = with_released ns c in
    let going : AllGoing ns c.view.leases = λ n i k j same.
    let r = sent_returned c.exchange c.view.leases h.exchange.released n (in_front count n (numbers_sent c.exchange) i) in
    ap (λ (k : ViewLease). is_leaving k.standing) (h.client.distinct k r.kept j r.among (same ∙ sym r.number)) ∙ r.leaving in
    let q : HasReturned c.view then_.view = all_returned ns c.view going in
    let now : settled_now then_ ≡ settled_now c = ap (λ ls. let x : Settled = record { leases = ls; log = c.log; next = c.next; over = c.over; led = c.led } in x) q.same in
    let seen : seen_at by c (Released count e ∷ rest) ≡ seen_at by then_ rest = ap (settled by rest) (sym now) in
    let returns : ReturnsFit s.given s.rows by then_.view.leases (seen_at by then_ rest).leases = λ k i t. subst (λ (d : Settled). ReturnFits s.given s.rows by d.leases (pair_of k)) seen (h.exchange.returns k (q.was k i) t) in
    record {
      holds = subst (SessionHolds skew greatest s by replied) seen h.holds;
      fits = subst (SessionFits skew greatest s by) seen h.fits;
      client = record {
        session = h.client.session;
        viewed = q.session ∙ h.client.viewed;
        pending = q.pending ∙ h.client.pending;
        distinct = λ k l i j. h.client.distinct k l (q.was k i) (q.was l j);
        pinned = λ k i. h.client.pinned k (q.was k i);
        held = subst (λ (d : Settled). UsesHeld d.leases (led_before c.led c.log)) (sym now) h.client.held;
      };
      exchange = subst (λ up. ExchangeFits skew greatest s.given s.rows by then_ up rest (settled_now then_) (seen_at by then_ rest)) (sym w.asked) (quiet_exchange skew greatest s.given s.rows by then_ rest (settled_now then_) (seen_at by then_ rest) refl w.quiet returns);
    }

-- what came back was going already
pub released_seen : (skew greatest : ℕ) (s : Sight) (by : Session) (replied : List Item) (c : Client) (up : List ClientMsg) (count : ℕ) (e : End) (rest : List Answer) → SessionStateHolds skew greatest s by replied c up (Released count e ∷ rest) → seen_at by (with_released (take count (numbers_sent c.exchange)) c) rest ≡ seen_at by c (Released count e ∷ rest)
released_seen skew greatest s by replied c up count e rest h =
    let ns : List LeaseNo = take count (numbers_sent c.exchange) in
    let going : AllGoing ns c.view.leases = λ n i k j same.
    let r = sent_returned c.exchange c.view.leases h.exchange.released n (in_front count n (numbers_sent c.exchange) i) in
    ap (λ (k : ViewLease). is_leaving k.standing) (h.client.distinct k r.kept j r.among (same ∙ sym r.number)) ∙ r.leaving in
    let q : HasReturned c.view (with_released ns c).view = all_returned ns c.view going in
    ap (settled by rest) (ap (λ ls. let x : Settled = record { leases = ls; log = c.log; next = c.next; over = c.over; led = c.led } in x) q.same)
