-- A client hears how what was led ended.
use Rattle.std.proofs.Common.{◌≡◌, ℕ, ◌+◌, ◌==◌, true, List, ◌∷◌, map, refl, sym, ap, ◌∙◌, subst, inr}
use Rattle.std.specs.Prelude.{Option, Some, None}
use Rattle.fs_ident.specs.In.{In}
use Rattle.fs_ident.specs.declared.actor.Session.{Session}
use Rattle.fs_ident.proofs.Booleans.{second}
use Rattle.fs_ident.proofs.Standing.{In-map, In-mapped}
use Rattle.fs_field.specs.declared.effect.Effect.{Effect}
use Rattle.fs_msg.specs.declared.answer.Answer.{Answer}
use Rattle.fs_msg.specs.declared.answer.Answer.TheVariants.{Led}
use Rattle.fs_msg.specs.declared.client_msg.ClientMsg.{ClientMsg}
use Rattle.fs_msg.specs.declared.item.Item.{Item}
use Rattle.fs_record.specs.declared.led_end.LedEnd.{LedEnd}
use Rattle.fs_record.specs.declared.led_end.LedEnd.TheVariants as end
use Rattle.fs_client.specs.Answers.{answer_fits, ended_plan}
use Rattle.fs_client.specs.Client.{changed, with_led_done, with_led_freed}
use Rattle.fs_client.specs.Led.{effects_of_led, end_fits, without_led_pins}
use Rattle.fs_client.specs.Turns.{pair_of}
use Rattle.fs_client.specs.declared.exchange.Exchange.{Exchange}
use Rattle.fs_client.specs.declared.exchange.Exchange.TheVariants.{Leads}
use Rattle.fs_client.specs.declared.led.Led.{Led as TheLed}
use Rattle.fs_client.specs.declared.state.Client.{Client}
use Rattle.fs_view.specs.declared.view_lease.ViewLease.{ViewLease}
use Rattle.fs_view.specs.ViewLease.{entries_of, is_leaving, number_of}
use Rattle.fs_view.specs.View.{knowing, unpinned_all}
use Rattle.fs_serial.specs.Client.{ClientFits, led_before, times_in, times_used}
use Rattle.fs_serial.specs.Exchange.{ExchangeFits, ReturnFits, ReturnsFit}
use Rattle.fs_serial.specs.Parts.{SessionFits, SessionHolds}
use Rattle.fs_serial.specs.Pending.{HasLease}
use Rattle.fs_serial.specs.Settled.{Settled, lease_after, led_done, led_ended, led_freed, settled, settled_now, told}
use Rattle.fs_serial.specs.Sight.{Sight}
use Rattle.fs_serial.proofs.Lists.Journals.{each_image}
use Rattle.fs_serial.proofs.ClientMessages.Heard.{IsHeard, heard, quiet_exchange}
use Rattle.fs_serial.proofs.ClientMessages.HearsShipped.{HasAdmitted, WasKept, counted_all, distinct_all, known_leases, unpinned_leases, was_all}
use Rattle.fs_serial.proofs.Replies.ReplyPins.{distinct_mapped}
use Rattle.fs_serial.proofs.ClientMessages.SessionStates.{SessionStateHolds, seen_at}

module _ (by : Session) (c : Client) (l : TheLed) (is : c.led ≡ Some l) (f : ClientFits by c) where
  -- each lease is in use by what is led and by the log
  counted : (k : ViewLease) → In k c.view.leases → entries_of k.standing ≡ times_used (number_of k.standing) l.entry.uses + times_in (number_of k.standing) c.log
  counted k i = f.pinned k i ∙ ap (λ o. times_in (number_of k.standing) (led_before o c.log)) is

  -- ## It is done

  module _ (es : List Effect) where
    abbrev knows : List ViewLease
    knows = map (knowing by es) c.view.leases

    abbrev done : Client
    done = record c { view = record { session = by; leases = unpinned_all l.entry.uses knows; pending = c.view.pending }; exchange = None; led = None; next = c.next + 1 }

    is_done : done ≡ with_led_done es c
    is_done =
        ap (λ s. let x : Client = record c { view = record { session = s; leases = unpinned_all l.entry.uses (map (knowing s es) c.view.leases); pending = c.view.pending }; exchange = None; led = None; next = c.next + 1 } in x) (sym f.viewed)
        ∙ ap (λ o. let x : Client = record c { view = without_led_pins o (record c.view { leases = map (knowing c.view.session es) c.view.leases }); exchange = None; led = None; next = c.next + 1 } in x) (sym is)

    done_settled : settled_now done ≡ led_done by es (settled_now c)
    done_settled = ap (λ ls. let x : Settled = record { leases = ls; log = c.log; next = c.next + 1; over = c.over; led = None } in x) (unpinned_leases l.entry.uses knows ∙ known_leases by es c.view.leases)

    done_was : (k : ViewLease) → In k done.view.leases → WasKept c.view.leases k
    done_was k i =
        let q = was_all l.entry.uses knows k i in
        let p = In-map (knowing by es) q.kept c.view.leases q.among in
        record { kept = p.0; among = p.1.0; pair = ap pair_of (sym p.1.1) ∙ q.pair; leaving = ap (λ (y : ViewLease). is_leaving y.standing) (sym p.1.1) ∙ q.leaving }

    done_client : ClientFits by done
    done_client = record {
      session = f.session;
      viewed = refl;
      pending = f.pending;
      distinct = distinct_all l.entry.uses knows (distinct_mapped (knowing by es) (λ k. refl) c.view.leases f.distinct);
      pinned = counted_all l.entry.uses knows (λ n. times_in n c.log) (each_image (knowing by es) (λ k. entries_of k.standing ≡ times_used (number_of k.standing) l.entry.uses + times_in (number_of k.standing) c.log) c.view.leases counted);
      held = λ y i u j.
          let q : HasLease (settled_now c).leases u = f.held y (subst (λ o. In y (led_before o c.log)) (sym is) (inr i)) u j in
          record { lease = lease_after by es q.lease; held = subst (λ (d : Settled). In (lease_after by es q.lease) d.leases) (sym done_settled) (In-mapped (lease_after by es) q.lease (settled_now c).leases q.held); number = q.number; field = q.field; kind = q.kind };
    }

    done_ended : HasAdmitted by c (with_led_done es c) (led_done by es (settled_now c))
    done_ended = subst (λ d. HasAdmitted by c d (led_done by es (settled_now c))) is_done (record { settled = done_settled; client = done_client; was = done_was })

  -- ## It is not

  abbrev freed : Client
  freed = record c { view = record c.view { leases = unpinned_all l.entry.uses c.view.leases }; exchange = None; led = None }

  is_freed : freed ≡ with_led_freed c
  is_freed = ap (λ o. let x : Client = record c { view = without_led_pins o c.view; exchange = None; led = None } in x) (sym is)

  freed_settled : settled_now freed ≡ led_freed (settled_now c)
  freed_settled = ap (λ ls. let x : Settled = record { leases = ls; log = c.log; next = c.next; over = c.over; led = None } in x) (unpinned_leases l.entry.uses c.view.leases)

  freed_client : ClientFits by freed
  freed_client = record {
    session = f.session;
    viewed = f.viewed;
    pending = f.pending;
    distinct = distinct_all l.entry.uses c.view.leases f.distinct;
    pinned = counted_all l.entry.uses c.view.leases (λ n. times_in n c.log) counted;
    held = λ y i u j.
        let q : HasLease (settled_now c).leases u = f.held y (subst (λ o. In y (led_before o c.log)) (sym is) (inr i)) u j in
        record { lease = q.lease; held = subst (λ (d : Settled). In q.lease d.leases) (sym freed_settled) q.held; number = q.number; field = q.field; kind = q.kind };
  }

  freed_ended : HasAdmitted by c (with_led_freed c) (led_freed (settled_now c))
  freed_ended = subst (λ d. HasAdmitted by c d (led_freed (settled_now c))) is_freed (record { settled = freed_settled; client = freed_client; was = was_all l.entry.uses c.view.leases })

  -- ## However it ends

  pub led_heard : (e : LedEnd) → HasAdmitted by c (changed (ended_plan l e c).ready.change c) (told by (Led e) (settled_now c))
  led_heard (end.Done r) = subst (λ o. HasAdmitted by c (with_led_done (effects_of_led l r) c) (led_ended by o (end.Done r) (settled_now c))) (sym is) (done_ended (effects_of_led l r))
  led_heard (end.Ended lease until now) = subst (λ o. HasAdmitted by c (with_led_freed c) (led_ended by o (end.Ended lease until now) (settled_now c))) (sym is) freed_ended
  led_heard (end.Again why) = subst (λ o. HasAdmitted by c (with_led_freed c) (led_ended by o (end.Again why) (settled_now c))) (sym is) freed_ended

-- then no question stands
quiet_then : (l : TheLed) (e : LedEnd) (c : Client) → (changed (ended_plan l e c).ready.change c).exchange ≡ None
quiet_then l (end.Done r) c = refl
quiet_then l (end.Ended lease until now) c = refl
quiet_then l (end.Again why) c = refl

-- all that holds of its session
pub session_led : (skew greatest : ℕ) (s : Sight) (by : Session) (replied : List Item) (c : Client) (up : List ClientMsg) (l : TheLed) (is : c.led ≡ Some l) (e : LedEnd) (rest : List Answer) → SessionStateHolds skew greatest s by replied c up (Led e ∷ rest) → SessionStateHolds skew greatest s by replied (changed (ended_plan l e c).ready.change c) up rest
session_led skew greatest s by replied c up l is e rest h =
    let w : IsHeard c up (Led e) rest = heard c c.exchange up (Led e) rest refl refl h.exchange.one in
    let then_ : Client = changed (ended_plan l e c).ready.change c in
    let q : HasAdmitted by c then_ (told by (Led e) (settled_now c)) = led_heard by c l is h.client e in
    let seen : seen_at by c (Led e ∷ rest) ≡ seen_at by then_ rest = ap (settled by rest) (sym q.settled) in
    let returns : ReturnsFit s.given s.rows by then_.view.leases (seen_at by then_ rest).leases = λ k i t.
    let p = q.was k i in
    subst (λ n. ReturnFits s.given s.rows by (seen_at by then_ rest).leases n) p.pair (subst (λ (d : Settled). ReturnFits s.given s.rows by d.leases (pair_of p.kept)) seen (h.exchange.returns p.kept p.among (p.leaving ∙ t))) in
    record {
      holds = subst (SessionHolds skew greatest s by replied) seen h.holds;
      fits = subst (SessionFits skew greatest s by) seen h.fits;
      client = q.client;
      exchange = subst (λ up. ExchangeFits skew greatest s.given s.rows by then_ up rest (settled_now then_) (seen_at by then_ rest)) (sym w.asked) (quiet_exchange skew greatest s.given s.rows by then_ rest (settled_now then_) (seen_at by then_ rest) (quiet_then l e c) w.quiet returns);
    }

-- it was going to know so
pub led_seen : (skew greatest : ℕ) (s : Sight) (by : Session) (replied : List Item) (c : Client) (up : List ClientMsg) (l : TheLed) (is : c.led ≡ Some l) (e : LedEnd) (rest : List Answer) → SessionStateHolds skew greatest s by replied c up (Led e ∷ rest) → seen_at by (changed (ended_plan l e c).ready.change c) rest ≡ seen_at by c (Led e ∷ rest)
led_seen skew greatest s by replied c up l is e rest h = ap (settled by rest) (led_heard by c l is h.client e).settled

-- something is led where such an answer fits
led_there : (e : LedEnd) (led : Option TheLed) → end_fits led e ≡ true → (l : TheLed) × (led ≡ Some l)
led_there e None h = absurd (cc)
led_there e (Some l) h = (l, refl)

pub led_fits : (from : ℕ) (x : Exchange) (e : LedEnd) (c : Client) → answer_fits from x (Led e) c ≡ true → (l : TheLed) × (c.led ≡ Some l)
led_fits from (Leads to) e c h = led_there e c.led (second (to == from) (end_fits c.led e) h)
led_fits from x e c h = absurd (cc)
