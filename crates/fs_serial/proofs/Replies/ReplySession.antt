-- A client answers an operation: all that holds of its session.
use Rattle.std.proofs.Common.{◌≡◌, ℕ, List, [], ◌∷◌, ◌++◌, refl, sym, ap, ◌∙◌, subst}
use Rattle.fs_ident.specs.In.{In}
use Rattle.fs_ident.specs.declared.actor.LeaseNo.{LeaseNo}
use Rattle.fs_ident.specs.declared.actor.Session.{Session}
use Rattle.fs_ident.proofs.Standing.{In-map, In-mapped}
use Rattle.fs_field.specs.declared.used.Use.{Use}
use Rattle.fs_model.specs.declared.op.Op.{Op}
use Rattle.fs_model.specs.declared.reply.Reply.{Reply}
use Rattle.fs_msg.specs.declared.answer.Answer.{Answer}
use Rattle.fs_msg.specs.declared.client_msg.ClientMsg.{ClientMsg}
use Rattle.fs_msg.specs.declared.entry.Entry.{Entry}
use Rattle.fs_msg.specs.declared.item.Item.{Item}
use Rattle.fs_client.specs.Acts.{entry_of, replies}
use Rattle.fs_client.specs.Client.{changed}
use Rattle.fs_client.specs.Turns.{pair_of}
use Rattle.fs_client.specs.declared.state.Client.{Client}
use Rattle.fs_record.specs.Effects.{effects_of}
use Rattle.fs_server.specs.Ships.{item_of}
use Rattle.fs_view.specs.declared.view_lease.ViewLease.{ViewLease}
use Rattle.fs_view.specs.ViewLease.{number_of, is_leaving, pinned}
use Rattle.fs_view.specs.View.{pinned_at, pinned_all}
use Rattle.fs_view.proofs.Pins.{with_pin}
use Rattle.fs_view.proofs.Changed.{pinned_number}
use Rattle.fs_serial.specs.Exchange.{ExchangeFits}
use Rattle.fs_serial.specs.Parts.{SessionHolds, SessionFits}
use Rattle.fs_serial.specs.Settled.{Settled, settled_now}
use Rattle.fs_serial.specs.Sight.{Sight}
use Rattle.fs_serial.specs.Steps.{IsReplied}
use Rattle.fs_serial.proofs.ClientMessages.Carried.{GoesOnAs, exchange_still}
use Rattle.fs_serial.proofs.Grants.Claims.{AreUnborn, NoneAnew}
use Rattle.fs_serial.proofs.OtherSessions.Gone.{MakeAnew}
use Rattle.fs_serial.proofs.Replies.Reply.{with_last, reply_anew, reply_holds, reply_fits}
use Rattle.fs_serial.proofs.Replies.ReplyAll.{replied_client, replied_settled}
use Rattle.fs_serial.proofs.Replies.ReplyNext.{next}
use Rattle.fs_serial.proofs.Replies.ReplyPins.{one_keeps, pair_in, pin_pair, pin_leaving, reply_settled}
use Rattle.fs_serial.proofs.ClientMessages.SessionStates.{SessionStateHolds, seen_at}

-- ## Pinned leases keep their numbers and files, and which go back

pub pinned_before : (us : List Use) (ks : List ViewLease) (k : ViewLease) → In k (pinned_all us ks) → (j : ViewLease) × In j ks × (pair_of j ≡ pair_of k) × (is_leaving j.standing ≡ is_leaving k.standing)
pinned_before [] ks k i = (k, i, refl, refl)
pinned_before (u ∷ us) ks k i =
    let q = pinned_before us (pinned_at u.no ks) k i in
    let p = In-map (with_pin u.no) q.0 ks q.1 in
    (p.0, p.1.0, sym (one_keeps pair_in pinned pin_pair u.no p.0) ∙ ap pair_of (sym p.1.1) ∙ q.2, sym (one_keeps is_leaving pinned pin_leaving u.no p.0) ∙ ap (λ (x : ViewLease). is_leaving x.standing) (sym p.1.1) ∙ q.3)

pub pinned_after : (us : List Use) (ks : List ViewLease) (k : ViewLease) → In k ks → (j : ViewLease) × In j (pinned_all us ks) × (number_of j.standing ≡ number_of k.standing) × (is_leaving j.standing ≡ is_leaving k.standing)
pinned_after [] ks k i = (k, i, refl, refl)
pinned_after (u ∷ us) ks k i =
    let q = pinned_after us (pinned_at u.no ks) (with_pin u.no k) (In-mapped (with_pin u.no) k ks i) in
    (q.0, q.1, q.2 ∙ one_keeps number_of pinned pinned_number u.no k, q.3 ∙ one_keeps is_leaving pinned pin_leaving u.no k)

module _ (skew greatest : ℕ) (s : Sight) (by : Session) (replied : List Item) (c : Client) (up : List ClientMsg) (down : List Answer) (o : Op) (r : Reply) (h : SessionStateHolds skew greatest s by replied c up down) (anew : MakeAnew by s.journal (seen_at by c down).log) (unborn : AreUnborn s.records (seen_at by c down)) (a : IsReplied c down o r) where
  abbrev e : Entry
  e = entry_of o r c

  abbrev then : Client
  then = changed (replies o r c).ready.change c

  abbrev d : Settled
  d = seen_at by c down

  goes_on : GoesOnAs c then (e ∷ [])
  goes_on = record {
    exchange = refl;
    led = refl;
    fewer = λ k i. let q = pinned_before e.uses c.view.leases k i in record { kept = q.0; among = q.1; number = ap (λ (p : List ℕ × LeaseNo). p.1) q.2 };
    log = refl;
    went = λ k i t. let q = pinned_before e.uses c.view.leases k i in record { kept = q.0; among = q.1; pair = q.2; leaving = q.3 ∙ t };
    goes = λ k i t. let q = pinned_after e.uses c.view.leases k i in record { kept = q.0; among = q.1; number = q.2; leaving = q.3 ∙ t };
  }

  same_leases : (settled_now then).leases ≡ (settled_now c).leases
  same_leases = ap (λ (x : Settled). x.leases) (reply_settled c e (effects_of c.session e.op r))

  seen : seen_at by then down ≡ with_last e d
  seen = replied_settled by c down o r a h.client

  -- what it names was reserved by a lease
  pub reply_reserves : NoneAnew d (seen_at by then down)
  reply_reserves = subst (NoneAnew d) (sym seen) (reply_anew by d e (next by c down o r a.reply h.client a.unled a.plain a.asked h.fits.fresh h.fits.entries))

  pub session_reply : SessionStateHolds skew greatest s by (replied ++ item_of by e ∷ []) then up down
  session_reply =
      let n = next by c down o r a.reply h.client a.unled a.plain a.asked h.fits.fresh h.fits.entries in
      record {
        holds = subst (SessionHolds skew greatest s by (replied ++ item_of by e ∷ [])) (sym seen) (reply_holds skew greatest s by replied d e n h.holds h.fits anew unborn);
        fits = subst (SessionFits skew greatest s by) (sym seen) (reply_fits skew greatest s by replied d e n h.holds h.fits);
        client = replied_client by c down o r a h.client;
        exchange = subst (ExchangeFits skew greatest s.given s.rows by then up down (settled_now then)) (sym seen)
            (exchange_still skew greatest s.given s.rows by c then (e ∷ []) up down (settled_now c) (settled_now then) d (with_last e d) goes_on
            (λ l i. record { lease = l; held = subst (In l) same_leases i; number = refl }) (λ l i. record { lease = l; held = i; number = refl }) refl refl h.exchange);
      }
