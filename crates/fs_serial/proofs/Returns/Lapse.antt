-- A client's leases that no entry uses lapse at their ends.
use Rattle.std.proofs.Common.{◌≡◌, ℕ, ◌+◌, ◌≤◌, not, Bool, true, false, List, [], ◌∷◌, refl, sym, ap, ◌∙◌, subst, inl, inr, cond, arith, append-nil, max}
use Rattle.std.specs.Prelude.{Option, Some, None, option_map}
use Rattle.fs_ident.specs.In.{In}
use Rattle.fs_ident.specs.declared.actor.LeaseNo.{LeaseNo}
use Rattle.fs_ident.specs.declared.actor.Session.{Session}
use Rattle.fs_ident.proofs.Standing.{In-filter}
use Rattle.fs_field.specs.declared.used.Use.{Use}
use Rattle.fs_field.specs.Table.{same_no}
use Rattle.fs_field.proofs.SameNo.{same_no_self}
use Rattle.fs_lease.specs.Lease.{Lease as Term}
use Rattle.fs_msg.specs.declared.answer.Answer.{Answer}
use Rattle.fs_msg.specs.declared.client_msg.ClientMsg.{ClientMsg}
use Rattle.fs_msg.specs.declared.entry.Entry.{Entry}
use Rattle.fs_msg.specs.declared.item.Item.{Item}
use Rattle.fs_client.specs.Client.{begun}
use Rattle.fs_client.specs.declared.state.Client.{Client}
use Rattle.fs_view.specs.declared.view_lease.ViewLease.{ViewLease}
use Rattle.fs_view.specs.declared.view_lease.Standing.{Standing}
use Rattle.fs_view.specs.declared.view_lease.Standing.TheVariants.{Held, Pinned, Leaving}
use Rattle.fs_view.specs.ViewLease.{lease_of, number_of, entries_of, has_ended, is_leaving}
use Rattle.fs_serial.specs.Client.{led_before, ClientFits, times_used, times_in}
use Rattle.fs_serial.specs.Pending.{HasLease}
use Rattle.fs_serial.specs.Settled.{Lease, lease_in, lease_with, settled_now}
use Rattle.fs_serial.specs.Sight.{Sight}
use Rattle.fs_serial.proofs.ClientMessages.Carried.{GoesOnAs, exchange_still}
use Rattle.fs_serial.proofs.OtherSessions.Fewer.{HasFewer, settled_fewer, fewer_holds, fewer_fits}
use Rattle.fs_serial.proofs.Replies.Knowing.{In-filter_map, from-filter_map}
use Rattle.fs_serial.proofs.Grants.RowKinds.{In-kept}
use Rattle.fs_serial.proofs.ClientMessages.SessionStates.{SessionStateHolds, seen_at}
use Rattle.fs_serial.proofs.ClientMessages.Settling.{settled_before}

-- ## Used leases

-- an entry of the log uses the lease
pub record IsUsed (log : List Entry) (wanted : LeaseNo) : Type 0 where
  pub entry : Entry
  pub logged : In entry log
  pub used : Use
  pub among : In used entry.uses
  pub number : used.no ≡ wanted

some_more : (b : Bool) (n : ℕ) → b ≡ true → 1 ≤ cond b (n + 1) n
some_more true n h = omega arith
some_more false n h = absurd (cc)

no_less : (b : Bool) (n : ℕ) → n ≤ cond b (n + 1) n
no_less true n = omega arith
no_less false n = omega arith

used_once : (n : LeaseNo) (us : List Use) (u : Use) → In u us → u.no ≡ n → 1 ≤ times_used n us
used_once n [] u i e = absurd i
used_once n (x ∷ us) u (inl q) e = some_more (same_no x.no n) (times_used n us) (ap (λ y. same_no y n) (ap (λ (u : Use). u.no) (sym q) ∙ e) ∙ same_no_self n)
used_once n (x ∷ us) u (inr i) e = let p = used_once n us u i e in let q = no_less (same_no x.no n) (times_used n us) in omega arith

pub used_in : (n : LeaseNo) (log : List Entry) (x : Entry) → In x log → (u : Use) → In u x.uses → u.no ≡ n → 1 ≤ times_in n log
used_in n [] x i u j e = absurd i
used_in n (y ∷ log) x (inl q) u j e = let p = used_once n y.uses u (subst (λ (z : Entry). In u z.uses) q j) e in omega arith
used_in n (y ∷ log) x (inr i) u j e = let p = used_in n log x i u j e in omega arith

-- a lease of which entries make use is not over
in_use : (now : ℕ) (s : Standing) → 1 ≤ entries_of s → has_ended now s ≡ false
in_use now (Held l) h = absurd (omega arith)
in_use now (Pinned u) h = refl
in_use now (Leaving l) h = refl

leaving_stays : (now : ℕ) (s : Standing) → is_leaving s ≡ true → has_ended now s ≡ false
leaving_stays now (Held l) h = absurd (cc)
leaving_stays now (Pinned u) h = absurd (cc)
leaving_stays now (Leaving l) h = refl

pub number_there : (s : Standing) (t : Term) → lease_of s ≡ Some t → number_of s ≡ t.no
number_there (Held x) t e = let q : x ≡ t = cc in ap (λ (l : Term). l.no) q
number_there (Pinned u) t e = let q : u.lease ≡ t = cc in ap (λ (l : Term). l.no) q
number_there (Leaving x) t e = absurd (cc)

number_in : (k : ViewLease) (l : Lease) (o : Option Term) → lease_of k.standing ≡ o → option_map (lease_with k) o ≡ Some l → number_of k.standing ≡ l.no
number_in k l None e h = absurd (cc)
number_in k l (Some t) e h = number_there k.standing t e ∙ ap (λ (x : Lease). x.no) (let q : lease_with k t ≡ l = cc in q)

pub its_number : (k : ViewLease) (l : Lease) → lease_in k ≡ Some l → number_of k.standing ≡ l.no
its_number k l h = number_in k l (lease_of k.standing) refl h

-- ## The client

module _ (by : Session) (c : Client) (now : ℕ) (f : ClientFits by c) where
  abbrev at : ℕ
  at = max c.last now

  abbrev then : Client
  then = begun now c

  stays : (k : ViewLease) → In k c.view.leases → has_ended at k.standing ≡ false → In k then.view.leases
  stays k i h = In-kept (λ k. not (has_ended at k.standing)) k c.view.leases i (ap not h)

  was : (k : ViewLease) → In k then.view.leases → In k c.view.leases
  was k i = In-filter (λ k. not (has_ended at k.standing)) k c.view.leases i

  fewer : HasFewer (IsUsed (led_before c.led c.log)) (settled_now c) (settled_now then)
  fewer = record {
    log = refl;
    next = refl;
    over = refl;
    led = refl;
    fewer = λ l i. let q = from-filter_map lease_in l then.view.leases i in In-filter_map lease_in q.0 l c.view.leases (was q.0 q.1) q.2;
    still = λ l i u.
        let q = from-filter_map lease_in l c.view.leases i in
        let n : number_of q.0.standing ≡ l.no = its_number q.0 l q.2 in
        let more : 1 ≤ times_in (number_of q.0.standing) (led_before c.led c.log) = used_in (number_of q.0.standing) (led_before c.led c.log) u.entry u.logged u.used u.among (u.number ∙ sym n) in
        let pins = f.pinned q.0 q.1 in
        In-filter_map lease_in q.0 l then.view.leases (stays q.0 q.1 (in_use at q.0.standing (omega arith))) q.2;
  }

  pub lapse_client : ClientFits by then
  lapse_client = record {
    session = f.session;
    viewed = f.viewed;
    pending = f.pending;
    distinct = λ k l i j. f.distinct k l (was k i) (was l j);
    pinned = λ k i. f.pinned k (was k i);
    held = λ e i u j. let q : HasLease (settled_now c).leases u = f.held e i u j in record { lease = q.lease; held = fewer.still q.lease q.held (record { entry = e; logged = i; used = u; among = j; number = sym q.number }); number = q.number; field = q.field; kind = q.kind };
  }

  pub lapse_goes_on : GoesOnAs c then []
  lapse_goes_on = record {
    exchange = refl;
    led = refl;
    fewer = λ k i. record { kept = k; among = was k i; number = refl };
    log = sym (append-nil c.log);
    went = λ k i t. record { kept = k; among = was k i; pair = refl; leaving = t };
    goes = λ k i t. record { kept = k; among = stays k i (leaving_stays at k.standing t); number = refl; leaving = t };
  }

  pub lapse_fewer : (down : List Answer) → HasFewer (IsUsed (led_before c.led c.log)) (seen_at by c down) (seen_at by then down)
  lapse_fewer down = settled_fewer (IsUsed (led_before c.led c.log)) by down (settled_now c) (settled_now then) fewer

-- all that holds of its session
pub session_lapse : (skew greatest : ℕ) (s : Sight) (by : Session) (replied : List Item) (c : Client) (up : List ClientMsg) (down : List Answer) (now : ℕ) → SessionStateHolds skew greatest s by replied c up down → SessionStateHolds skew greatest s by replied (begun now c) up down
session_lapse skew greatest s by replied c up down now h =
    let g = lapse_fewer by c now h.client down in
    let used = λ (x : Entry) (i : In x (led_before (seen_at by c down).led (seen_at by c down).log)) (u : Use) (j : In u x.uses). let z : IsUsed (led_before c.led c.log) u.no = record { entry = x; logged = settled_before by down (settled_now c) x i; used = u; among = j; number = refl } in z in
    record {
      holds = fewer_holds skew greatest s by replied (IsUsed (led_before c.led c.log)) (seen_at by c down) (seen_at by (begun now c) down) g used h.holds;
      fits = fewer_fits skew greatest s by replied (IsUsed (led_before c.led c.log)) (seen_at by c down) (seen_at by (begun now c) down) g used h.fits;
      client = lapse_client by c now h.client;
      exchange = exchange_still skew greatest s.given s.rows by c (begun now c) [] up down (settled_now c) (settled_now (begun now c)) (seen_at by c down) (seen_at by (begun now c) down) (lapse_goes_on by c now h.client)
          (λ l i. record { lease = l; held = (lapse_fewer by c now h.client []).fewer l i; number = refl })
          (λ l i. record { lease = l; held = g.fewer l i; number = refl })
          (g.log ∙ sym (append-nil (seen_at by c down).log)) g.over h.exchange;
    }
