-- A client gives leases back.
use Rattle.std.proofs.Common.{◌≡◌, ℕ, ◌≤◌, true, false, List, [], ◌∷◌, ◌++◌, map, refl, sym, ap, ◌∙◌, subst, inl, inr, arith}
use Rattle.std.specs.Prelude.{Some, None, option_map}
use Rattle.fs_ident.specs.In.{In}
use Rattle.fs_ident.specs.declared.actor.LeaseNo.{LeaseNo}
use Rattle.fs_ident.specs.declared.actor.Session.{Session}
use Rattle.fs_ident.proofs.Standing.{In-filter, In-map}
use Rattle.fs_field.specs.declared.used.Use.{Use}
use Rattle.fs_lease.specs.Lease.{Lease as Term}
use Rattle.fs_msg.specs.declared.answer.Answer.{Answer}
use Rattle.fs_msg.specs.declared.client_msg.ClientMsg.{ClientMsg}
use Rattle.fs_msg.specs.declared.client_msg.ClientMsg.TheVariants.{Release}
use Rattle.fs_msg.specs.declared.entry.Entry.{Entry}
use Rattle.fs_msg.specs.declared.item.Item.{Item}
use Rattle.fs_client.specs.Client.{with_release}
use Rattle.fs_client.specs.Turns.{pair_of, numbers_in, returned, has_to_go}
use Rattle.fs_client.specs.declared.exchange.Exchange.TheVariants.{Releases}
use Rattle.fs_client.specs.declared.state.Client.{Client}
use Rattle.fs_parcel.proofs.Both.{passing}
use Rattle.fs_server.specs.Asks.{kind_for}
use Rattle.fs_view.specs.declared.view_lease.ViewLease.{ViewLease}
use Rattle.fs_view.specs.declared.view_lease.Standing.{Standing}
use Rattle.fs_view.specs.declared.view_lease.Standing.TheVariants.{Held, Pinned, Leaving}
use Rattle.fs_view.specs.ViewLease.{number_of, is_leaving, is_pinned, entries_of, lease_of}
use Rattle.fs_serial.specs.Client.{led_before, KeptDistinct, times_in}
use Rattle.fs_serial.specs.Exchange.{due, IsFront, IsReturned, PairFits, ReturnFits, ReturnsFit}
use Rattle.fs_serial.specs.Parts.{SessionHolds, SessionFits}
use Rattle.fs_serial.specs.Pending.{HasLease}
use Rattle.fs_serial.specs.Settled.{Lease, Settled, lease_in, lease_with, settled_now}
use Rattle.fs_serial.specs.Sight.{Sight}
use Rattle.fs_serial.proofs.Grants.Claims.{NoneAnew, none_anew_in}
use Rattle.fs_serial.proofs.OtherSessions.Fewer.{HasFewer, fewer_holds, fewer_fits}
use Rattle.fs_serial.proofs.ClientMessages.Heard.{quiet_renewed}
use Rattle.fs_serial.proofs.Returns.KeptPairs.{kept_pair, releases_pairs}
use Rattle.fs_serial.proofs.Replies.Knowing.{In-filter_map, from-filter_map}
use Rattle.fs_serial.proofs.Returns.Lapse.{IsUsed, its_number, used_in}
use Rattle.fs_serial.proofs.ClientMessages.SessionStates.{SessionStateHolds, seen_at, idle_due, settled_none}
use Rattle.fs_serial.proofs.ClientMessages.Sends.{IsAsking, asking_exchange, CameFrom, came_all, goes_all, left_all, all_session, all_pending, all_distinct, pair_numbers_of, unused_returned, led_nothing}

used_pinned : (s : Standing) → 1 ≤ entries_of s → is_pinned s ≡ true
used_pinned (Held l) h = absurd (omega arith)
used_pinned (Pinned u) h = refl
used_pinned (Leaving l) h = absurd (omega arith)

-- one that does not go back has its lease
pub record HasTerm (s : Standing) : Type 0 where
  pub term : Term
  pub is : lease_of s ≡ Some term

has_term : (s : Standing) → is_leaving s ≡ false → HasTerm s
has_term (Held l) h = record { term = l; is = refl }
has_term (Pinned u) h = record { term = u.lease; is = refl }
has_term (Leaving l) h = absurd (cc)

gone_lease : (k : ViewLease) (s : Standing) (l : Lease) → k.standing ≡ s → is_leaving s ≡ true → lease_in k ≡ Some l → ⊥
gone_lease k (Held x) l e t h = absurd (cc)
gone_lease k (Pinned u) l e t h = absurd (cc)
gone_lease k (Leaving x) l e t h = absurd (let q : None ≡ Some l = sym (ap (λ s. option_map (lease_with k) (lease_of s)) e) ∙ h in cc)

module _ (skew greatest : ℕ) (s : Sight) (by : Session) (replied : List Item) (c : Client) (up : List ClientMsg) (down : List Answer) (to : ℕ) (ks : List ViewLease) (these : (k : ViewLease) → In k ks → In k (returned c.view)) (idle : c.exchange ≡ None) (h : SessionStateHolds skew greatest s by replied c up down) where
  abbrev ns : List LeaseNo
  ns = numbers_in ks

  abbrev then : Client
  then = with_release to ns c

  among : (k : ViewLease) → In k ks → In k c.view.leases
  among k i = In-filter (λ (k : ViewLease). has_to_go k.recalled k.standing) k c.view.leases (these k i)

  none : (up ≡ []) × (due down ≡ [])
  none = idle_due c c.exchange up down idle h.exchange.one

  now : seen_at by c down ≡ settled_now c
  now = settled_none by down (settled_now c) none.1

  later : seen_at by then down ≡ settled_now then
  later = settled_none by down (settled_now then) none.1

  fewer : HasFewer (IsUsed (led_before c.led c.log)) (settled_now c) (settled_now then)
  fewer = record {
    log = refl;
    next = refl;
    over = refl;
    led = refl;
    fewer = λ l i.
        let q = from-filter_map lease_in l then.view.leases i in
        let k : CameFrom c.view.leases q.0 = came_all ns c.view q.0 q.1 in
        In-filter_map lease_in k.kept l c.view.leases k.among (k.lease l q.2);
    still = λ l i u.
        let q = from-filter_map lease_in l c.view.leases i in
        let more : 1 ≤ times_in (number_of q.0.standing) (led_before c.led c.log) = used_in (number_of q.0.standing) (led_before c.led c.log) u.entry u.logged u.used u.among (u.number ∙ sym (its_number q.0 l q.2)) in
        let pins = h.client.pinned q.0 q.1 in
        let g = goes_all ns c.view q.0 q.1 in
        In-filter_map lease_in q.0 l then.view.leases (subst (λ k. In k then.view.leases) (g.pinned (used_pinned q.0.standing (omega arith))) g.among) q.2;
  }

  used : (x : Entry) → In x (led_before c.led c.log) → (u : Use) → In u x.uses → IsUsed (led_before c.led c.log) u.no
  used x i u j = record { entry = x; logged = i; used = u; among = j; number = refl }

  distinct : KeptDistinct then.view.leases
  distinct = all_distinct ns c.view h.client.distinct

  -- an old one
  still_returned : (k : ViewLease) → ReturnFits s.given s.rows by (settled_now c).leases (pair_of k) → ReturnFits s.given s.rows by (settled_now then).leases (pair_of k)
  still_returned k q = record { fits = q.fits; alone = λ m i. q.alone m (fewer.fewer m i); own = q.own }

  -- a new one
  new_returned : (k : ViewLease) → In k then.view.leases → is_leaving k.standing ≡ true → (q : CameFrom c.view.leases k) → is_leaving q.kept.standing ≡ false → ReturnFits s.given s.rows by (settled_now then).leases (pair_of k)
  new_returned k i t q stays =
      let p : HasTerm q.kept.standing = has_term q.kept.standing stays in
      let l : Lease = lease_with q.kept p.term in
      let is : lease_in q.kept ≡ Some l = ap (option_map (lease_with q.kept)) p.is in
      let there : In l (seen_at by c down).leases = subst (λ (d : Settled). In l d.leases) (sym now) (In-filter_map lease_in q.kept l c.view.leases q.among is) in
      let no : l.no ≡ number_of k.standing = sym (its_number q.kept l is) ∙ q.number in
      record {
        fits = subst (PairFits s.given s.rows) q.pair (kept_pair skew greatest s by replied c up down idle h q.kept q.among);
        alone = λ m j e.
            let x = from-filter_map lease_in m then.view.leases j in
            let same : x.0 ≡ k = distinct x.0 k x.1 i (its_number x.0 m x.2 ∙ e) in
            gone_lease x.0 x.0.standing m refl (ap (λ (k : ViewLease). is_leaving k.standing) same ∙ t) x.2;
        own = λ r j e. (h.fits.matching l there r j (e ∙ sym no)).session;
      }

  returns : ReturnsFit s.given s.rows by then.view.leases (settled_now then).leases
  returns k i t =
      let q : CameFrom c.view.leases k = came_all ns c.view k i in
      elim (is_leaving q.kept.standing) as (λ b. is_leaving q.kept.standing ≡ b → ReturnFits s.given s.rows by (settled_now then).leases (pair_of k)) [
        | true ↦ λ z. still_returned k (subst (ReturnFits s.given s.rows by (settled_now c).leases) q.pair (subst (λ (d : Settled). ReturnFits s.given s.rows by d.leases (pair_of q.kept)) now (h.exchange.returns q.kept q.among z)))
        | false ↦ λ z. new_returned k i t q z
      ] refl

  asks : IsAsking s.given s.rows c (Releases to ns) (Release (map pair_of ks)) then.view.leases (settled_now then)
  asks = record {
    question = pair_numbers_of ks;
    ships = tt;
    front = λ entries i. elim i as (λ _. IsFront entries (settled_now then)) [ inl e ↦ absurd (cc) | inr z ↦ absurd z ];
    leads = led_nothing (Release (map pair_of ks)) c.led (λ n e. absurd (cc));
    released = λ n i.
        let q = In-map (λ (k : ViewLease). number_of k.standing) n ks i in
        let j : In q.0 c.view.leases = among q.0 q.1.0 in
        subst (IsReturned then.view.leases) (sym q.1.1) (left_all ns c.view q.0 j (subst (λ m. In m ns) q.1.1 i) (unused_returned q.0.recalled q.0.standing (goes_back q.0 q.1.0)));
    kinds = λ xs f i x j. elim i as (λ _. kind_for x.0 x.1 ≡ x.1) [ inl e ↦ absurd (cc) | inr z ↦ absurd z ];
    pairs = releases_pairs s.given s.rows ks (λ k i. kept_pair skew greatest s by replied c up down idle h k (among k i));
  }
    where
      goes_back : (k : ViewLease) → In k ks → has_to_go k.recalled k.standing ≡ true
      goes_back k i = passing (λ (k : ViewLease). has_to_go k.recalled k.standing) c.view.leases k (these k i)

  pub session_releases : SessionStateHolds skew greatest s by replied then (up ++ Release (map pair_of ks) ∷ []) down
  session_releases = record {
    holds = subst (SessionHolds skew greatest s by replied) (sym later) (fewer_holds skew greatest s by replied (IsUsed (led_before c.led c.log)) (settled_now c) (settled_now then) fewer used (subst (SessionHolds skew greatest s by replied) now h.holds));
    fits = subst (SessionFits skew greatest s by) (sym later) (fewer_fits skew greatest s by replied (IsUsed (led_before c.led c.log)) (settled_now c) (settled_now then) fewer used (subst (SessionFits skew greatest s by) now h.fits));
    client = record {
      session = h.client.session;
      viewed = all_session ns c.view ∙ h.client.viewed;
      pending = all_pending ns c.view ∙ h.client.pending;
      distinct = distinct;
      pinned = λ k i. let q : CameFrom c.view.leases k = came_all ns c.view k i in sym q.entries ∙ h.client.pinned q.kept q.among ∙ ap (λ n. times_in n (led_before c.led c.log)) q.number;
      held = λ x i u j. let q : HasLease (settled_now c).leases u = h.client.held x i u j in record { lease = q.lease; held = fewer.still q.lease q.held (record { entry = x; logged = i; used = u; among = j; number = sym q.number }); number = q.number; field = q.field; kind = q.kind };
    };
    exchange = asking_exchange skew greatest s.given s.rows by c then (Releases to ns) (Release (map pair_of ks)) up down (settled_now then) (seen_at by then down) refl refl refl none.0 none.1
        (subst (IsAsking s.given s.rows c (Releases to ns) (Release (map pair_of ks)) then.view.leases) (sym later) asks)
        (subst (λ (d : Settled). ReturnsFit s.given s.rows by then.view.leases d.leases) (sym later) returns)
        (λ ends e i. absurd (quiet_renewed down none.1 ends e i));
  }

  -- no lease is new in what is seen
  pub releases_anew : NoneAnew (seen_at by c down) (seen_at by then down)
  releases_anew = subst (NoneAnew (seen_at by c down)) (sym later) (subst (λ (d : Settled). NoneAnew d (settled_now then)) (sym now) (none_anew_in (settled_now c) (settled_now then) fewer.fewer (λ x i. subst (In x) fewer.log i)))
