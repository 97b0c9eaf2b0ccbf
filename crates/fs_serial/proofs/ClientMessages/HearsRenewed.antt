-- A client hears the new ends of leases.
use Rattle.std.proofs.Common.{◌≡◌, ℕ, ◌+◌, ◌<◌, not, Bool, true, false, List, [], ◌∷◌, map, refl, sym, ap, ◌∙◌, subst, inl, inr, cond, arith}
use Rattle.std.proofs.lemmas.Bool.{false_from_ne_true}
use Rattle.std.specs.Prelude.{◌≢◌, Option, Some, None, is_some, find, option_map}
use Rattle.std.specs.Option.{option_map_or}
use Rattle.std.specs.List.{filter_map, cons_option}
use Rattle.fs_ident.specs.In.{In}
use Rattle.fs_ident.specs.declared.actor.LeaseNo.{LeaseNo}
use Rattle.fs_ident.specs.declared.actor.Session.{Session}
use Rattle.fs_ident.proofs.Passing.{found}
use Rattle.fs_ident.proofs.Standing.{In-filter, In-map}
use Rattle.fs_field.specs.declared.row.Row.{Row}
use Rattle.fs_field.specs.declared.used.Use.{Use}
use Rattle.fs_field.specs.declared.value.Value.{Value}
use Rattle.fs_field.specs.Field.{file_of}
use Rattle.fs_field.specs.Table.{same_no}
use Rattle.fs_field.proofs.SameNo.{same_no_is}
use Rattle.fs_msg.specs.declared.answer.Answer.{Answer}
use Rattle.fs_msg.specs.declared.answer.Answer.TheVariants.{Renewed}
use Rattle.fs_msg.specs.declared.client_msg.ClientMsg.{ClientMsg}
use Rattle.fs_msg.specs.declared.end.End.{End}
use Rattle.fs_msg.specs.declared.entry.Entry.{Entry}
use Rattle.fs_msg.specs.declared.item.Item.{Item}
use Rattle.fs_client.specs.Client.{renewed_one, renewed_all, with_renewed}
use Rattle.fs_client.specs.Turns.{pair_of}
use Rattle.fs_client.specs.declared.state.Client.{Client}
use Rattle.fs_view.specs.declared.view_lease.ViewLease.{ViewLease}
use Rattle.fs_view.specs.declared.view_lease.Standing.{Standing}
use Rattle.fs_view.specs.declared.view_lease.Standing.TheVariants.{Held, Pinned, Leaving}
use Rattle.fs_view.specs.ViewLease.{number_of, has_number, is_leaving, is_held, entries_of, lease_of, renewed}
use Rattle.fs_view.specs.View.{View, stands, with_end, without_lease}
use Rattle.fs_view.proofs.Changed.{renewed_number}
use Rattle.fs_serial.specs.Client.{led_before, ClientFits, times_in}
use Rattle.fs_serial.specs.Exchange.{ExchangeFits, ReturnFits, ReturnsFit}
use Rattle.fs_serial.specs.Leases.{IsBacked}
use Rattle.fs_serial.specs.Parts.{SessionHolds, SessionFits}
use Rattle.fs_serial.specs.Pending.{HasLease, UsesHeld}
use Rattle.fs_serial.specs.Settled.{Lease, Settled, lease_in, settled_now}
use Rattle.fs_serial.specs.Sight.{Sight}
use Rattle.fs_serial.specs.Fresh.{HoldsFresh}
use Rattle.fs_serial.specs.World.{HasNumber}
use Rattle.fs_serial.proofs.Grants.Claims.{NoneAnew, none_anew_held}
use Rattle.fs_serial.proofs.ClientMessages.Carried.{FewerLeases}
use Rattle.fs_serial.proofs.Lists.Journals.{each_image}
use Rattle.fs_serial.proofs.OtherSessions.Fewer.{HasFewer, fewer_holds, fewer_fits}
use Rattle.fs_serial.proofs.ClientMessages.Heard.{IsHeard, heard, quiet_exchange}
use Rattle.fs_serial.proofs.Replies.Knowing.{In-filter_map, from-filter_map}
use Rattle.fs_serial.proofs.Returns.Lapse.{IsUsed, its_number, used_in}
use Rattle.fs_serial.proofs.Replies.ReplyPins.{distinct_mapped, one_keeps, pair_in}
use Rattle.fs_serial.proofs.OtherSessions.Retimed.{retimed, with_until, no_same, field_same, below_same, retimed_holds, retimed_fits, held}
use Rattle.fs_serial.proofs.Grants.RowKinds.{In-kept}
use Rattle.fs_serial.proofs.ClientMessages.SessionStates.{SessionStateHolds, seen_at, settled_none}
use Rattle.fs_serial.proofs.ClientMessages.HearsShipped.{lease_by}

-- ## One pair of an answer

abbrev one_end : LeaseNo → ℕ → ViewLease → ViewLease
one_end n until k = cond (has_number n k) (record k { standing = renewed until k.standing }) k

end_pair : (until : ℕ) (s : Standing) → pair_in (renewed until s) ≡ pair_in s
end_pair until (Held l) = refl
end_pair until (Pinned u) = refl
end_pair until (Leaving l) = refl

end_leaving : (until : ℕ) (s : Standing) → is_leaving (renewed until s) ≡ is_leaving s
end_leaving until (Held l) = refl
end_leaving until (Pinned u) = refl
end_leaving until (Leaving l) = refl

end_entries : (until : ℕ) (s : Standing) → entries_of (renewed until s) ≡ entries_of s
end_entries until (Held l) = refl
end_entries until (Pinned u) = refl
end_entries until (Leaving l) = refl

end_parts : (n : LeaseNo) (until : ℕ) (b : Bool) (s : Standing) (base : Value) (below : Option (List ℕ)) → same_no (number_of s) n ≡ b → option_map (lease_by base below) (lease_of (cond b (renewed until s) s)) ≡ option_map (retimed n until) (option_map (lease_by base below) (lease_of s))
end_parts n until true (Held l) base below e = ap (λ c. Some (cond c (let x : Lease = record { no = l.no; field = l.field; kind = l.kind; until = until; base = base; below = below } in x) (lease_by base below l))) (sym e)
end_parts n until true (Pinned u) base below e = ap (λ c. Some (cond c (let x : Lease = record { no = u.lease.no; field = u.lease.field; kind = u.lease.kind; until = until; base = base; below = below } in x) (lease_by base below u.lease))) (sym e)
end_parts n until true (Leaving l) base below e = refl
end_parts n until false (Held l) base below e = ap (λ c. Some (cond c (let x : Lease = record { no = l.no; field = l.field; kind = l.kind; until = until; base = base; below = below } in x) (lease_by base below l))) (sym e)
end_parts n until false (Pinned u) base below e = ap (λ c. Some (cond c (let x : Lease = record { no = u.lease.no; field = u.lease.field; kind = u.lease.kind; until = until; base = base; below = below } in x) (lease_by base below u.lease))) (sym e)
end_parts n until false (Leaving l) base below e = refl

end_in : (n : LeaseNo) (until : ℕ) (k : ViewLease) → lease_in (one_end n until k) ≡ option_map (retimed n until) (lease_in k)
end_in n until k = within (has_number n k) refl
  where
    within : (b : Bool) → has_number n k ≡ b → lease_in (cond b (let x : ViewLease = record k { standing = renewed until k.standing } in x) k) ≡ option_map (retimed n until) (lease_in k)
    within true e = end_parts n until true k.standing k.base k.below e
    within false e = end_parts n until false k.standing k.base k.below e

end_leases : (n : LeaseNo) (until : ℕ) (ks : List ViewLease) → filter_map lease_in (map (one_end n until) ks) ≡ map (retimed n until) (filter_map lease_in ks)
end_leases n until [] = refl
end_leases n until (k ∷ ks) = ap (λ o. cons_option o (filter_map lease_in (map (one_end n until) ks))) (end_in n until k) ∙ ap (cons_option (option_map (retimed n until) (lease_in k))) (end_leases n until ks) ∙ joined (lease_in k) (filter_map lease_in ks)
  where
    joined : (o : Option Lease) (ls : List Lease) → cons_option (option_map (retimed n until) o) (map (retimed n until) ls) ≡ map (retimed n until) (cons_option o ls)
    joined None ls = refl
    joined (Some l) ls = refl

-- ## All pairs, one after another

-- what holds of the client with this view
pub record HasView (skew greatest : ℕ) (s : Sight) (by : Session) (replied : List Item) (c : Client) (v : View) : Type 0 where
  pub holds : SessionHolds skew greatest s by replied (settled_now (record c { view = v }))
  pub fits : SessionFits skew greatest s by (settled_now (record c { view = v }))
  pub client : ClientFits by (record c { view = v })
  pub returns : ReturnsFit s.given s.rows by v.leases (filter_map lease_in v.leases)
  pub fewer : FewerLeases (settled_now c).leases (filter_map lease_in v.leases)
  pub reserves : (n : LeaseNo) (i : List ℕ) → HoldsFresh (filter_map lease_in v.leases) n i → HoldsFresh (settled_now c).leases n i

held_none : (s : Standing) → is_held s ≡ true → entries_of s ≡ 0
held_none (Held l) h = refl
held_none (Pinned u) h = absurd (cc)
held_none (Leaving l) h = absurd (cc)

-- the lease of that number is held
pub record IsHeldThere (ks : List ViewLease) (n : LeaseNo) : Type 0 where
  pub kept : ViewLease
  pub among : In kept ks
  pub number : number_of kept.standing ≡ n
  pub held : is_held kept.standing ≡ true

the_held : (ks : List ViewLease) (n : LeaseNo) (o : Option ViewLease) → find (has_number n) ks ≡ o → stands is_held n ks ≡ true
    → IsHeldThere ks n
the_held ks n None e t = absurd (let q : false ≡ true = ap (λ o. option_map_or (λ (k : ViewLease). is_held k.standing) o false) (sym e) ∙ t in cc)
the_held ks n (Some k) e t =
    let q = found (has_number n) ks k e in
    record { kept = k; among = q.0; number = same_no_is (number_of k.standing) n q.1; held = ap (λ o. option_map_or (λ (k : ViewLease). is_held k.standing) o false) (sym e) ∙ t }

other_number : (n : LeaseNo) (log : List Entry) (k : ViewLease) (l : Lease) → times_in n log ≡ 0 → IsUsed log l.no → number_of k.standing ≡ l.no → not (has_number n k) ≡ true
other_number n log k l none u e = ap not (false_from_ne_true (has_number n k) (λ p. let more = used_in n log u.entry u.logged u.used u.among (u.number ∙ sym e ∙ same_no_is (number_of k.standing) n p) in absurd (omega arith)))

module _ (skew greatest : ℕ) (s : Sight) (by : Session) (replied : List Item) (c : Client) (v : View) (n : LeaseNo) (h : HasView skew greatest s by replied c v) where
  abbrev at : Client
  at = record c { view = v }

  -- a later end, which the row has too
  end_told : (until : ℕ) → ((l : Lease) → In l (settled_now at).leases → l.no ≡ n → greatest < until + skew → IsBacked s.rows n until) → HasView skew greatest s by replied c (with_end n until v)
  end_told until backs =
      let d : Settled = settled_now at in
      let same : map (retimed n until) (filter_map lease_in v.leases) ≡ filter_map lease_in (map (one_end n until) v.leases) = sym (end_leases n until v.leases) in
      let seen : with_until n until d ≡ settled_now (record c { view = with_end n until v }) = ap (λ ls. let x : Settled = record { leases = ls; log = c.log; next = c.next; over = c.over; led = c.led } in x) same in
      let by_lease : (l : Lease) → In l d.leases → l.no ≡ n → greatest < until + skew → IsBacked s.rows n until = backs in
      let number : (k : ViewLease) → number_of (one_end n until k).standing ≡ number_of k.standing = one_keeps number_of (renewed until) (renewed_number until) n in
      record {
        holds = subst (SessionHolds skew greatest s by replied) seen (retimed_holds skew greatest s by replied n until d by_lease h.holds);
        fits = subst (SessionFits skew greatest s by) seen (retimed_fits skew greatest s by replied n until d by_lease h.fits);
        client = record {
          session = h.client.session;
          viewed = h.client.viewed;
          pending = h.client.pending;
          distinct = distinct_mapped (one_end n until) number v.leases h.client.distinct;
          pinned = each_image (one_end n until) (λ k. entries_of k.standing ≡ times_in (number_of k.standing) (led_before c.led c.log)) v.leases (λ k i. one_keeps entries_of (renewed until) (end_entries until) n k ∙ h.client.pinned k i ∙ ap (λ m. times_in m (led_before c.led c.log)) (sym (number k)));
          held = subst (λ ls. UsesHeld ls (led_before c.led c.log)) same (held skew greatest s by replied n until d by_lease (led_before c.led c.log) h.client.held);
        };
        returns = each_image (one_end n until) (λ k. is_leaving k.standing ≡ true → ReturnFits s.given s.rows by (filter_map lease_in (map (one_end n until) v.leases)) (pair_of k)) v.leases (λ k i t.
            let q : ReturnFits s.given s.rows by (filter_map lease_in v.leases) (pair_of k) = h.returns k i (sym (one_keeps is_leaving (renewed until) (end_leaving until) n k) ∙ t) in
            subst (ReturnFits s.given s.rows by (filter_map lease_in (map (one_end n until) v.leases))) (sym (one_keeps pair_in (renewed until) (end_pair until) n k)) (record {
              fits = q.fits;
              alone = subst (λ ls. (l : Lease) → In l ls → l.no ≢ number_of k.standing) same (each_image (retimed n until) (λ l. l.no ≢ number_of k.standing) (filter_map lease_in v.leases) (λ l j e. q.alone l j (sym (no_same skew greatest s by replied n until d by_lease l) ∙ e)));
              own = q.own;
            }));
        fewer = subst (λ ls. (l : Lease) → In l ls → HasNumber (settled_now c).leases l.no) same (each_image (retimed n until) (λ l. HasNumber (settled_now c).leases l.no) (filter_map lease_in v.leases) (λ l i. subst (HasNumber (settled_now c).leases) (sym (no_same skew greatest s by replied n until d by_lease l)) (h.fewer l i)));
        reserves = λ m i r.
            let q = In-map (retimed n until) r.lease (filter_map lease_in v.leases) (subst (In r.lease) (sym same) r.held) in
            let t : (l : Lease) → (retimed n until l).no ≡ l.no = no_same skew greatest s by replied n until d by_lease in
            h.reserves m i (record {
              lease = q.0;
              held = q.1.0;
              number = sym (t q.0) ∙ ap (λ (l : Lease). l.no) (sym q.1.1) ∙ r.number;
              fresh = ap is_some (sym (below_same skew greatest s by replied n until d by_lease q.0)) ∙ ap (λ (l : Lease). is_some l.below) (sym q.1.1) ∙ r.fresh;
              file = ap file_of (sym (field_same skew greatest s by replied n until d by_lease q.0)) ∙ ap (λ (l : Lease). file_of l.field) (sym q.1.1) ∙ r.file;
            });
      }

  -- a lease whose row is gone, and that no entry uses
  gone_told : stands is_held n v.leases ≡ true → HasView skew greatest s by replied c (without_lease n v)
  gone_told t =
      let d : Settled = settled_now at in
      let w : View = without_lease n v in
      let was : (k : ViewLease) → In k w.leases → In k v.leases = λ k i. In-filter (λ k. not (has_number n k)) k v.leases i in
      let first : IsHeldThere v.leases n = the_held v.leases n (find (has_number n) v.leases) refl t in
      let unused : times_in n (led_before c.led c.log) ≡ 0 = ap (λ m. times_in m (led_before c.led c.log)) (sym first.number) ∙ sym (h.client.pinned first.kept first.among) ∙ held_none first.kept.standing first.held in
      let g : HasFewer (IsUsed (led_before c.led c.log)) d (settled_now (record c { view = w })) = record {
        log = refl;
        next = refl;
        over = refl;
        led = refl;
        fewer = λ l i. let q = from-filter_map lease_in l w.leases i in In-filter_map lease_in q.0 l v.leases (was q.0 q.1) q.2;
        still = λ l i u. let q = from-filter_map lease_in l v.leases i in In-filter_map lease_in q.0 l w.leases (In-kept (λ k. not (has_number n k)) q.0 v.leases q.1 (other_number n (led_before c.led c.log) q.0 l unused u (its_number q.0 l q.2))) q.2;
      } in
      let used : (x : Entry) → In x (led_before c.led c.log) → (u : Use) → In u x.uses → IsUsed (led_before c.led c.log) u.no = λ x i u j. record { entry = x; logged = i; used = u; among = j; number = refl } in
      record {
        holds = fewer_holds skew greatest s by replied (IsUsed (led_before c.led c.log)) d (settled_now (record c { view = w })) g used h.holds;
        fits = fewer_fits skew greatest s by replied (IsUsed (led_before c.led c.log)) d (settled_now (record c { view = w })) g used h.fits;
        client = record {
          session = h.client.session;
          viewed = h.client.viewed;
          pending = h.client.pending;
          distinct = λ k l i j. h.client.distinct k l (was k i) (was l j);
          pinned = λ k i. h.client.pinned k (was k i);
          held = λ x i u j. let q : HasLease d.leases u = h.client.held x i u j in record { lease = q.lease; held = g.still q.lease q.held (record { entry = x; logged = i; used = u; among = j; number = sym q.number }); number = q.number; field = q.field; kind = q.kind };
        };
        returns = λ k i l. let q = h.returns k (was k i) l in record { fits = q.fits; alone = λ m j. q.alone m (g.fewer m j); own = q.own };
        fewer = λ l i. h.fewer l (g.fewer l i);
        reserves = λ m i r. h.reserves m i (record { lease = r.lease; held = g.fewer r.lease r.held; number = r.number; fresh = r.fresh; file = r.file });
      }

gone_if : (skew greatest : ℕ) (s : Sight) (by : Session) (replied : List Item) (c : Client) (v : View) (n : LeaseNo) (b : Bool) → stands is_held n v.leases ≡ b → HasView skew greatest s by replied c v → HasView skew greatest s by replied c (cond b (without_lease n v) v)
gone_if skew greatest s by replied c v n true e h = gone_told skew greatest s by replied c v n h e
gone_if skew greatest s by replied c v n false e h = h

-- a later end that is told has its row, where the client has the lease
abbrev EndsBacked : ℕ → ℕ → List Row → List Lease → List (LeaseNo × Option ℕ) → Type 0
EndsBacked skew greatest rows leases ends = (n : LeaseNo) (until : ℕ) → In (n, Some until) ends → HasNumber leases n → greatest < until + skew → IsBacked rows n until

all_told : (skew greatest : ℕ) (s : Sight) (by : Session) (replied : List Item) (c : Client) (ends : List (LeaseNo × Option ℕ)) (v : View) → EndsBacked skew greatest s.rows (settled_now c).leases ends → HasView skew greatest s by replied c v → HasView skew greatest s by replied c (renewed_all ends v)
all_told skew greatest s by replied c [] v backs h = h
all_told skew greatest s by replied c (r ∷ rs) v backs h = all_told skew greatest s by replied c rs (renewed_one r.0 r.1 v) (λ n until i. backs n until (inr i)) (one r.1 refl)
  where
    one : (o : Option ℕ) → r.1 ≡ o → HasView skew greatest s by replied c (renewed_one r.0 o v)
    one (Some until) e = end_told skew greatest s by replied c v r.0 h until (λ l i same. let q = h.fewer l i in backs r.0 until (inl (ap (λ o. (r.0, o)) (sym e))) (record { lease = q.lease; held = q.held; number = q.number ∙ same }))
    one None e = gone_if skew greatest s by replied c v r.0 (stands is_held r.0 v.leases) refl h

renewed_view : (skew greatest : ℕ) (s : Sight) (by : Session) (replied : List Item) (c : Client) (up : List ClientMsg) (ends : List (LeaseNo × Option ℕ)) (e : End) (rest : List Answer) → SessionStateHolds skew greatest s by replied c up (Renewed ends e ∷ rest) → HasView skew greatest s by replied c (with_renewed ends c).view
renewed_view skew greatest s by replied c up ends e rest h =
    let w : IsHeard c up (Renewed ends e) rest = heard c c.exchange up (Renewed ends e) rest refl refl h.exchange.one in
    let still : seen_at by c (Renewed ends e ∷ rest) ≡ settled_now c = settled_none by rest (settled_now c) w.quiet in
    all_told skew greatest s by replied c ends c.view (λ n until i x live. h.exchange.renewals ends e (inl refl) n until i x.lease x.held x.number live) (record {
      holds = subst (SessionHolds skew greatest s by replied) still h.holds;
      fits = subst (SessionFits skew greatest s by) still h.fits;
      client = h.client;
      returns = subst (λ (d : Settled). ReturnsFit s.given s.rows by c.view.leases d.leases) still h.exchange.returns;
      fewer = λ l i. record { lease = l; held = i; number = refl };
      reserves = λ n i r. r;
    })

pub session_renewed : (skew greatest : ℕ) (s : Sight) (by : Session) (replied : List Item) (c : Client) (up : List ClientMsg) (ends : List (LeaseNo × Option ℕ)) (e : End) (rest : List Answer) → SessionStateHolds skew greatest s by replied c up (Renewed ends e ∷ rest) → SessionStateHolds skew greatest s by replied (with_renewed ends c) up rest
session_renewed skew greatest s by replied c up ends e rest h =
    let w : IsHeard c up (Renewed ends e) rest = heard c c.exchange up (Renewed ends e) rest refl refl h.exchange.one in
    let then_ : Client = with_renewed ends c in
    let q : HasView skew greatest s by replied c then_.view = renewed_view skew greatest s by replied c up ends e rest h in
    let now : seen_at by then_ rest ≡ settled_now then_ = settled_none by rest (settled_now then_) w.quiet in
    record {
      holds = subst (SessionHolds skew greatest s by replied) (sym now) q.holds;
      fits = subst (SessionFits skew greatest s by) (sym now) q.fits;
      client = record { session = q.client.session; viewed = q.client.viewed; pending = q.client.pending; distinct = q.client.distinct; pinned = q.client.pinned; held = q.client.held };
      exchange = subst (λ up. ExchangeFits skew greatest s.given s.rows by then_ up rest (settled_now then_) (seen_at by then_ rest)) (sym w.asked)
          (quiet_exchange skew greatest s.given s.rows by then_ rest (settled_now then_) (seen_at by then_ rest) refl w.quiet (subst (λ (d : Settled). ReturnsFit s.given s.rows by then_.view.leases d.leases) (sym now) q.returns));
    }

-- no identifier is reserved that was not
pub renewed_reserves : (skew greatest : ℕ) (s : Sight) (by : Session) (replied : List Item) (c : Client) (up : List ClientMsg) (ends : List (LeaseNo × Option ℕ)) (e : End) (rest : List Answer) → SessionStateHolds skew greatest s by replied c up (Renewed ends e ∷ rest) → NoneAnew (seen_at by c (Renewed ends e ∷ rest)) (seen_at by (with_renewed ends c) rest)
renewed_reserves skew greatest s by replied c up ends e rest h =
    let w : IsHeard c up (Renewed ends e) rest = heard c c.exchange up (Renewed ends e) rest refl refl h.exchange.one in
    let q = renewed_view skew greatest s by replied c up ends e rest h in
    subst (λ (d : Settled). NoneAnew d (seen_at by (with_renewed ends c) rest)) (sym (settled_none by rest (settled_now c) w.quiet))
    (subst (NoneAnew (settled_now c)) (sym (settled_none by rest (settled_now (with_renewed ends c)) w.quiet)) (none_anew_held (settled_now c) (settled_now (with_renewed ends c)) q.reserves (λ x i. i)))
