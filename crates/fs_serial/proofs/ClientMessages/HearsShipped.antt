-- A client hears that entries of its log were admitted.
use Rattle.std.proofs.Common.{◌≡◌, ℕ, zero, suc, ◌+◌, ◌-◌, ◌==◌, Bool, true, false, List, [], ◌∷◌, map, refl, sym, ap, ◌∙◌, subst, cond, arith}
use Rattle.std.specs.Prelude.{Option, Some, None, option_map}
use Rattle.std.specs.List.{filter_map, cons_option}
use Rattle.std.proofs.lemmas.Bool.Decides.{nat_tests}
use Rattle.fs_ident.specs.In.{In}
use Rattle.fs_ident.specs.declared.actor.LeaseNo.{LeaseNo}
use Rattle.fs_ident.specs.declared.actor.Session.{Session}
use Rattle.fs_ident.proofs.Standing.{In-map, In-mapped}
use Rattle.fs_field.specs.declared.effect.Effect.{Effect}
use Rattle.fs_field.specs.declared.used.Use.{Use}
use Rattle.fs_field.specs.declared.value.Value.{Value}
use Rattle.fs_field.specs.Field.{file_of}
use Rattle.fs_field.specs.Table.{same_no}
use Rattle.fs_field.proofs.SameNo.{same_no_symm}
use Rattle.fs_lease.specs.Lease.{Lease as Term, InUse}
use Rattle.fs_msg.specs.declared.answer.Answer.{Answer}
use Rattle.fs_msg.specs.declared.answer.Answer.TheVariants.{Shipped}
use Rattle.fs_msg.specs.declared.client_msg.ClientMsg.{ClientMsg}
use Rattle.fs_msg.specs.declared.end.End.{End}
use Rattle.fs_msg.specs.declared.entry.Entry.{Entry}
use Rattle.fs_msg.specs.declared.item.Item.{Item}
use Rattle.fs_client.specs.Answers.{over_after}
use Rattle.fs_client.specs.Client.{admitted_one, admitted_all, with_shipped}
use Rattle.fs_client.specs.Turns.{pair_of}
use Rattle.fs_client.specs.declared.state.Client.{Client}
use Rattle.fs_view.specs.declared.view_lease.ViewLease.{ViewLease}
use Rattle.fs_view.specs.declared.view_lease.Standing.{Standing}
use Rattle.fs_view.specs.declared.view_lease.Standing.TheVariants.{Held, Pinned, Leaving}
use Rattle.fs_view.specs.ViewLease.{number_of, has_number, is_leaving, entries_of, lease_of, unpinned}
use Rattle.fs_view.specs.View.{View, base_after, below_after, knowing, first_admitted, unpinned_at, unpinned_all}
use Rattle.fs_view.proofs.Changed.{unpinned_number}
use Rattle.fs_serial.specs.Client.{led_before, ClientFits, KeptDistinct, times_used, times_in}
use Rattle.fs_serial.specs.Exchange.{ExchangeFits, ReturnFits, ReturnsFit}
use Rattle.fs_serial.specs.Parts.{SessionHolds, SessionFits}
use Rattle.fs_serial.specs.Pending.{HasLease}
use Rattle.fs_serial.specs.Settled.{Lease, Settled, lease_in, lease_after, effects_in, acknowledged, acknowledged_all, with_over, told, settled, settled_now}
use Rattle.fs_serial.specs.Sight.{Sight}
use Rattle.fs_serial.proofs.LedOperations.LedKept.{tail_before, times_led}
use Rattle.fs_serial.proofs.Lists.Journals.{each_image}
use Rattle.fs_serial.proofs.ClientMessages.Heard.{IsHeard, heard, quiet_exchange}
use Rattle.fs_serial.proofs.Replies.ReplyPins.{distinct_mapped, one_keeps, pair_in, same_leases}
use Rattle.fs_serial.proofs.ClientMessages.SessionStates.{SessionStateHolds, seen_at}

-- ## One use less

abbrev one_unpin : LeaseNo → ViewLease → ViewLease
one_unpin n k = cond (has_number n k) (record k { standing = unpinned k.standing }) k

-- what one entry less leaves of a standing, it leaves of the lease
free_keeps : {X : Type 0} (f : Standing → X) → ((l : Term) → f (Held l) ≡ f (Pinned (record { lease = l; entries = 1 }))) → ((u w : InUse) → u.lease ≡ w.lease → f (Pinned u) ≡ f (Pinned w)) → (s : Standing) → f (unpinned s) ≡ f s
free_keeps f held pinned (Held l) = refl
free_keeps f held pinned (Leaving l) = refl
free_keeps f held pinned (Pinned u) = within (u.entries == 1)
  where
    within : (b : Bool) → f (cond b (Held u.lease) (Pinned (record u { entries = u.entries - 1 }))) ≡ f (Pinned u)
    within true = held u.lease ∙ pinned (record { lease = u.lease; entries = 1 }) u refl
    within false = pinned (record u { entries = u.entries - 1 }) u refl

free_pair : (s : Standing) → pair_in (unpinned s) ≡ pair_in s
free_pair = free_keeps pair_in (λ l. refl) (λ u w e. ap (λ (l : Term). let p : List ℕ × LeaseNo = (file_of l.field, l.no) in p) e)

free_leaving : (s : Standing) → is_leaving (unpinned s) ≡ is_leaving s
free_leaving = free_keeps is_leaving (λ l. refl) (λ u w e. refl)

free_lease : (s : Standing) → lease_of (unpinned s) ≡ lease_of s
free_lease = free_keeps lease_of (λ l. refl) (λ u w e. ap Some e)

free_entries : (s : Standing) (n : ℕ) → entries_of s ≡ n + 1 → entries_of (unpinned s) ≡ n
free_entries (Held l) n h = absurd (omega arith)
free_entries (Leaving l) n h = absurd (omega arith)
free_entries (Pinned u) n h = within (u.entries == 1) refl
  where
    within : (b : Bool) → (u.entries == 1) ≡ b → entries_of (cond b (Held u.lease) (Pinned (record u { entries = u.entries - 1 }))) ≡ n
    within true t = let q : u.entries ≡ 1 = grind (arith, nat_tests) in omega arith
    within false t = omega arith

unpin_in : (n : LeaseNo) (k : ViewLease) → lease_in (one_unpin n k) ≡ lease_in k
unpin_in n k = within (has_number n k)
  where
    within : (b : Bool) → lease_in (cond b (let x : ViewLease = record k { standing = unpinned k.standing } in x) k) ≡ lease_in k
    within true = ap (λ o. option_map (λ (l : Term). let x : Lease = record { no = l.no; field = l.field; kind = l.kind; until = l.until; base = k.base; below = k.below } in x) o) (free_lease k.standing)
    within false = refl

pub unpinned_leases : (us : List Use) (ks : List ViewLease) → filter_map lease_in (unpinned_all us ks) ≡ filter_map lease_in ks
unpinned_leases [] ks = refl
unpinned_leases (u ∷ us) ks = unpinned_leases us (unpinned_at u.no ks) ∙ same_leases (one_unpin u.no) (unpin_in u.no) ks

pub distinct_all : (us : List Use) (ks : List ViewLease) → KeptDistinct ks → KeptDistinct (unpinned_all us ks)
distinct_all [] ks h = h
distinct_all (u ∷ us) ks h = distinct_all us (unpinned_at u.no ks) (distinct_mapped (one_unpin u.no) (one_keeps number_of unpinned unpinned_number u.no) ks h)

-- what a lease was before, and that it goes back where it did
pub record WasKept (ks : List ViewLease) (k : ViewLease) : Type 0 where
  pub kept : ViewLease
  pub among : In kept ks
  pub pair : pair_of kept ≡ pair_of k
  pub leaving : is_leaving kept.standing ≡ is_leaving k.standing

pub was_all : (us : List Use) (ks : List ViewLease) (k : ViewLease) → In k (unpinned_all us ks) → WasKept ks k
was_all [] ks k i = record { kept = k; among = i; pair = refl; leaving = refl }
was_all (u ∷ us) ks k i =
    let q = was_all us (unpinned_at u.no ks) k i in
    let p = In-map (one_unpin u.no) q.kept ks q.among in
    record {
      kept = p.0;
      among = p.1.0;
      pair = sym (one_keeps pair_in unpinned free_pair u.no p.0) ∙ ap pair_of (sym p.1.1) ∙ q.pair;
      leaving = sym (one_keeps is_leaving unpinned free_leaving u.no p.0) ∙ ap (λ (x : ViewLease). is_leaving x.standing) (sym p.1.1) ∙ q.leaving;
    }

-- ## Counts

abbrev more_if : Bool → ℕ → ℕ
more_if b n = cond b (n + 1) n

counted_one : (u : Use) (ks : List ViewLease) (count : LeaseNo → ℕ) → ((k : ViewLease) → In k ks → entries_of k.standing ≡ more_if (same_no u.no (number_of k.standing)) (count (number_of k.standing)))
    → (k : ViewLease) → In k (unpinned_at u.no ks) → entries_of k.standing ≡ count (number_of k.standing)
counted_one u ks count h = each_image (one_unpin u.no) (λ k. entries_of k.standing ≡ count (number_of k.standing)) ks (λ k i.
    within k (has_number u.no k) refl (h k i ∙ ap (λ b. more_if b (count (number_of k.standing))) (same_no_symm u.no (number_of k.standing)))
    ∙ ap count (sym (one_keeps number_of unpinned unpinned_number u.no k)))
  where
    within : (k : ViewLease) (b : Bool) → has_number u.no k ≡ b → entries_of k.standing ≡ more_if (has_number u.no k) (count (number_of k.standing)) → entries_of (cond b (let x : ViewLease = record k { standing = unpinned k.standing } in x) k).standing ≡ count (number_of k.standing)
    within k true t e = free_entries k.standing (count (number_of k.standing)) (e ∙ ap (λ b. more_if b (count (number_of k.standing))) t)
    within k false t e = e ∙ ap (λ b. more_if b (count (number_of k.standing))) t

less_more : (b : Bool) (t c : ℕ) → cond b (t + 1) t + c ≡ cond b ((t + c) + 1) (t + c)
less_more true t c = omega arith
less_more false t c = refl

pub counted_all : (us : List Use) (ks : List ViewLease) (count : LeaseNo → ℕ) → ((k : ViewLease) → In k ks → entries_of k.standing ≡ times_used (number_of k.standing) us + count (number_of k.standing)) → (k : ViewLease) → In k (unpinned_all us ks) → entries_of k.standing ≡ count (number_of k.standing)
counted_all [] ks count h k i = let q = h k i in omega arith
counted_all (u ∷ us) ks count h k i = counted_all us (unpinned_at u.no ks) count
    (counted_one u ks (λ n. times_used n us + count n) (λ k i. h k i ∙ less_more (same_no u.no (number_of k.standing)) (times_used (number_of k.standing) us) (count (number_of k.standing)))) k i

-- ## Values

abbrev pub lease_by : Value → Option (List ℕ) → Term → Lease
lease_by base below l = record { no = l.no; field = l.field; kind = l.kind; until = l.until; base = base; below = below }

know_parts : (by : Session) (es : List Effect) (s : Standing) (base : Value) (below : Option (List ℕ)) → option_map (lease_by (base_after by es s base) (below_after es s below)) (lease_of s) ≡ option_map (lease_after by es) (option_map (lease_by base below) (lease_of s))
know_parts by es (Held l) base below = refl
know_parts by es (Pinned u) base below = refl
know_parts by es (Leaving l) base below = refl

know_in : (by : Session) (es : List Effect) (k : ViewLease) → lease_in (knowing by es k) ≡ option_map (lease_after by es) (lease_in k)
know_in by es k = know_parts by es k.standing k.base k.below

pub known_leases : (by : Session) (es : List Effect) (ks : List ViewLease) → filter_map lease_in (map (knowing by es) ks) ≡ map (lease_after by es) (filter_map lease_in ks)
known_leases by es [] = refl
known_leases by es (k ∷ ks) = ap (λ o. cons_option o (filter_map lease_in (map (knowing by es) ks))) (know_in by es k) ∙ ap (cons_option (option_map (lease_after by es) (lease_in k))) (known_leases by es ks) ∙ joined (lease_in k) (filter_map lease_in ks)
  where
    joined : (o : Option Lease) (ls : List Lease) → cons_option (option_map (lease_after by es) o) (map (lease_after by es) ls) ≡ map (lease_after by es) (cons_option o ls)
    joined None ls = refl
    joined (Some l) ls = refl

-- ## One entry

-- the view when it knows the first entry
one_view : (by : Session) (v : View) (es : List Effect) (log : List (List Effect)) → v.pending ≡ es ∷ log → v.session ≡ by → first_admitted v.pending v ≡ record { session = by; leases = map (knowing by es) v.leases; pending = log }
one_view by v es log p s = ap (λ q. first_admitted q v) p ∙ ap (λ b. let x : View = record { session = b; leases = map (knowing b es) v.leases; pending = log } in x) s

module _ (by : Session) (c : Client) (x : Entry) (es : List Entry) (first : c.log ≡ x ∷ es) (f : ClientFits by c) where
  abbrev eff : List Effect
  eff = effects_in by x

  abbrev view : View
  view = record { session = by; leases = unpinned_all x.uses (map (knowing by eff) c.view.leases); pending = map (effects_in by) es }

  abbrev then : Client
  then = record c { view = view; log = es }

  is_then : then ≡ admitted_one c c.log
  is_then = ap (λ (v : View). let y : Client = record c { view = record v { leases = unpinned_all x.uses v.leases }; log = es } in y) (sym (one_view by c.view eff (map (effects_in by) es) (f.pending ∙ ap (map (effects_in by)) first) f.viewed)) ∙ ap (admitted_one c) (sym first)

  one_settled : settled_now then ≡ acknowledged by (x ∷ es) (settled_now c)
  one_settled = ap (λ ls. let y : Settled = record { leases = ls; log = es; next = c.next; over = c.over; led = c.led } in y) (unpinned_leases x.uses (map (knowing by eff) c.view.leases) ∙ known_leases by eff c.view.leases)

  was : (k : ViewLease) → In k then.view.leases → WasKept c.view.leases k
  was k i =
      let q = was_all x.uses (map (knowing by eff) c.view.leases) k i in
      let p = In-map (knowing by eff) q.kept c.view.leases q.among in
      record { kept = p.0; among = p.1.0; pair = ap pair_of (sym p.1.1) ∙ q.pair; leaving = ap (λ (y : ViewLease). is_leaving y.standing) (sym p.1.1) ∙ q.leaving }

  one_client : ClientFits by then
  one_client = record {
    session = f.session;
    viewed = refl;
    pending = refl;
    distinct = distinct_all x.uses (map (knowing by eff) c.view.leases) (distinct_mapped (knowing by eff) (λ k. refl) c.view.leases f.distinct);
    pinned = counted_all x.uses (map (knowing by eff) c.view.leases) (λ n. times_in n (led_before c.led es)) (each_image (knowing by eff) (λ k. entries_of k.standing ≡ times_used (number_of k.standing) x.uses + times_in (number_of k.standing) (led_before c.led es)) c.view.leases (λ k i. f.pinned k i ∙ ap (λ log. times_in (number_of k.standing) (led_before c.led log)) first ∙ times_led (number_of k.standing) c.led x es));
    held = λ y i u j.
        let q : HasLease (settled_now c).leases u = f.held y (subst (λ log. In y (led_before c.led log)) (sym first) (tail_before c.led x es y i)) u j in
        record { lease = lease_after by eff q.lease; held = subst (λ (d : Settled). In (lease_after by eff q.lease) d.leases) (sym one_settled) (In-mapped (lease_after by eff) q.lease (settled_now c).leases q.held); number = q.number; field = q.field; kind = q.kind };
  }

-- ## Several

pub record HasAdmitted (by : Session) (c d : Client) (later : Settled) : Type 0 where
  pub settled : settled_now d ≡ later
  pub client : ClientFits by d
  pub was : (k : ViewLease) → In k d.view.leases → WasKept c.view.leases k

one_admitted : (by : Session) (c : Client) (log : List Entry) → c.log ≡ log → ClientFits by c → HasAdmitted by c (admitted_one c c.log) (acknowledged by c.log (settled_now c))
one_admitted by c [] e f = subst (λ es. HasAdmitted by c (admitted_one c es) (acknowledged by es (settled_now c))) (sym e) (record { settled = refl; client = f; was = λ k i. record { kept = k; among = i; pair = refl; leaving = refl } })
one_admitted by c (x ∷ es) e f = subst (λ d. HasAdmitted by c d (acknowledged by c.log (settled_now c))) (is_then by c x es e f) (subst (λ l. HasAdmitted by c (then by c x es e f) (acknowledged by l (settled_now c))) (sym e)
    (record { settled = one_settled by c x es e f; client = one_client by c x es e f; was = was by c x es e f }))

all_admitted : (by : Session) (k : ℕ) (c : Client) → ClientFits by c → HasAdmitted by c (admitted_all k c) (acknowledged_all by k (settled_now c))
all_admitted by zero c f = record { settled = refl; client = f; was = λ k i. record { kept = k; among = i; pair = refl; leaving = refl } }
all_admitted by (suc k) c f =
    let p = one_admitted by c c.log refl f in
    let q = all_admitted by k (admitted_one c c.log) p.client in
    record {
      settled = q.settled ∙ ap (acknowledged_all by k) p.settled;
      client = q.client;
      was = λ x i. let a = q.was x i in let b = p.was a.kept a.among in record { kept = b.kept; among = b.among; pair = b.pair ∙ a.pair; leaving = b.leaving ∙ a.leaving };
    }

-- all that holds of its session
pub session_shipped : (skew greatest : ℕ) (s : Sight) (by : Session) (replied : List Item) (c : Client) (up : List ClientMsg) (count : ℕ) (e : End) (rest : List Answer) → SessionStateHolds skew greatest s by replied c up (Shipped count e ∷ rest) → SessionStateHolds skew greatest s by replied (with_shipped count (over_after e c.over) c) up rest
session_shipped skew greatest s by replied c up count e rest h =
    let w : IsHeard c up (Shipped count e) rest = heard c c.exchange up (Shipped count e) rest refl refl h.exchange.one in
    let then_ : Client = with_shipped count (over_after e c.over) c in
    let q : HasAdmitted by c (admitted_all count c) (acknowledged_all by count (settled_now c)) = all_admitted by count c h.client in
    let now : settled_now then_ ≡ told by (Shipped count e) (settled_now c) = ap (with_over (over_after e c.over)) q.settled in
    let seen : seen_at by c (Shipped count e ∷ rest) ≡ seen_at by then_ rest = ap (settled by rest) (sym now) in
    let returns : ReturnsFit s.given s.rows by then_.view.leases (seen_at by then_ rest).leases = λ k i t.
    let p = q.was k i in
    subst (λ n. ReturnFits s.given s.rows by (seen_at by then_ rest).leases n) p.pair (subst (λ (d : Settled). ReturnFits s.given s.rows by d.leases (pair_of p.kept)) seen (h.exchange.returns p.kept p.among (p.leaving ∙ t))) in
    record {
      holds = subst (SessionHolds skew greatest s by replied) seen h.holds;
      fits = subst (SessionFits skew greatest s by) seen h.fits;
      client = record { session = q.client.session; viewed = q.client.viewed; pending = q.client.pending; distinct = q.client.distinct; pinned = q.client.pinned; held = q.client.held };
      exchange = subst (λ up. ExchangeFits skew greatest s.given s.rows by then_ up rest (settled_now then_) (seen_at by then_ rest)) (sym w.asked) (quiet_exchange skew greatest s.given s.rows by then_ rest (settled_now then_) (seen_at by then_ rest) refl w.quiet returns);
    }

-- it was going to know so
pub shipped_seen : (skew greatest : ℕ) (s : Sight) (by : Session) (replied : List Item) (c : Client) (up : List ClientMsg) (count : ℕ) (e : End) (rest : List Answer) → SessionStateHolds skew greatest s by replied c up (Shipped count e ∷ rest) → seen_at by (with_shipped count (over_after e c.over) c) rest ≡ seen_at by c (Shipped count e ∷ rest)
shipped_seen skew greatest s by replied c up count e rest h = ap (settled by rest) (ap (with_over (over_after e c.over)) (all_admitted by count c h.client).settled)
