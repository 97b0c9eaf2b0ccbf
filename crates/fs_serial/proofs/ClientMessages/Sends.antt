-- A client sends a question.
use Rattle.std.proofs.Common.{◌≡◌, ℕ, Bool, true, false, List, [], ◌∷◌, ◌++◌, length, map, refl, sym, ap, ◌∙◌, subst, inl, inr, cond, arith, length-append}
use Rattle.std.specs.Prelude.{Option, Some, None, option_map}
use Rattle.fs_ident.specs.In.{In}
use Rattle.fs_ident.specs.declared.actor.LeaseNo.{LeaseNo}
use Rattle.fs_ident.specs.declared.actor.Session.{Session}
use Rattle.fs_ident.proofs.Standing.{In-map, In-mapped}
use Rattle.fs_field.specs.declared.field.Field.{Field}
use Rattle.fs_field.specs.declared.lease_kind.LeaseKind.{LeaseKind}
use Rattle.fs_field.specs.declared.row.Row.{Row}
use Rattle.fs_field.specs.Table.{same_no}
use Rattle.fs_field.proofs.SameNo.{same_no_self}
use Rattle.fs_lease.specs.Lease.{Lease as Term}
use Rattle.fs_msg.specs.declared.answer.Answer.{Answer}
use Rattle.fs_msg.specs.declared.client_msg.ClientMsg.{ClientMsg}
use Rattle.fs_msg.specs.declared.client_msg.ClientMsg.TheVariants.{Ask, Renew, Ship, Lead}
use Rattle.fs_msg.specs.declared.entry.Entry.{Entry}
use Rattle.fs_msg.specs.declared.item.Item.{Item}
use Rattle.fs_msg.specs.declared.lead.Lead.{Lead as ToLead}
use Rattle.fs_client.specs.Client.{with_exchange, leaving_all}
use Rattle.fs_client.specs.Turns.{pair_of, numbers_in, has_to_go}
use Rattle.fs_client.specs.declared.exchange.Exchange.{Exchange}
use Rattle.fs_client.specs.declared.exchange.Exchange.TheVariants.{Asks, Renews, Ships}
use Rattle.fs_client.specs.declared.led.Led.{Led}
use Rattle.fs_client.specs.declared.state.Client.{Client}
use Rattle.fs_server.specs.Asks.{kind_for}
use Rattle.fs_server.specs.Pairs.{numbers_in as pair_numbers}
use Rattle.fs_view.specs.declared.view_lease.ViewLease.{ViewLease}
use Rattle.fs_view.specs.declared.view_lease.Standing.{Standing}
use Rattle.fs_view.specs.declared.view_lease.Standing.TheVariants.{Held, Pinned, Leaving}
use Rattle.fs_view.specs.ViewLease.{number_of, has_number, is_leaving, is_pinned, entries_of, lease_of, leaving}
use Rattle.fs_view.specs.View.{View, with_leaving}
use Rattle.fs_view.proofs.Changed.{leaving_number}
use Rattle.fs_serial.specs.Client.{KeptDistinct}
use Rattle.fs_serial.specs.Exchange.{due, IsQuestion, OneExchange, PairsFit, ShipsLog, ShipsFront, IsFront, IsReturned, LeadsTold, ReleasesReturned, AsksGivenKinds, ReturnsFit, RenewalsBacked, ExchangeFits}
use Rattle.fs_serial.specs.Settled.{Lease, Settled, lease_in, lease_with, settled_now}
use Rattle.fs_serial.specs.Sight.{Sight}
use Rattle.fs_serial.proofs.Returns.KeptPairs.{kept_pair, no_pairs, renews_pairs}
use Rattle.fs_serial.proofs.Replies.ReplyPins.{distinct_mapped, one_keeps, pair_in}
use Rattle.fs_serial.proofs.ClientMessages.SessionStates.{SessionStateHolds, seen_at, idle_due, settled_none}

-- ## One question

-- what a question has to meet
pub record IsAsking (given : ℕ → ℕ) (rows : List Row) (c : Client) (x : Exchange) (m : ClientMsg) (ks : List ViewLease) (d : Settled) : Type 0 where
  pub question : IsQuestion x m
  pub ships : ShipsLog (Some x) c.log
  pub front : ShipsFront (m ∷ []) d
  pub leads : LeadsTold (m ∷ []) c.led
  pub released : ReleasesReturned (Some x) ks
  pub kinds : AsksGivenKinds (m ∷ [])
  pub pairs : PairsFit given rows (m ∷ [])

pub asking_exchange : (skew greatest : ℕ) (given : ℕ → ℕ) (rows : List Row) (by : Session) (c d : Client) (x : Exchange) (m : ClientMsg) (up : List ClientMsg) (down : List Answer) (now seen : Settled) → d.exchange ≡ Some x → d.log ≡ c.log → d.led ≡ c.led → up ≡ [] → due down ≡ [] → IsAsking given rows c x m d.view.leases seen
    → ReturnsFit given rows by d.view.leases seen.leases → RenewalsBacked skew greatest rows down now.leases → ExchangeFits skew greatest given rows by d (up ++ m ∷ []) down now seen
asking_exchange skew greatest given rows by c d x m up down now seen e log led none silent a returns renewals =
    let only : up ++ m ∷ [] ≡ m ∷ [] = ap (λ up. up ++ m ∷ []) none in
    record {
      one = subst (λ o. OneExchange d o (up ++ m ∷ []) down) (sym e) (inl (record { message = m; asked = only; question = a.question; silent = silent }));
      ships = subst (λ o. ShipsLog o d.log) (sym e) (subst (ShipsLog (Some x)) (sym log) a.ships);
      front = subst (λ up. ShipsFront up seen) (sym only) a.front;
      leads = subst (λ up. LeadsTold up d.led) (sym only) (subst (LeadsTold (m ∷ [])) (sym led) a.leads);
      released = subst (λ o. ReleasesReturned o d.view.leases) (sym e) a.released;
      kinds = subst AsksGivenKinds (sym only) a.kinds;
      pairs = subst (PairsFit given rows) (sym only) a.pairs;
      returns = returns;
      renewals = renewals;
    }

-- a question that is none to lead an operation
pub led_nothing : (m : ClientMsg) (led : Option Led) → ((n : ToLead) → Lead n ≡ m → ⊥) → LeadsTold (m ∷ []) led
led_nothing m led other n (inl e) = absurd (other n e)
led_nothing m led other n (inr z) = absurd z

-- a question that leaves the client's leases
pub session_asking : (skew greatest : ℕ) (s : Sight) (by : Session) (replied : List Item) (c : Client) (up : List ClientMsg) (down : List Answer) (x : Exchange) (m : ClientMsg) → c.exchange ≡ None → IsAsking s.given s.rows c x m c.view.leases (settled_now c) → SessionStateHolds skew greatest s by replied c up down → SessionStateHolds skew greatest s by replied (with_exchange x c) (up ++ m ∷ []) down
session_asking skew greatest s by replied c up down x m idle a h =
    let q = idle_due c c.exchange up down idle h.exchange.one in
    let now : settled_now c ≡ seen_at by c down = sym (settled_none by down (settled_now c) q.1) in
    record {
      holds = h.holds;
      fits = h.fits;
      client = record { session = h.client.session; viewed = h.client.viewed; pending = h.client.pending; distinct = h.client.distinct; pinned = h.client.pinned; held = h.client.held };
      exchange = asking_exchange skew greatest s.given s.rows by c (with_exchange x c) x m up down (settled_now c) (seen_at by c down) refl refl refl q.0 q.1 (subst (IsAsking s.given s.rows c x m c.view.leases) now a) h.exchange.returns h.exchange.renewals;
    }

-- ## A question for leases

-- each item is of the kind that is given
abbrev pub AreOfGivenKinds : List (Field × LeaseKind) → Type 0
AreOfGivenKinds items = (x : Field × LeaseKind) → In x items → kind_for x.0 x.1 ≡ x.1

pub session_asks : (skew greatest : ℕ) (s : Sight) (by : Session) (replied : List Item) (c : Client) (up : List ClientMsg) (down : List Answer) (to : ℕ) (items : List (Field × LeaseKind)) (fresh : Option (List ℕ)) → c.exchange ≡ None → AreOfGivenKinds items → SessionStateHolds skew greatest s by replied c up down
    → SessionStateHolds skew greatest s by replied (with_exchange (Asks to items fresh) c) (up ++ Ask items fresh ∷ []) down
session_asks skew greatest s by replied c up down to items fresh idle given h = session_asking skew greatest s by replied c up down (Asks to items fresh) (Ask items fresh) idle (record {
  question = refl;
  ships = tt;
  front = λ entries i. elim i as (λ _. IsFront entries (settled_now c)) [ inl e ↦ absurd (cc) | inr z ↦ absurd z ];
  leads = led_nothing (Ask items fresh) c.led (λ n e. absurd (cc));
  released = tt;
  kinds = λ xs f i x j. elim i as (λ _. kind_for x.0 x.1 ≡ x.1) [
    | inl e ↦ let q : xs ≡ items = cc in given x (subst (In x) q j)
    | inr z ↦ absurd z
  ];
  pairs = no_pairs s.given s.rows (Ask items fresh) refl;
}) h

-- ## The log is handed in

-- entries at the front of it
pub session_ships : (skew greatest : ℕ) (s : Sight) (by : Session) (replied : List Item) (c : Client) (up : List ClientMsg) (down : List Answer) (to : ℕ) (sent rest : List Entry) → c.log ≡ sent ++ rest → c.exchange ≡ None → c.over ≡ None → SessionStateHolds skew greatest s by replied c up down
    → SessionStateHolds skew greatest s by replied (with_exchange (Ships to (length sent)) c) (up ++ Ship sent ∷ []) down
session_ships skew greatest s by replied c up down to sent rest log idle open_ h = session_asking skew greatest s by replied c up down (Ships to (length sent)) (Ship sent) idle (record {
  question = refl;
  ships = let n = ap length log in let m = length-append sent rest in omega arith;
  leads = led_nothing (Ship sent) c.led (λ n e. absurd (cc));
  front = λ entries i. elim i as (λ _. IsFront entries (settled_now c)) [
    | inl e ↦ let q : entries ≡ sent = cc in record { rest = rest; log = log ∙ ap (λ es. es ++ rest) (sym q); over = open_ }
    | inr z ↦ absurd z
  ];
  released = tt;
  kinds = λ xs f i x j. elim i as (λ _. kind_for x.0 x.1 ≡ x.1) [ inl e ↦ absurd (cc) | inr z ↦ absurd z ];
  pairs = no_pairs s.given s.rows (Ship sent) refl;
}) h

-- ## Leases are renewed

pub pair_numbers_of : (ks : List ViewLease) → pair_numbers (map pair_of ks) ≡ numbers_in ks
pair_numbers_of [] = refl
pair_numbers_of (k ∷ ks) = ap (λ ns. number_of k.standing ∷ ns) (pair_numbers_of ks)

pub session_renews : (skew greatest : ℕ) (s : Sight) (by : Session) (replied : List Item) (c : Client) (up : List ClientMsg) (down : List Answer) (to : ℕ) (ks : List ViewLease) → ((k : ViewLease) → In k ks → In k c.view.leases) → c.exchange ≡ None → SessionStateHolds skew greatest s by replied c up down
    → SessionStateHolds skew greatest s by replied (with_exchange (Renews to (numbers_in ks)) c) (up ++ Renew (map pair_of ks) ∷ []) down
session_renews skew greatest s by replied c up down to ks among idle h = session_asking skew greatest s by replied c up down (Renews to (numbers_in ks)) (Renew (map pair_of ks)) idle (record {
  question = pair_numbers_of ks;
  ships = tt;
  front = λ entries i. elim i as (λ _. IsFront entries (settled_now c)) [ inl e ↦ absurd (cc) | inr z ↦ absurd z ];
  leads = led_nothing (Renew (map pair_of ks)) c.led (λ n e. absurd (cc));
  released = tt;
  kinds = λ xs f i x j. elim i as (λ _. kind_for x.0 x.1 ≡ x.1) [ inl e ↦ absurd (cc) | inr z ↦ absurd z ];
  pairs = renews_pairs s.given s.rows ks (λ k i. kept_pair skew greatest s by replied c up down idle h k (among k i));
}) h

-- ## Leases go back

abbrev one_leaves : LeaseNo → ViewLease → ViewLease
one_leaves n k = cond (has_number n k) (record k { standing = leaving k.standing }) k

leave_pair : (s : Standing) → pair_in (leaving s) ≡ pair_in s
leave_pair (Held l) = refl
leave_pair (Pinned u) = refl
leave_pair (Leaving l) = refl

leave_entries : (s : Standing) → entries_of (leaving s) ≡ entries_of s
leave_entries (Held l) = refl
leave_entries (Pinned u) = refl
leave_entries (Leaving l) = refl

leave_pinned : (s : Standing) → is_pinned (leaving s) ≡ is_pinned s
leave_pinned (Held l) = refl
leave_pinned (Pinned u) = refl
leave_pinned (Leaving l) = refl

-- one that went back still does, and what goes back had no entry
goes_still : (s : Standing) → is_leaving s ≡ true → is_leaving (leaving s) ≡ true
goes_still (Held l) h = refl
goes_still (Pinned u) h = absurd (cc)
goes_still (Leaving l) h = refl

unused_goes : (s : Standing) → is_pinned s ≡ false → is_leaving (leaving s) ≡ true
unused_goes (Held l) h = refl
unused_goes (Pinned u) h = absurd (cc)
unused_goes (Leaving l) h = refl

-- the lease of one that is left is as it was
leave_lease : (s : Standing) (l : Term) → lease_of (leaving s) ≡ Some l → lease_of s ≡ Some l
leave_lease (Held x) l h = absurd (cc)
leave_lease (Pinned u) l h = h
leave_lease (Leaving x) l h = h

-- what becomes of the leases: a kept one came from one that was the same but that it may go back
pub record CameFrom (ks : List ViewLease) (k : ViewLease) : Type 0 where
  pub kept : ViewLease
  pub among : In kept ks
  pub number : number_of kept.standing ≡ number_of k.standing
  pub pair : pair_of kept ≡ pair_of k
  pub entries : entries_of kept.standing ≡ entries_of k.standing
  pub lease : (l : Lease) → lease_in k ≡ Some l → lease_in kept ≡ Some l

lease_by : (k : ViewLease) (o : Option Term) (l : Lease) → option_map (lease_with k) o ≡ Some l → (t : Term) × (o ≡ Some t) × (lease_with k t ≡ l)
lease_by k None l h = absurd (cc)
lease_by k (Some t) l h = (t, refl, cc)

one_lease : (n : LeaseNo) (k : ViewLease) (l : Lease) → lease_in (one_leaves n k) ≡ Some l → lease_in k ≡ Some l
one_lease n k l = within (has_number n k)
  where
    within : (b : Bool) → lease_in (cond b (let x : ViewLease = record k { standing = leaving k.standing } in x) k) ≡ Some l → lease_in k ≡ Some l
    within true h = let q = lease_by k (lease_of (leaving k.standing)) l h in ap (option_map (lease_with k)) (leave_lease k.standing q.0 q.1) ∙ ap Some q.2
    within false h = h

pub came_all : (ns : List LeaseNo) (v : View) (k : ViewLease) → In k (leaving_all ns v).leases → CameFrom v.leases k
came_all [] v k i = record { kept = k; among = i; number = refl; pair = refl; entries = refl; lease = λ l h. h }
came_all (n ∷ ns) v k i =
    let q = came_all ns (with_leaving n v) k i in
    let p = In-map (one_leaves n) q.kept v.leases q.among in
    record {
      kept = p.0;
      among = p.1.0;
      number = sym (one_keeps number_of leaving leaving_number n p.0) ∙ ap (λ (x : ViewLease). number_of x.standing) (sym p.1.1) ∙ q.number;
      pair = sym (one_keeps pair_in leaving leave_pair n p.0) ∙ ap pair_of (sym p.1.1) ∙ q.pair;
      entries =
          sym (one_keeps entries_of leaving leave_entries n p.0) ∙ ap (λ (x : ViewLease). entries_of x.standing) (sym p.1.1) ∙ q.entries;
      lease = λ l h. one_lease n p.0 l (ap lease_in (sym p.1.1) ∙ q.lease l h);
    }

-- each lease goes on, and it goes back where it did, or where no entry uses it and its number is among these
pub record GoesTo (ks : List ViewLease) (k : ViewLease) : Type 0 where
  pub kept : ViewLease
  pub among : In kept ks
  pub number : number_of kept.standing ≡ number_of k.standing
  pub leaving : is_leaving k.standing ≡ true → is_leaving kept.standing ≡ true
  pub pinned : is_pinned k.standing ≡ true → kept ≡ k

one_stays : (n : LeaseNo) (k : ViewLease) → is_pinned k.standing ≡ true → one_leaves n k ≡ k
one_stays n k h = within (has_number n k)
  where
    same : (s : Standing) → is_pinned s ≡ true → leaving s ≡ s
    same (Held l) h = absurd (cc)
    same (Pinned u) h = refl
    same (Leaving l) h = absurd (cc)

    within : (b : Bool) → cond b (let x : ViewLease = record k { standing = leaving k.standing } in x) k ≡ k
    within true = ap (λ s. let x : ViewLease = record k { standing = s } in x) (same k.standing h)
    within false = refl

one_goes : (n : LeaseNo) (k : ViewLease) → is_leaving k.standing ≡ true → is_leaving (one_leaves n k).standing ≡ true
one_goes n k h = within (has_number n k)
  where
    within : (b : Bool) → is_leaving (cond b (let x : ViewLease = record k { standing = leaving k.standing } in x) k).standing ≡ true
    within true = goes_still k.standing h
    within false = h

pub goes_all : (ns : List LeaseNo) (v : View) (k : ViewLease) → In k v.leases → GoesTo (leaving_all ns v).leases k
goes_all [] v k i = record { kept = k; among = i; number = refl; leaving = λ h. h; pinned = λ h. refl }
goes_all (n ∷ ns) v k i =
    let q = goes_all ns (with_leaving n v) (one_leaves n k) (In-mapped (one_leaves n) k v.leases i) in
    record {
      kept = q.kept;
      among = q.among;
      number = q.number ∙ one_keeps number_of leaving leaving_number n k;
      leaving = λ h. q.leaving (one_goes n k h);
      pinned = λ h. q.pinned (one_keeps is_pinned leaving leave_pinned n k ∙ h) ∙ one_stays n k h;
    }

-- an unused lease of these numbers goes back then
pub left_all : (ns : List LeaseNo) (v : View) (k : ViewLease) → In k v.leases → In (number_of k.standing) ns → is_pinned k.standing ≡ false → IsReturned (leaving_all ns v).leases (number_of k.standing)
left_all [] v k i n h = absurd n
left_all (n ∷ ns) v k i (inl e) h =
    let there : has_number n k ≡ true = ap (λ m. same_no m n) e ∙ same_no_self n in
    let goes : is_leaving (one_leaves n k).standing ≡ true = ap (λ b. is_leaving (cond b (let x : ViewLease = record k { standing = leaving k.standing } in x) k).standing) there ∙ unused_goes k.standing h in
    let q = goes_all ns (with_leaving n v) (one_leaves n k) (In-mapped (one_leaves n) k v.leases i) in
    record { kept = q.kept; among = q.among; number = q.number ∙ one_keeps number_of leaving leaving_number n k; leaving = q.leaving goes }
left_all (n ∷ ns) v k i (inr j) h =
    let number : number_of (one_leaves n k).standing ≡ number_of k.standing = one_keeps number_of leaving leaving_number n k in
    subst (IsReturned (leaving_all ns (with_leaving n v)).leases) number
    (left_all ns (with_leaving n v) (one_leaves n k) (In-mapped (one_leaves n) k v.leases i) (subst (λ m. In m ns) (sym number) j) (one_keeps is_pinned leaving leave_pinned n k ∙ h))

pub all_session : (ns : List LeaseNo) (v : View) → (leaving_all ns v).session ≡ v.session
all_session [] v = refl
all_session (n ∷ ns) v = all_session ns (with_leaving n v)

pub all_pending : (ns : List LeaseNo) (v : View) → (leaving_all ns v).pending ≡ v.pending
all_pending [] v = refl
all_pending (n ∷ ns) v = all_pending ns (with_leaving n v)

pub all_distinct : (ns : List LeaseNo) (v : View) → KeptDistinct v.leases → KeptDistinct (leaving_all ns v).leases
all_distinct [] v h = h
all_distinct (n ∷ ns) v h = all_distinct ns (with_leaving n v) (distinct_mapped (one_leaves n) (one_keeps number_of leaving leaving_number n) v.leases h)

-- what has to go back no entry uses
pub unused_returned : (recalled : Bool) (s : Standing) → has_to_go recalled s ≡ true → is_pinned s ≡ false
unused_returned recalled (Held l) h = refl
unused_returned recalled (Pinned u) h = absurd (cc)
unused_returned recalled (Leaving l) h = refl
