-- Leases come to their client.
use Rattle.std.proofs.Common.{◌≡◌, ℕ, ◌+◌, ◌==◌, ◌&&◌, ◌⊎◌, not, true, false, List, [], ◌∷◌, ◌++◌, map, refl, sym, ap, ◌∙◌, subst, inl, inr, cond, arith, append_assoc, append-nil}
use Rattle.std.specs.Prelude.{Option, Some, None}
use Rattle.std.specs.List.{list_any, filter_map}
use Rattle.std.proofs.lemmas.List.Elements.{filter_map-append}
use Rattle.std.proofs.lemmas.Bool.{not-true}
use Rattle.fs_ident.specs.In.{In}
use Rattle.fs_ident.specs.declared.actor.LeaseNo.{LeaseNo}
use Rattle.fs_ident.specs.declared.actor.Session.{Session}
use Rattle.fs_ident.proofs.Booleans.{both}
use Rattle.fs_ident.proofs.Standing.{In-map, none_any, In-append, In-front, In-behind, In-mapped}
use Rattle.fs_field.specs.declared.field.Field.{Field}
use Rattle.fs_field.specs.declared.field.Field.TheVariants.{Life}
use Rattle.fs_field.specs.declared.lease_kind.LeaseKind.{LeaseKind}
use Rattle.fs_field.specs.declared.lease_kind.LeaseKind.TheVariants.{Exclusive}
use Rattle.fs_field.specs.declared.used.Use.{Use}
use Rattle.fs_field.specs.Table.{same_no}
use Rattle.fs_field.proofs.SameNo.{same_no_self}
use Rattle.fs_msg.specs.declared.answer.Answer.{Answer}
use Rattle.fs_msg.specs.declared.answer.Answer.TheVariants.{Granted}
use Rattle.fs_msg.specs.declared.answer.Grant.{Grant}
use Rattle.fs_msg.specs.declared.client_msg.ClientMsg.{ClientMsg}
use Rattle.fs_msg.specs.declared.end.End.{End}
use Rattle.fs_msg.specs.declared.entry.Entry.{Entry}
use Rattle.fs_msg.specs.declared.item.Item.{Item}
use Rattle.fs_client.specs.Answers.{answer_fits, fresh_fits, front_fits, grants_fit, is_new, is_of_item, lease_in, leases_in, life_last, full_told}
use Rattle.fs_client.specs.Client.{with_granted}
use Rattle.fs_view.specs.View.{kept_new, with_grants}
use Rattle.fs_client.specs.Turns.{pair_of}
use Rattle.fs_client.specs.declared.exchange.Exchange.{Exchange}
use Rattle.fs_client.specs.declared.exchange.Exchange.TheVariants.{Asks, Renews, Releases, Ships, Leads}
use Rattle.fs_view.specs.declared.new_lease.NewLease.{NewLease}
use Rattle.fs_client.specs.declared.state.Client.{Client}
use Rattle.fs_view.specs.declared.view_lease.ViewLease.{ViewLease}
use Rattle.fs_view.specs.ViewLease.{number_of, has_number, is_leaving, entries_of}
use Rattle.fs_view.specs.View.{View}
use Rattle.fs_serial.specs.Client.{led_before, ClientFits, times_used, times_in}
use Rattle.fs_serial.specs.Leases.{LeasesDistinct}
use Rattle.fs_serial.specs.Parts.{SessionHolds, SessionFits}
use Rattle.fs_serial.specs.Pending.{HasLease, UsesHeld}
use Rattle.fs_serial.specs.Settled.{Lease, Settled, granted, told, settled, settled_now, lease_in as kept_lease}
use Rattle.fs_serial.specs.Sight.{Sight}
use Rattle.fs_serial.proofs.ClientMessages.Heard.{IsHeard, heard, quiet_exchange}
use Rattle.fs_serial.proofs.Replies.Knowing.{from-filter_map}
use Rattle.fs_serial.proofs.Returns.Lapse.{its_number}
use Rattle.fs_serial.specs.Exchange.{ExchangeFits, ReturnFits, ReturnsFit, server_of_question}
use Rattle.fs_serial.proofs.ClientMessages.SessionStates.{SessionStateHolds, seen_at, settled_none}

-- ## Numbers that come are new

new_is : (leases : List ViewLease) (before : List Grant) (g : Grant) → is_new leases before g ≡ true
    → list_any (has_number g.no) leases ≡ false
new_is leases before g h = not-true (list_any (has_number g.no) leases) (both (not (list_any (has_number g.no) leases)) _ h).0

front_new : (items : List (Field × LeaseKind)) (leases : List ViewLease) (before gs : List Grant) → front_fits items leases before gs ≡ true → (g : Grant) → In g gs → list_any (has_number g.no) leases ≡ false
front_new items leases before [] h g i = absurd i
front_new [] leases before (y ∷ gs) h g i = absurd (cc)
front_new (x ∷ xs) leases before (y ∷ gs) h g i =
    let p = both (is_of_item x y && is_new leases before y) (front_fits xs leases (before ++ y ∷ []) gs) h in
    let q = both (is_of_item x y) (is_new leases before y) p.0 in
    elim i as (λ _. list_any (has_number g.no) leases ≡ false) [ inl e ↦ ap (λ (y : Grant). list_any (has_number y.no) leases) e ∙ new_is leases before y q.1 | inr j ↦ front_new xs leases (before ++ y ∷ []) gs p.1 g j ]

last_new : (items : List (Field × LeaseKind)) (id : List ℕ) (leases : List ViewLease) (front gs : List Grant) → life_last items id leases front gs ≡ true → (g : Grant) → In g (front ++ gs) → list_any (has_number g.no) leases ≡ false
last_new items id leases front [] h g i = absurd (cc)
last_new items id leases front (x ∷ []) h g i =
    let p = both (front_fits items leases [] front) (is_of_item (Life id, Exclusive) x && is_new leases front x) h in
    let q = both (is_of_item (Life id, Exclusive) x) (is_new leases front x) p.1 in
    elim (In-append g front (x ∷ []) i) as (λ _. list_any (has_number g.no) leases ≡ false) [
      | inl j ↦ front_new items leases [] front p.0 g j
      | inr j ↦ elim j as (λ _. list_any (has_number g.no) leases ≡ false) [ inl e ↦ ap (λ (y : Grant). list_any (has_number y.no) leases) e ∙ new_is leases front x q.1 | inr z ↦ absurd z ]
    ]
last_new items id leases front (x ∷ y ∷ gs) h g i = last_new items id leases (front ++ x ∷ []) (y ∷ gs) h g (subst (λ gs. In g gs) (sym (append_assoc front (x ∷ []) (y ∷ gs))) i)

grants_new : (items : List (Field × LeaseKind)) (fresh : Option (List ℕ)) (leases : List ViewLease) (gs : List Grant) → grants_fit items fresh leases gs ≡ true → (g : Grant) → In g gs → list_any (has_number g.no) leases ≡ false
grants_new items None leases gs h g i = front_new items leases [] gs h g i
grants_new items (Some id) leases gs h g i = last_new items id leases [] gs h g i

all_new : (c : Client) (from : ℕ) (x : Exchange) (gs : List Grant) (fresh : Option (List ℕ)) (e : End) → answer_fits from x (Granted gs fresh e) c ≡ true → (g : Grant) → In g gs → list_any (has_number g.no) c.view.leases ≡ false
all_new c from (Asks to items asked) gs fresh e h =
    let p = both (to == from) (fresh_fits asked fresh && grants_fit items fresh c.view.leases gs) h in
    let q = both (fresh_fits asked fresh) (grants_fit items fresh c.view.leases gs) p.1 in
    grants_new items fresh c.view.leases gs q.1
all_new c from (Renews to numbers) gs fresh e h = absurd (cc)
all_new c from (Releases to numbers) gs fresh e h = absurd (cc)
all_new c from (Ships to count) gs fresh e h = absurd (cc)
all_new c from (Leads to) gs fresh e h = absurd (cc)

-- ## The leases then

grants_behind : (ls : List NewLease) (v : View) → (with_grants ls v).leases ≡ v.leases ++ map kept_new ls
grants_behind [] v = sym (append-nil v.leases)
grants_behind (l ∷ ls) v = grants_behind ls _ ∙ append_assoc v.leases (kept_new l ∷ []) (map kept_new ls)

grants_session : (ls : List NewLease) (v : View) → (with_grants ls v).session ≡ v.session
grants_session [] v = refl
grants_session (l ∷ ls) v = grants_session ls _

grants_pending : (ls : List NewLease) (v : View) → (with_grants ls v).pending ≡ v.pending
grants_pending [] v = refl
grants_pending (l ∷ ls) v = grants_pending ls _

new_leases : (fresh : Option (List ℕ)) (gs : List Grant) → filter_map kept_lease (map kept_new (leases_in fresh gs)) ≡ map (granted fresh) gs
new_leases fresh [] = refl
new_leases fresh (g ∷ gs) = ap (λ ls. granted fresh g ∷ ls) (new_leases fresh gs)

-- the lease as it is kept at first
abbrev kept_of : Lease → ViewLease
kept_of l = kept_new (record { no = l.no; field = l.field; kind = l.kind; until = l.until; value = l.base; below = l.below })

unused : (n : LeaseNo) (us : List Use) → ((u : Use) → In u us → same_no u.no n ≡ false) → times_used n us ≡ 0
unused n [] h = refl
unused n (u ∷ us) h = ap (λ b. cond b (times_used n us + 1) (times_used n us)) (h u (inl refl)) ∙ unused n us (λ v i. h v (inr i))

unused_in : (n : LeaseNo) (log : List Entry) → ((e : Entry) → In e log → (u : Use) → In u e.uses → same_no u.no n ≡ false) → times_in n log ≡ 0
unused_in n [] h = refl
unused_in n (e ∷ es) h = let p = unused n e.uses (h e (inl refl)) in let q = unused_in n es (λ x i. h x (inr i)) in omega arith

module _ (by : Session) (c : Client) (gs : List Grant) (fresh : Option (List ℕ)) (e : End) (f : ClientFits by c) (new : (g : Grant) → In g gs → list_any (has_number g.no) c.view.leases ≡ false) where
  abbrev then : Client
  then = with_granted (leases_in fresh gs) (full_told e) c

  leases_then : then.view.leases ≡ c.view.leases ++ map kept_new (leases_in fresh gs)
  leases_then = grants_behind (leases_in fresh gs) c.view

  -- what it is, it was going to be
  pub granted_now : settled_now then ≡ told by (Granted gs fresh e) (settled_now c)
  granted_now = ap (λ ls. let x : Settled = record { leases = ls; log = c.log; next = c.next; over = c.over; led = c.led } in x)
      (ap (filter_map kept_lease) leases_then ∙ filter_map-append kept_lease c.view.leases (map kept_new (leases_in fresh gs)) ∙ ap (λ ls. filter_map kept_lease c.view.leases ++ ls) (new_leases fresh gs))

  -- an old lease, or one that came
  pub record IsNewKept (k : ViewLease) : Type 0 where
    pub grant : Grant
    pub among : In grant gs
    pub is : k ≡ kept_of (granted fresh grant)

  split : (k : ViewLease) → In k then.view.leases → In k c.view.leases ⊎ IsNewKept k
  split k i = elim (In-append k c.view.leases (map kept_new (leases_in fresh gs)) (subst (In k) leases_then i)) as (λ _. In k c.view.leases ⊎ IsNewKept k) [
    | inl j ↦ inl j
    | inr j ↦
        let p = In-map kept_new k (leases_in fresh gs) j in
        let q = In-map (lease_in fresh) p.0 gs p.1.0 in
        inr (record { grant = q.0; among = q.1.0; is = p.1.1 ∙ ap kept_new q.1.1 })
  ]

  apart : (k : ViewLease) → In k c.view.leases → (l : ViewLease) → IsNewKept l → number_of k.standing ≡ number_of l.standing → ⊥
  apart k i l n e =
      let no : has_number n.grant.no k ≡ false = none_any (has_number n.grant.no) c.view.leases (new n.grant n.among) k i in
      let same : number_of k.standing ≡ n.grant.no = e ∙ ap (λ (k : ViewLease). number_of k.standing) n.is in
      absurd (let z : true ≡ false = sym (ap (λ m. same_no m n.grant.no) same ∙ same_no_self n.grant.no) ∙ no in cc)

  held : UsesHeld (settled_now then).leases (led_before c.led c.log)
  held x i u j =
      let q : HasLease (settled_now c).leases u = f.held x i u j in
      record { lease = q.lease; held = subst (λ (d : Settled). In q.lease d.leases) (sym granted_now) (In-front q.lease (settled_now c).leases (map (granted fresh) gs) q.held); number = q.number; field = q.field; kind = q.kind }

  -- no entry uses what comes
  none_uses : (g : Grant) → In g gs → times_in g.no (led_before c.led c.log) ≡ 0
  none_uses g i = unused_in g.no (led_before c.led c.log) (λ x j u k.
      let q : HasLease (settled_now c).leases u = f.held x j u k in
      let p = from-filter_map kept_lease q.lease c.view.leases q.held in
      ap (λ m. same_no m g.no) (sym (its_number p.0 q.lease p.2 ∙ q.number)) ∙ none_any (has_number g.no) c.view.leases (new g i) p.0 p.1)

  pub granted_client : LeasesDistinct (told by (Granted gs fresh e) (settled_now c)).leases → ClientFits by then
  granted_client apart_all = record {
    session = f.session;
    viewed = grants_session (leases_in fresh gs) c.view ∙ f.viewed;
    pending = grants_pending (leases_in fresh gs) c.view ∙ f.pending;
    distinct = λ k l i j same. elim (split k i) as (λ _. k ≡ l) [
      | inl a ↦ elim (split l j) as (λ _. k ≡ l) [ inl b ↦ f.distinct k l a b same | inr b ↦ absurd (apart k a l b same) ]
      | inr a ↦ elim (split l j) as (λ _. k ≡ l) [
        | inl b ↦ absurd (apart l b k a (sym same))
        | inr b ↦
            a.is ∙ ap kept_of (apart_all (granted fresh a.grant) (granted fresh b.grant)
            (In-behind (granted fresh a.grant) (settled_now c).leases (map (granted fresh) gs) (In-mapped (granted fresh) a.grant gs a.among))
            (In-behind (granted fresh b.grant) (settled_now c).leases (map (granted fresh) gs) (In-mapped (granted fresh) b.grant gs b.among))
            (ap (λ (k : ViewLease). number_of k.standing) (sym a.is) ∙ same ∙ ap (λ (k : ViewLease). number_of k.standing) b.is)) ∙ sym b.is
      ]
    ];
    pinned = λ k i. elim (split k i) as (λ _. entries_of k.standing ≡ times_in (number_of k.standing) (led_before c.led c.log)) [
      | inl a ↦ f.pinned k a
      | inr a ↦ ap (λ (k : ViewLease). entries_of k.standing) a.is ∙ sym (none_uses a.grant a.among) ∙ ap (λ n. times_in n (led_before c.led c.log)) (ap (λ (k : ViewLease). number_of k.standing) (sym a.is))
    ];
    held = held;
  }

-- all that holds of its session
pub session_granted : (skew greatest : ℕ) (s : Sight) (by : Session) (replied : List Item) (c : Client) (up : List ClientMsg) (gs : List Grant) (fresh : Option (List ℕ)) (e : End) (rest : List Answer) → SessionStateHolds skew greatest s by replied c up (Granted gs fresh e ∷ rest)
    → SessionStateHolds skew greatest s by replied (with_granted (leases_in fresh gs) (full_told e) c) up rest
session_granted skew greatest s by replied c up gs fresh e rest h =
    let w : IsHeard c up (Granted gs fresh e) rest = heard c c.exchange up (Granted gs fresh e) rest refl refl h.exchange.one in
    let new = all_new c (server_of_question w.exchange) w.exchange gs fresh e w.fits in
    let now = granted_now by c gs fresh e h.client new in
    let seen : seen_at by c (Granted gs fresh e ∷ rest) ≡ seen_at by (with_granted (leases_in fresh gs) (full_told e) c) rest = ap (settled by rest) (sym now) in
    let then : Client = with_granted (leases_in fresh gs) (full_told e) c in
    let returns : ReturnsFit s.given s.rows by then.view.leases (seen_at by then rest).leases = λ k i t. elim (split by c gs fresh e h.client new k i) as (λ _. ReturnFits s.given s.rows by (seen_at by then rest).leases (pair_of k)) [
      | inl a ↦ subst (λ (d : Settled). ReturnFits s.given s.rows by d.leases (pair_of k)) seen (h.exchange.returns k a t)
      | inr a ↦ absurd (let q : false ≡ true = ap (λ (k : ViewLease). is_leaving k.standing) (sym a.is) ∙ t in cc)
    ] in
    record {
      holds = subst (SessionHolds skew greatest s by replied) seen h.holds;
      fits = subst (SessionFits skew greatest s by) seen h.fits;
      client = granted_client by c gs fresh e h.client new (subst (λ (d : Settled). LeasesDistinct d.leases) (settled_none by rest (told by (Granted gs fresh e) (settled_now c)) w.quiet) h.fits.distinct);
      exchange = subst (λ up. ExchangeFits skew greatest s.given s.rows by then up rest (settled_now then) (seen_at by then rest)) (sym w.asked) (quiet_exchange skew greatest s.given s.rows by then rest (settled_now then) (seen_at by then rest) refl w.quiet returns);
    }

-- it was going to have them
pub granted_seen : (skew greatest : ℕ) (s : Sight) (by : Session) (replied : List Item) (c : Client) (up : List ClientMsg) (gs : List Grant) (fresh : Option (List ℕ)) (e : End) (rest : List Answer) → SessionStateHolds skew greatest s by replied c up (Granted gs fresh e ∷ rest)
    → seen_at by (with_granted (leases_in fresh gs) (full_told e) c) rest ≡ seen_at by c (Granted gs fresh e ∷ rest)
granted_seen skew greatest s by replied c up gs fresh e rest h =
    let w : IsHeard c up (Granted gs fresh e) rest = heard c c.exchange up (Granted gs fresh e) rest refl refl h.exchange.one in
    ap (settled by rest) (granted_now by c gs fresh e h.client (all_new c (server_of_question w.exchange) w.exchange gs fresh e w.fits))
