-- A lease of a client has another end.
use Rattle.std.proofs.Common.{◌≡◌, ℕ, ◌+◌, ◌<◌, Bool, true, false, List, ◌⊎◌, map, refl, sym, ap, ◌∙◌, subst, inl, inr, cond}
use Rattle.std.specs.Prelude.{Some}
use Rattle.fs_ident.specs.In.{In}
use Rattle.fs_ident.specs.declared.actor.LeaseNo.{LeaseNo}
use Rattle.fs_ident.specs.declared.actor.Session.{Session}
use Rattle.fs_field.specs.declared.field.Field.TheVariants.{Life}
use Rattle.fs_ident.proofs.Standing.{In-map, In-mapped}
use Rattle.fs_field.specs.declared.row.Row.{Row}
use Rattle.fs_field.specs.declared.used.Use.{Use}
use Rattle.fs_field.specs.Table.{same_no}
use Rattle.fs_field.proofs.SameNo.{same_no_is}
use Rattle.fs_msg.specs.declared.entry.Entry.{Entry}
use Rattle.fs_msg.specs.declared.item.Item.{Item}
use Rattle.fs_record.specs.ValueOf.{value_of}
use Rattle.fs_serial.specs.Fresh.{TellsLife}
use Rattle.fs_serial.specs.Gone.{IsOfGone}
use Rattle.fs_serial.specs.Leases.{IsBacked, IsRowOf, IsFresh}
use Rattle.fs_serial.specs.Parts.{SessionHolds, SessionFits}
use Rattle.fs_serial.specs.Pending.{HasLease, UsesHeld}
use Rattle.fs_serial.specs.Settled.{Lease, Settled}
use Rattle.fs_serial.specs.Sight.{Sight, IsGiven}
use Rattle.fs_serial.proofs.LedOperations.LedKept.{each_led, one_entry}
use Rattle.fs_serial.proofs.Lists.Journals.{each_image}

abbrev pub retimed : LeaseNo → ℕ → Lease → Lease
retimed n until l = cond (same_no l.no n) (record l { until = until }) l

-- all but the end stays
stays : {X : Type 0} (f : Lease → X) → ((l : Lease) (until : ℕ) → f (record l { until = until }) ≡ f l) → (n : LeaseNo) (until : ℕ) (l : Lease) → f (retimed n until l) ≡ f l
stays f h n until l = within (same_no l.no n)
  where
    within : (b : Bool) → f (cond b (let x : Lease = record l { until = until } in x) l) ≡ f l
    within true = h l until
    within false = refl

-- the end is the new one, or stays
pub ends_at : (n : LeaseNo) (until : ℕ) (l : Lease) (P : ℕ → Type 0) → (l.no ≡ n → P until) → P l.until → P (retimed n until l).until
ends_at n until l P new old = within (same_no l.no n) refl
  where
    within : (b : Bool) → same_no l.no n ≡ b → P (cond b (let x : Lease = record l { until = until } in x) l).until
    within true t = new (same_no_is l.no n t)
    within false t = old

abbrev pub with_until : LeaseNo → ℕ → Settled → Settled
with_until n until d = record d { leases = map (retimed n until) d.leases }

module _ (skew greatest : ℕ) (s : Sight) (by : Session) (replied : List Item) (n : LeaseNo) (until : ℕ) (d : Settled) (backs : (l : Lease) → In l d.leases → l.no ≡ n → greatest < until + skew → IsBacked s.rows n until) where
  pub no_same : (l : Lease) → (retimed n until l).no ≡ l.no
  no_same = stays (λ l. l.no) (λ l u. refl) n until

  pub field_same : (l : Lease) → (retimed n until l).field ≡ l.field
  field_same = stays (λ l. l.field) (λ l u. refl) n until

  kind_same : (l : Lease) → (retimed n until l).kind ≡ l.kind
  kind_same = stays (λ l. l.kind) (λ l u. refl) n until

  base_same : (l : Lease) → (retimed n until l).base ≡ l.base
  base_same = stays (λ l. l.base) (λ l u. refl) n until

  pub below_same : (l : Lease) → (retimed n until l).below ≡ l.below
  below_same = stays (λ l. l.below) (λ l u. refl) n until

  pub retimed_holds : SessionHolds skew greatest s by replied d → SessionHolds skew greatest s by replied (with_until n until d)
  retimed_holds h = record {
    backed = each_image (retimed n until) (λ l. greatest < l.until + skew → IsBacked s.rows l.no l.until) d.leases (λ l i.
        subst (λ m. greatest < (retimed n until l).until + skew → IsBacked s.rows m (retimed n until l).until) (sym (no_same l))
        (ends_at n until l (λ u. greatest < u + skew → IsBacked s.rows l.no u) (λ e live. subst (λ m. IsBacked s.rows m until) (sym e) (backs l i e live)) (h.backed l i)));
    telling = each_image (retimed n until) (λ l. (r : Row) → In r s.rows → r.no ≡ l.no → IsOfGone s.records s.journal l.field ⊎ (l.base ≡ value_of s.records by l.field)) d.leases
        (λ l i r j e. elim (h.telling l i r j (e ∙ no_same l)) as (λ _. IsOfGone s.records s.journal (retimed n until l).field ⊎ ((retimed n until l).base ≡ value_of s.records by (retimed n until l).field)) [
          | inl gone ↦ inl (subst (IsOfGone s.records s.journal) (sym (field_same l)) gone)
          | inr same ↦ inr (base_same l ∙ same ∙ ap (value_of s.records by) (sym (field_same l)))
        ]);
    pending = h.pending;
    numbers = h.numbers;
    replies = h.replies;
  }

  one_held : (u : Use) → HasLease d.leases u → HasLease (map (retimed n until) d.leases) u
  one_held u q = record { lease = retimed n until q.lease; held = In-mapped (retimed n until) q.lease d.leases q.held; number = no_same q.lease ∙ q.number; field = field_same q.lease ∙ q.field; kind = kind_same q.lease ∙ q.kind }

  pub held : (log : List Entry) → UsesHeld d.leases log → UsesHeld (map (retimed n until) d.leases) log
  held log h x i u j = one_held u (h x i u j)

  fresh_same : (dir : List ℕ) (l : Lease) → IsFresh dir l → IsFresh dir (retimed n until l)
  fresh_same dir l f = record { number = f.number; field = field_same l ∙ f.field; kind = kind_same l ∙ f.kind; base = base_same l ∙ f.base }

  pub retimed_fits : SessionFits skew greatest s by d → SessionFits skew greatest s by (with_until n until d)
  retimed_fits f = record {
    given = each_image (retimed n until) (λ l. IsGiven s.given l.no) d.leases (λ l i. subst (IsGiven s.given) (sym (no_same l)) (f.given l i));
    distinct = λ l m i j e.
        let p = In-map (retimed n until) l d.leases i in
        let q = In-map (retimed n until) m d.leases j in
        p.1.1 ∙ ap (retimed n until) (f.distinct p.0 q.0 p.1.0 q.1.0 (sym (no_same p.0) ∙ ap (λ (x : Lease). x.no) (sym p.1.1) ∙ e ∙ ap (λ (x : Lease). x.no) q.1.1 ∙ no_same q.0)) ∙ sym q.1.1;
    matching = each_image (retimed n until) (λ l. (r : Row) → In r s.rows → r.no ≡ l.no → IsRowOf by l.field l.kind r) d.leases (λ l i r j e.
        let q : IsRowOf by l.field l.kind r = f.matching l i r j (e ∙ no_same l) in record { session = q.session; field = q.field ∙ sym (field_same l); kind = q.kind ∙ sym (kind_same l) });
    fresh = each_image (retimed n until) (λ l. (dir : List ℕ) → l.below ≡ Some dir → IsFresh dir l) d.leases (λ l i dir b. fresh_same dir l (f.fresh l i dir (sym (below_same l) ∙ b)));
    lives = each_image (retimed n until) (λ l. (file : List ℕ) → l.field ≡ Life file → TellsLife s.journal file l.base) d.leases
        (λ l i file on. subst (TellsLife s.journal file) (sym (base_same l)) (f.lives l i file (sym (field_same l) ∙ on)));
    held = held d.log f.held;
    backed = f.backed;
    entries = f.entries;
    once = f.once;
    refused = f.refused;
    led = each_led skew greatest greatest s s by d (with_until n until d) d.led (λ led is h. record {
      leads = h.leads;
      number = h.number;
      empty = h.empty;
      held = one_entry led.entry (λ u i. one_held u (h.held led.entry (inl refl) u i));
      backed = h.backed;
      parts = h.parts;
      home = h.home;
      lives = h.lives;
      right = h.right;
    }) f.led;
  }
