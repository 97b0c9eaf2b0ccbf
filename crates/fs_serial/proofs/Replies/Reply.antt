-- A client answers an operation, and its entry joins the log: the parts of its session.
use Rattle.std.proofs.Common.{◌≡◌, ℕ, ◌+◌, ◌<◌, ◌≤◌, false, List, [], ◌∷◌, ◌++◌, ◌⊎◌, map, refl, sym, ap, ◌∙◌, subst, inl, inr, append_assoc}
use Rattle.std.specs.Prelude.{Some, None}
use Rattle.std.proofs.lemmas.List.{map-append}
use Rattle.fs_ident.specs.In.{In}
use Rattle.fs_ident.specs.declared.actor.LeaseNo.{LeaseNo}
use Rattle.fs_ident.specs.declared.actor.Session.{Session}
use Rattle.fs_ident.proofs.Standing.{In-append}
use Rattle.fs_field.specs.declared.field.Field.{Field}
use Rattle.fs_field.specs.declared.field.Field.TheVariants.{Life}
use Rattle.fs_field.specs.declared.row.Row.{Row}
use Rattle.fs_field.specs.declared.used.Use.{Use}
use Rattle.fs_field.specs.declared.value.Value.{Value}
use Rattle.fs_field.specs.declared.value.Value.TheVariants as value
use Rattle.fs_msg.specs.declared.entry.Entry.{Entry}
use Rattle.fs_msg.specs.declared.item.Item.{Item}
use Rattle.fs_record.specs.ValueOf.{value_of}
use Rattle.fs_server.specs.Ships.{item_of}
use Rattle.fs_view.specs.Gone.{IsUnread}
use Rattle.fs_view.specs.ViewLease.{is_pending}
use Rattle.fs_view.specs.View.{value_after_log}
use Rattle.fs_serial.specs.Fresh.{ByLease, ByLog, Claim, HoldsFresh, Reserves}
use Rattle.fs_serial.specs.Leases.{IsBacked}
use Rattle.fs_serial.specs.Numbers.{AreNumbered, all_items, items_by}
use Rattle.fs_serial.specs.Parts.{SessionHolds, SessionFits}
use Rattle.fs_serial.specs.Pending.{AllStand, Stands, IsAnswer, PendingStand, HasLease, UsesHeld, UsesBacked, IsEntry, NamedOnce, named_by, RefusedGone, IsGone, values_after}
use Rattle.fs_serial.specs.Settled.{Lease, Settled, effects_in}
use Rattle.fs_serial.specs.Sight.{Sight}
use Rattle.fs_serial.proofs.Admission.Births.{stays_unborn}
use Rattle.fs_serial.proofs.Grants.Claims.{AreUnborn, NoneAnew}
use Rattle.fs_serial.proofs.LedOperations.LedKept.{none_led}
use Rattle.fs_serial.proofs.Lists.Journals.{each_more}
use Rattle.fs_serial.proofs.OtherSessions.Gone.{IsLost, MakeAnew, lost_after, lost_in, lost_unread}

-- one entry more
abbrev pub with_last : Entry → Settled → Settled
with_last e d = record d { log = d.log ++ e ∷ []; next = d.next + 1 }

-- what the client knows by a lease: its value, after all that the log will do
abbrev pub value_seen : Session → Settled → Lease → Value
value_seen by d l = value_after_log by l.field l.base (map (effects_in by) d.log)

-- the use is of this lease, as it is
pub record IsOfLease (leases : List Lease) (u : Use) : Type 0 where
  pub lease : Lease
  pub held : In lease leases
  pub number : lease.no ≡ u.no
  pub field : lease.field ≡ u.field
  pub kind : lease.kind ≡ u.kind
  pub until : lease.until ≡ u.until

-- the entry is the next answer that the client gives
pub record IsNext (by : Session) (d : Settled) (e : Entry) : Type 0 where
  pub number : e.n ≡ d.next
  pub unled : d.led ≡ None
  pub of_lease : (u : Use) → In u e.uses → IsOfLease d.leases u
  -- it is right wherever fields have the values that the leases of its uses tell, but for what is of no matter, and what it names
  -- does not live
  pub right : (values : Field → Value) → ((l : Lease) → In l d.leases → (u : Use) → In u e.uses → l.no ≡ u.no → IsUnread values l.field ⊎ (values l.field ≡ value_seen by d l))
      → ((id : List ℕ) → named_by e.op ≡ Some id → values (Life id) ≡ value.Life None) → IsAnswer values e
  pub entry : IsEntry e
  -- what it names is reserved by a lease, and no entry of the log makes it
  pub reserved : (id : List ℕ) → named_by e.op ≡ Some id → (n : LeaseNo) × HoldsFresh d.leases n id
  pub unmade : (id : List ℕ) → named_by e.op ≡ Some id → is_pending id (map (effects_in by) d.log) ≡ false
  pub once : (f : Entry) (id : List ℕ) → In f d.log → named_by f.op ≡ Some id → named_by e.op ≡ Some id → ⊥

-- what it names was reserved by a lease
pub reply_anew : (by : Session) (d : Settled) (e : Entry) → IsNext by d e → NoneAnew d (with_last e d)
reply_anew by d e n (ByLease k) i r = r
reply_anew by d e n ByLog i r = elim (In-append r.entry d.log (e ∷ []) r.among) as (λ _. (k : Claim) × Reserves d k i) [
  | inl j ↦ (ByLog, record { entry = r.entry; among = j; named = r.named })
  | inr j ↦ elim j as (λ _. (k : Claim) × Reserves d k i) [
    | inl is ↦ let q = n.reserved i (ap (λ (x : Entry). named_by x.op) (sym is) ∙ r.named) in (ByLease q.0, q.1)
    | inr z ↦ absurd z
  ]
]

-- ## Values at the end of a log

abbrev pub values_at_end : Session → List Entry → (Field → Value) → Field → Value
values_at_end by [] v = v
values_at_end by (e ∷ es) v = values_at_end by es (values_after by e v)

end_seen : (by : Session) (es : List Entry) (v : Field → Value) (g : Field) → values_at_end by es v g ≡ value_after_log by g (v g) (map (effects_in by) es)
end_seen by [] v g = refl
end_seen by (e ∷ es) v g = end_seen by es (values_after by e v) g

-- each entry answers by the values that those before it leave
abbrev AreAnswers : Session → (Field → Value) → List Entry → Type 0
AreAnswers by v [] = Unit {0}
AreAnswers by v (e ∷ es) = IsAnswer v e × AreAnswers by (values_after by e v) es

-- what is gone before is gone at the end
lost_at_end : (by : Session) (journal : List Item) (es : List Entry) (v : Field → Value) → MakeAnew by journal es → AreAnswers by v es → (field : Field) → IsLost journal v field → IsLost journal (values_at_end by es v) field
lost_at_end by journal [] v anew a field h = h
lost_at_end by journal (e ∷ es) v anew a field h = lost_at_end by journal es (values_after by e v) (λ x i. anew x (inr i)) a.1 field (lost_after by journal v e a.0 (anew e (inl refl)) field h)

stand_more : (rows : List Row) (by : Session) (v : Field → Value) (es : List Entry) (e : Entry) → PendingStand rows by v es → (AreAnswers by v es → AllStand rows by e.uses → IsAnswer (values_at_end by es v) e) → PendingStand rows by v (es ++ e ∷ [])
stand_more rows by v [] e h last = λ stand. (last tt stand, tt)
stand_more rows by v (x ∷ es) e h last = λ stand. let q = h stand in (q.0, stand_more rows by (values_after by x v) es e q.1 (λ a s. last (q.0, a) s))

-- ## Numbers and names

pub number_more : (k : ℕ) (is : List Item) (next : ℕ) (i : Item) → AreNumbered k is next → i.n ≡ next → AreNumbered k (is ++ i ∷ []) (next + 1)
number_more k [] next i h e = (e ∙ sym h, ap (λ n. n + 1) h)
number_more k (j ∷ is) next i h e = (h.0, number_more (k + 1) is next i h.1 e)

once_more : (es : List Entry) (e : Entry) → NamedOnce es → ((f : Entry) (id : List ℕ) → In f es → named_by f.op ≡ Some id → named_by e.op ≡ Some id → ⊥) → NamedOnce (es ++ e ∷ [])
once_more [] e h new = ((λ f id i. absurd i), tt)
once_more (x ∷ es) e h new = (
  (λ f id i p q. each_more (λ f. named_by f.op ≡ Some id → ⊥) es e (λ f i q. h.0 f id i p q) (λ q. new x id (inl refl) p q) f i q),
  once_more es e h.1 (λ f id i. new f id (inr i)),
)

module _ (skew greatest : ℕ) (s : Sight) (by : Session) (replied : List Item) (d : Settled) (e : Entry) (n : IsNext by d e)
    (h : SessionHolds skew greatest s by replied d) (f : SessionFits skew greatest s by d) where
  -- what it names does not live at the end of the log
  unborn : AreUnborn s.records d → (id : List ℕ) → named_by e.op ≡ Some id → values_at_end by d.log (value_of s.records by) (Life id) ≡ value.Life None
  unborn none id is =
      let q = n.reserved id is in
      end_seen by d.log (value_of s.records by) (Life id)
      ∙ ap (λ k. value_after_log by (Life id) (value.Life k) (map (effects_in by) d.log)) (none q.0 id q.1)
      ∙ stays_unborn by d.log id (n.unmade id is)

  -- where the rows of its leases stand, they tell the values at the end of the log
  right : MakeAnew by s.journal d.log → AreUnborn s.records d → AreAnswers by (value_of s.records by) d.log → AllStand s.rows by e.uses → IsAnswer (values_at_end by d.log (value_of s.records by)) e
  right anew none answers stand = n.right (values_at_end by d.log (value_of s.records by)) (λ l held u i same.
      let r : Stands s.rows by u = stand u i in
      elim (h.telling l held r.row r.stands (r.number ∙ sym same)) as (λ _. IsUnread (values_at_end by d.log (value_of s.records by)) l.field ⊎ (values_at_end by d.log (value_of s.records by) l.field ≡ value_seen by d l)) [
        | inl gone ↦ inl (lost_unread s.journal (values_at_end by d.log (value_of s.records by)) l.field
            (lost_at_end by s.journal d.log (value_of s.records by) anew answers l.field (lost_in s.records by s.journal l.field gone)))
        | inr told ↦ inr (end_seen by d.log (value_of s.records by) l.field ∙ ap (λ v. value_after_log by l.field v (map (effects_in by) d.log)) (sym told))
      ]) (unborn none)

  more_items : all_items by s.journal (d.log ++ e ∷ []) ≡ all_items by s.journal d.log ++ item_of by e ∷ []
  more_items = ap (λ is. items_by by s.journal ++ is) (map-append (item_of by) d.log (e ∷ [])) ∙ sym (append_assoc (items_by by s.journal) (map (item_of by) d.log) (item_of by e ∷ []))

  pub reply_holds : MakeAnew by s.journal d.log → AreUnborn s.records d → SessionHolds skew greatest s by (replied ++ item_of by e ∷ []) (with_last e d)
  reply_holds anew none = record {
    backed = h.backed;
    telling = h.telling;
    pending = stand_more s.rows by (value_of s.records by) d.log e h.pending (right anew none);
    numbers = subst (λ is. AreNumbered 1 is (d.next + 1)) (sym more_items) (number_more 1 (all_items by s.journal d.log) d.next (item_of by e) h.numbers n.number);
    replies = more_items ∙ ap (λ is. is ++ item_of by e ∷ []) h.replies;
  }

  held : UsesHeld d.leases (d.log ++ e ∷ [])
  held = each_more (λ e. (u : Use) → In u e.uses → HasLease d.leases u) d.log e f.held (λ u i.
      let l = n.of_lease u i in
      record { lease = l.lease; held = l.held; number = l.number; field = l.field; kind = l.kind })

  backed : UsesBacked skew greatest s.rows (d.log ++ e ∷ [])
  backed = each_more (λ e. (u : Use) → In u e.uses → greatest < u.until + skew → IsBacked s.rows u.no u.until) d.log e f.backed (λ u i live.
      let l = n.of_lease u i in
      let b = h.backed l.lease l.held (subst (λ t. greatest < t + skew) (sym l.until) live) in
      record { row = b.row; stands = b.stands; number = b.number ∙ l.number; lasts = subst (λ t. t ≤ b.row.until) l.until b.lasts })

  refused : RefusedGone s.rows (d.log ++ e ∷ []) d.over
  refused k o =
      let q : IsGone s.rows d.log k = f.refused k o in
      record { first = q.first; rest = q.rest ++ e ∷ []; log = ap (λ es. es ++ e ∷ []) q.log; number = q.number; used = q.used; among = q.among; gone = q.gone }

  pub reply_fits : SessionFits skew greatest s by (with_last e d)
  reply_fits = record {
    given = f.given;
    distinct = f.distinct;
    matching = f.matching;
    fresh = f.fresh;
    lives = f.lives;
    held = held;
    backed = backed;
    entries = each_more IsEntry d.log e f.entries n.entry;
    once = once_more d.log e f.once n.once;
    refused = refused;
    led = none_led skew greatest s by (with_last e d) n.unled;
  }
