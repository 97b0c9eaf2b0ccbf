-- One row more, and one lease more.
use Rattle.std.proofs.Common.{◌≡◌, ℕ, ◌+◌, ◌<◌, ◌≤◌, Bool, true, false, cond, List, [], ◌∷◌, ◌++◌, refl, sym, ap, ◌∙◌, subst, ◌⊎◌, inl, inr, arith}
use Rattle.std.specs.FinMap.{get}
use Rattle.std.specs.Prelude.{Some, ◌≢◌}
use Rattle.fs_ident.specs.In.{In}
use Rattle.fs_ident.specs.Ordered.{put_before}
use Rattle.fs_ident.specs.declared.actor.Session.{Session}
use Rattle.fs_ident.specs.declared.kind.Kind.TheVariants.{Dir}
use Rattle.fs_ident.proofs.Standing.{In-put, In-front}
use Rattle.fs_field.specs.declared.field.Field.{Field}
use Rattle.fs_field.specs.declared.field.Field.TheVariants.{Life}
use Rattle.fs_field.specs.declared.row.Row.{Row}
use Rattle.fs_field.specs.declared.value.Value.TheVariants as value
use Rattle.fs_field.specs.Table.{with_row, no_before}
use Rattle.fs_model.specs.Sound.{kind_of}
use Rattle.fs_msg.specs.declared.item.Item.{Item}
use Rattle.fs_record.specs.Records.{node_of}
use Rattle.fs_record.specs.ValueOf.{value_of}
use Rattle.fs_serial.specs.Fresh.{IsMade, NodesMade, TellsLife, made}
use Rattle.fs_serial.specs.Gone.{IsOfGone}
use Rattle.fs_serial.specs.Leases.{IsBacked, IsRowOf, IsFresh}
use Rattle.fs_serial.specs.Numbers.{items_by}
use Rattle.fs_serial.specs.Parts.{SessionHolds, SessionFits}
use Rattle.fs_serial.specs.Relies.{Relies, Stood}
use Rattle.fs_serial.specs.Settled.{Lease, Settled, with_leases}
use Rattle.fs_serial.specs.Sight.{Sight, IsGiven}
use Rattle.fs_serial.proofs.LedOperations.LedKept.{each_led}
use Rattle.fs_serial.proofs.Lists.Journals.{each_more}
use Rattle.fs_serial.proofs.OtherSessions.Gone.{still_gone}

-- ## One row more

-- a row of the table is the new one, or a row of the table before
pub In-with_row : (r row : Row) (rows : List Row) → In r (with_row row rows) → (r ≡ row) ⊎ In r rows
In-with_row r row rows i = In-put (λ x. no_before row.no x.no) r row rows i

pub In-put_still : {X : Type 0} (test : X → Bool) (x new : X) (ys : List X) → In x ys → In x (put_before test new ys)
In-put_still test x new [] h = absurd h
In-put_still test x new (y ∷ ys) h =
    elim (test y) as (λ b. In x (cond b (new ∷ y ∷ ys) (y ∷ put_before test new ys))) [
      | true ↦ inr h
      | false ↦ elim h as (λ _. In x (y ∷ put_before test new ys)) [ inl e ↦ inl e | inr j ↦ inr (In-put_still test x new ys j) ]
    ]

-- each session relies on what was before a row with a new number
pub row_relied : (skew greatest : ℕ) (by : Session) (s t : Sight) (row : Row) → t.rows ≡ with_row row s.rows → (IsGiven s.given row.no → ⊥) → ((k : ℕ) → s.given k ≤ t.given k) → ((field : Field) → value_of t.records by field ≡ value_of s.records by field) → t.journal ≡ s.journal
    → Relies skew greatest by s t
row_relied skew greatest by s t row rows new given values journal = record {
  given = given;
  older = λ r i g. elim (In-with_row r row s.rows (subst (λ rs. In r rs) rows i)) as (λ _. Stood s.rows r) [
    | inl e ↦ absurd (new (subst (λ (x : Row). IsGiven s.given x.no) e g))
    | inr j ↦ record { row = r; stood = j; number = refl; session = refl; field = refl; kind = refl }
  ];
  kept = λ r i own late. record { row = r; stands = subst (λ rs. In r rs) (sym rows) (In-put_still (λ x. no_before row.no x.no) r row s.rows i); number = refl; lasts = omega arith };
  values = λ r i g own. inr (values r.field);
  dirs = λ file was. ap (λ j. made j file) journal ∙ was;
  made = λ file was. subst (λ j. IsMade j file) (sym journal) was;
  gone = λ file was none. let life : value.Life (kind_of (node_of (get t.records file))) ≡ value.Life (kind_of (node_of (get s.records file))) = values (Life file) in still_gone s.records t.records file (cc life) none;
  items = ap (items_by by) journal;
}

-- ## One lease more

-- the row of a lease that is new to the session stands, and tells what the lease tells
pub record IsNewLease (t : Sight) (by : Session) (leases : List Lease) (l : Lease) : Type 0 where
  pub given : IsGiven t.given l.no
  pub new : (k : Lease) → In k leases → k.no ≢ l.no
  pub row : IsBacked t.rows l.no l.until
  pub own : (r : Row) → In r t.rows → r.no ≡ l.no → IsRowOf by l.field l.kind r
  pub told : IsOfGone t.records t.journal l.field ⊎ (l.base ≡ value_of t.records by l.field)
  pub fresh : (dir : List ℕ) → l.below ≡ Some dir → IsFresh dir l

module _ (skew greatest : ℕ) (by : Session) (t : Sight) (d : Settled) (l : Lease) (fits : IsNewLease t by d.leases l) (f : SessionFits skew greatest t by d) where
  distinct : (j : Lease) → In j (d.leases ++ l ∷ []) → (k : Lease) → In k (d.leases ++ l ∷ []) → j.no ≡ k.no → j ≡ k
  distinct = each_more (λ (j : Lease). (k : Lease) → In k (d.leases ++ l ∷ []) → j.no ≡ k.no → j ≡ k) d.leases l
      (λ j i. each_more (λ (k : Lease). j.no ≡ k.no → j ≡ k) d.leases l (λ k h e. f.distinct j k i h e) (λ e. absurd (fits.new j i e)))
      (each_more (λ (k : Lease). l.no ≡ k.no → l ≡ k) d.leases l (λ k h e. absurd (fits.new k h (sym e))) (λ e. refl))

  -- what it tells of a file that lives was made
  new_tells : NodesMade t.records t.journal → (file : List ℕ) → l.field ≡ Life file → TellsLife t.journal file l.base
  new_tells nodes file on = elim fits.told as (λ _. TellsLife t.journal file l.base) [
    | inl gone ↦ absurd (subst (IsOfGone t.records t.journal) on gone)
    | inr told ↦ record { life = kind_of (node_of (get t.records file)); is = told ∙ ap (value_of t.records by) on; dir = nodes file Dir }
  ]

  pub leased_fits : NodesMade t.records t.journal → SessionFits skew greatest t by (with_leases (l ∷ []) d)
  leased_fits nodes = record {
    given = each_more (λ (k : Lease). IsGiven t.given k.no) d.leases l f.given fits.given;
    distinct = λ j k i h. distinct j i k h;
    matching = each_more (λ (k : Lease). (r : Row) → In r t.rows → r.no ≡ k.no → IsRowOf by k.field k.kind r) d.leases l f.matching fits.own;
    fresh = each_more (λ (k : Lease). (dir : List ℕ) → k.below ≡ Some dir → IsFresh dir k) d.leases l f.fresh fits.fresh;
    lives = each_more (λ (k : Lease). (file : List ℕ) → k.field ≡ Life file → TellsLife t.journal file k.base) d.leases l f.lives (new_tells nodes);
    held = λ e h u i. let q = f.held e h u i in record { lease = q.lease; held = In-front q.lease d.leases (l ∷ []) q.held; number = q.number; field = q.field; kind = q.kind };
    backed = f.backed;
    entries = f.entries;
    once = f.once;
    refused = f.refused;
    led = each_led skew greatest greatest t t by d (with_leases (l ∷ []) d) d.led (λ led is h. record {
      leads = h.leads;
      number = h.number;
      empty = h.empty;
      held = λ e i u j. let q = h.held e i u j in record { lease = q.lease; held = In-front q.lease d.leases (l ∷ []) q.held; number = q.number; field = q.field; kind = q.kind };
      backed = h.backed;
      parts = h.parts;
      home = h.home;
      lives = h.lives;
      right = h.right;
    }) f.led;
  }

  pub leased_holds : (replied : List Item) → SessionHolds skew greatest t by replied d → SessionHolds skew greatest t by replied (with_leases (l ∷ []) d)
  leased_holds replied h = record {
    backed = each_more (λ (k : Lease). greatest < k.until + skew → IsBacked t.rows k.no k.until) d.leases l h.backed (λ late. fits.row);
    telling = each_more (λ (k : Lease). (r : Row) → In r t.rows → r.no ≡ k.no → IsOfGone t.records t.journal k.field ⊎ (k.base ≡ value_of t.records by k.field)) d.leases l h.telling (λ r i e. fits.told);
    pending = h.pending;
    numbers = h.numbers;
    replies = h.replies;
  }
