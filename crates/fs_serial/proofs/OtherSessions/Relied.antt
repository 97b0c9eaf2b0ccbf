-- What a session relies on keeps its parts.
use Rattle.std.proofs.Common.{◌≡◌, ℕ, ◌+◌, ◌<◌, ◌≤◌, true, List, [], ◌∷◌, ◌++◌, ◌⊎◌, map, refl, sym, ap, ◌∙◌, subst, inl, inr, arith}
use Rattle.std.specs.Prelude.{None, Some, is_some}
use Rattle.std.specs.FinMap.{get}
use Rattle.fs_ident.specs.In.{In}
use Rattle.fs_ident.specs.declared.actor.LeaseNo.{LeaseNo}
use Rattle.fs_ident.specs.declared.actor.Session.{Session}
use Rattle.fs_ident.specs.declared.kind.Kind.TheVariants.{Dir}
use Rattle.fs_field.specs.declared.asked.Need.TheVariants as need
use Rattle.fs_field.specs.declared.field.Field.{Field}
use Rattle.fs_field.specs.declared.field.Field.TheVariants.{Child, Life}
use Rattle.fs_field.specs.declared.lease_kind.LeaseKind.{LeaseKind}
use Rattle.fs_field.specs.declared.lease_kind.LeaseKind.TheVariants.{Exclusive}
use Rattle.fs_field.specs.declared.row.Row.{Row}
use Rattle.fs_field.specs.declared.used.Use.{Use}
use Rattle.fs_field.specs.declared.value.Value.{Value}
use Rattle.fs_field.specs.declared.value.Value.TheVariants as value
use Rattle.fs_model.specs.Asking.{home_of}
use Rattle.fs_msg.specs.declared.answer.Answer.{Answer}
use Rattle.fs_msg.specs.declared.entry.Entry.{Entry}
use Rattle.fs_msg.specs.declared.item.Item.{Item}
use Rattle.fs_record.specs.Records.{node_of}
use Rattle.fs_record.specs.ValueOf.{value_of}
use Rattle.fs_view.specs.declared.view_lease.ViewLease.{ViewLease}
use Rattle.fs_view.specs.View.{value_after_all}
use Rattle.fs_view.specs.Gone.{IsUnread, known_with}
use Rattle.fs_view.specs.Walk.{walk, always}
use Rattle.fs_view.proofs.Unread.{alike_but_gone}
use Rattle.fs_client.specs.Led.{is_led}
use Rattle.fs_client.specs.declared.led.Led.{Led}
use Rattle.fs_client.specs.Turns.{pair_of}
use Rattle.fs_serial.specs.Exchange.{ReturnsFit, RenewalsBacked}
use Rattle.fs_serial.specs.Fresh.{IsMade, made}
use Rattle.fs_serial.specs.Gone.{IsOfGone}
use Rattle.fs_serial.specs.Led.{HomeLives, IsLeadAnswer, LedStands}
use Rattle.fs_serial.specs.Leases.{IsBacked, LeasesBacked, LeasesTrue, LeasesMatch}
use Rattle.fs_server.specs.Ships.{item_of}
use Rattle.fs_serial.specs.Numbers.{items_by, AreNumbered, all_items, NumbersInOrder}
use Rattle.fs_serial.specs.Parts.{SessionHolds, SessionFits}
use Rattle.fs_serial.specs.Pending.{AllStand, HasLease, IsAnswer, IsCovered, PendingStand, RefusedGone, UsesBacked, values_after}
use Rattle.fs_serial.specs.Relies.{Relies, Stood}
use Rattle.fs_serial.specs.Settled.{Lease, Settled, effects_in}
use Rattle.fs_serial.specs.Sight.{Sight, IsGiven}
use Rattle.fs_serial.proofs.OtherSessions.Gone.{IsLost, MakeAnew, gone_later, lost_after, lost_in, lost_unread, tells_later}
use Rattle.fs_serial.proofs.LedOperations.LedKept.{each_led, one_entry}
use Rattle.fs_serial.proofs.LedOperations.MovedItems.{moved_alike}
use Rattle.fs_serial.proofs.OtherSessions.Older.{later_pair}

-- ## Answers

-- values that agree on what the answer stands on, but for what is of no matter, give the same answer
pub answers_alike : (rows : List Row) (by : Session) (v w : Field → Value) (e : Entry) → ((r : Row) → In r rows → r.session ≡ by → (u : Use) → In u e.uses → r.no ≡ u.no → IsUnread w r.field ⊎ (w r.field ≡ v r.field)) → AllStand rows by e.uses → IsAnswer v e → IsAnswer w e
answers_alike rows by v w e agree stand a =
    let same : walk (known_with w) always e.op ≡ walk (known_with v) always e.op = alike_but_gone (known_with v) always w e.op (ap is_some a.reply) (λ field kind i. has_too field kind (a.covered (need.Lease field kind) i)) in
    record {
      reply = ap (λ k. k.reply) same ∙ a.reply;
      covered = λ n i. a.covered n (subst (λ k. In n k.items) same i);
    }
  where
    has_too : (field : Field) (kind : LeaseKind) → IsCovered e.uses (need.Lease field kind) → IsUnread w field ⊎ (Some (w field) ≡ known_with v field kind)
    has_too field kind c =
        let q = stand c.used c.among in
        let there : q.row.field ≡ field = q.field ∙ c.field in
        elim (agree q.row q.stands q.session c.used c.among q.number) as (λ _. IsUnread w field ⊎ (Some (w field) ≡ known_with v field kind)) [
          | inl gone ↦ inl (subst (IsUnread w) there gone)
          | inr same ↦ inr (ap Some (ap w (sym there) ∙ same ∙ ap v there))
        ]

-- so it is of what is led
lead_alike : (rows : List Row) (by : Session) (v w : Field → Value) (l : Led) → is_led l.entry.op l.entry.reply ≡ true
    → ((r : Row) → In r rows → r.session ≡ by → (u : Use) → In u l.entry.uses → r.no ≡ u.no → IsUnread w r.field ⊎ (w r.field ≡ v r.field)) → AllStand rows by l.entry.uses → IsLeadAnswer v l → IsLeadAnswer w l
lead_alike rows by v w l leads agree stand a = record {
  answer = answers_alike rows by v w l.entry agree stand a.answer;
  moved = moved_alike (known_with v) (known_with w) always l.entry.op l.entry.reply (l.file, l.kind) leads a.answer.reply a.moved
      (λ dir name i. told_alike (Child dir name) Exclusive (a.answer.covered (need.Lease (Child dir name) Exclusive) i) (λ z. z))
      (λ file kind i. told_alike (Life file) kind (a.answer.covered (need.Lease (Life file) kind) i) (λ z. z));
}
  where
    told_alike : (field : Field) (kind : LeaseKind) → IsCovered l.entry.uses (need.Lease field kind) → (IsUnread w field → ⊥) → known_with w field kind ≡ known_with v field kind
    told_alike field kind c unread =
        let q = stand c.used c.among in
        let there : q.row.field ≡ field = q.field ∙ c.field in
        elim (agree q.row q.stands q.session c.used c.among q.number) as (λ _. known_with w field kind ≡ known_with v field kind) [
          | inl gone ↦ absurd (unread (subst (IsUnread w) there gone))
          | inr same ↦ ap Some (ap w (sym there) ∙ same ∙ ap v there)
        ]

-- what a session with these leases relies on
pub record ReliesFor (skew greatest : ℕ) (by : Session) (s t : Sight) (leases : List Lease) : Type 0 where
  pub given : (k : ℕ) → s.given k ≤ t.given k
  pub older : (r : Row) → In r t.rows → IsGiven s.given r.no → Stood s.rows r
  -- the rows of its leases are kept until they have ended
  pub kept : (l : Lease) → In l leases → (r : Row) → In r s.rows → r.no ≡ l.no → greatest < r.until + skew → IsBacked t.rows r.no r.until
  pub values : (r : Row) → In r t.rows → IsGiven s.given r.no → r.session ≡ by → IsOfGone t.records s.journal r.field ⊎ (value_of t.records by r.field ≡ value_of s.records by r.field)
  pub dirs : (file : List ℕ) → made s.journal file ≡ Some Dir → made t.journal file ≡ Some Dir
  pub made : (file : List ℕ) → IsMade s.journal file → IsMade t.journal file
  pub gone : (file : List ℕ) → IsMade s.journal file → node_of (get s.records file) ≡ None → node_of (get t.records file) ≡ None
  pub items : items_by by t.journal ≡ items_by by s.journal

module _ (skew greatest : ℕ) (by : Session) (s t : Sight) (d : Settled) (rely : ReliesFor skew greatest by s t d.leases) (f : SessionFits skew greatest s by d) where
  -- ## Leases

  still_given : (n : LeaseNo) → IsGiven s.given n → IsGiven t.given n
  still_given n g = let more = rely.given n.server in omega arith

  -- a row with the number of a lease stood before
  stood : (l : Lease) → In l d.leases → (r : Row) → In r t.rows → r.no ≡ l.no → Stood s.rows r
  stood l h r i e = rely.older r i (subst (λ n. IsGiven s.given n) (sym e) (f.given l h))

  matching : LeasesMatch t.rows by d.leases
  matching l h r i e =
      let q = stood l h r i e in
      let m = f.matching l h q.row q.stood (q.number ∙ e) in
      record { session = sym q.session ∙ m.session; field = sym q.field ∙ m.field; kind = sym q.kind ∙ m.kind }

  -- what is backed by the row of a lease stays so
  backed_still : (l : Lease) → In l d.leases → (n : LeaseNo) (until : ℕ) → n ≡ l.no → greatest < until + skew → IsBacked s.rows n until → IsBacked t.rows n until
  backed_still l h n until same late b =
      let last = b.lasts in
      let k = rely.kept l h b.row b.stands (b.number ∙ same) (omega arith) in
      let more = k.lasts in
      record { row = k.row; stands = k.stands; number = k.number ∙ b.number; lasts = omega arith }

  backed : LeasesBacked skew greatest s.rows d.leases → LeasesBacked skew greatest t.rows d.leases
  backed b l h late = backed_still l h l.no l.until refl late (b l h late)

  telling : LeasesTrue s.rows (IsOfGone s.records s.journal) (value_of s.records by) d.leases → LeasesTrue t.rows (IsOfGone t.records t.journal) (value_of t.records by) d.leases
  telling told l h r i e =
      let q = stood l h r i e in
      let m = matching l h r i e in
      elim (told l h q.row q.stood (q.number ∙ e)) as (λ _. IsOfGone t.records t.journal l.field ⊎ (l.base ≡ value_of t.records by l.field)) [
        | inl gone ↦ inl (gone_later s.records t.records s.journal t.journal rely.made rely.gone l.field gone)
        | inr same ↦ elim (rely.values r i (subst (λ n. IsGiven s.given n) (sym e) (f.given l h)) m.session) as (λ _. IsOfGone t.records t.journal l.field ⊎ (l.base ≡ value_of t.records by l.field)) [
          | inl gone ↦ inl (subst (IsOfGone t.records t.journal) m.field (gone_later t.records t.records s.journal t.journal rely.made (λ file was n. n) r.field gone))
          | inr values ↦ inr (same ∙ ap (value_of s.records by) (sym m.field) ∙ sym values ∙ ap (value_of t.records by) m.field)
        ]
      ]

  -- ## Entries

  given_by : (u : Use) → HasLease d.leases u → IsGiven s.given u.no
  given_by u l = subst (λ n. IsGiven s.given n) l.number (f.given l.lease l.held)

  use_given : (e : Entry) → In e d.log → (u : Use) → In u e.uses → IsGiven s.given u.no
  use_given e h u i = given_by u (f.held e h u i)

  uses_backed : UsesBacked skew greatest t.rows d.log
  uses_backed e h u i late =
      let l = f.held e h u i in
      backed_still l.lease l.held u.no u.until (sym l.number) late (f.backed e h u i late)

  stood_all : (e : Entry) → ((u : Use) → In u e.uses → HasLease d.leases u) → AllStand t.rows by e.uses → AllStand s.rows by e.uses
  stood_all e has stand u i =
      let q = stand u i in
      let p = rely.older q.row q.stands (subst (λ n. IsGiven s.given n) (sym q.number) (given_by u (has u i))) in
      record { row = p.row; stands = p.stood; number = p.number ∙ q.number; session = p.session ∙ q.session; field = p.field ∙ q.field; kind = p.kind ∙ q.kind }

  -- the values are the same on what rows of the session are on, but for size and stamp of files that are gone
  abbrev AgreeOnRows : (Field → Value) → (Field → Value) → Type 0
  AgreeOnRows v w = (r : Row) → In r t.rows → IsGiven s.given r.no → r.session ≡ by → IsLost s.journal w r.field ⊎ (w r.field ≡ v r.field)

  agree_at_first : AgreeOnRows (value_of s.records by) (value_of t.records by)
  agree_at_first r i g own = elim (rely.values r i g own) as (λ _. IsLost s.journal (value_of t.records by) r.field ⊎ (value_of t.records by r.field ≡ value_of s.records by r.field)) [
    | inl gone ↦ inl (lost_in t.records by s.journal r.field gone)
    | inr same ↦ inr same
  ]

  agree_after : (e : Entry) → In e d.log → MakeAnew by s.journal d.log → (v w : Field → Value) → IsAnswer w e → AgreeOnRows v w → AgreeOnRows (values_after by e v) (values_after by e w)
  agree_after e h anew v w a agree r i g own = elim (agree r i g own) as (λ _. IsLost s.journal (values_after by e w) r.field ⊎ (values_after by e w r.field ≡ values_after by e v r.field)) [
    | inl lost ↦ inl (lost_after by s.journal w e a (anew e h) r.field lost)
    | inr same ↦ inr (ap (λ x. value_after_all by r.field x (effects_in by e)) same)
  ]

  agree_unread : (v w : Field → Value) → AgreeOnRows v w → (r : Row) → In r t.rows → IsGiven s.given r.no → r.session ≡ by → IsUnread w r.field ⊎ (w r.field ≡ v r.field)
  agree_unread v w agree r i g own = elim (agree r i g own) as (λ _. IsUnread w r.field ⊎ (w r.field ≡ v r.field)) [ inl lost ↦ inl (lost_unread s.journal w r.field lost) | inr same ↦ inr same ]

  pending_from : MakeAnew by s.journal d.log → (log : List Entry) → ((e : Entry) → In e log → In e d.log) → (v w : Field → Value) → AgreeOnRows v w → PendingStand s.rows by v log → PendingStand t.rows by w log
  pending_from anew [] within v w agree p = tt
  pending_from anew (e ∷ es) within v w agree p = λ stand.
      let h = within e (inl refl) in
      let q = p (stood_all e (f.held e h) stand) in
      let a : IsAnswer w e = answers_alike t.rows by v w e (λ r i own u j n. agree_unread v w agree r i (subst (λ n. IsGiven s.given n) (sym n) (use_given e h u j)) own) stand q.0 in
      (a, pending_from anew es (λ x i. within x (inr i)) (values_after by e v) (values_after by e w) (agree_after e h anew v w a agree) q.1)

  pending : MakeAnew by s.journal d.log → PendingStand s.rows by (value_of s.records by) d.log → PendingStand t.rows by (value_of t.records by) d.log
  pending anew p = pending_from anew d.log (λ e i. i) (value_of s.records by) (value_of t.records by) agree_at_first p

  refused : RefusedGone t.rows d.log d.over
  refused n e =
      let q = f.refused n e in
      let first : In q.first d.log = subst (λ es. In q.first es) (sym q.log) (inl refl) in
      record {
        first = q.first;
        rest = q.rest;
        log = q.log;
        number = q.number;
        used = q.used;
        among = q.among;
        gone = λ r i m. let p = rely.older r i (subst (λ n. IsGiven s.given n) (sym m) (use_given q.first first q.used q.among)) in q.gone p.row p.stood (p.number ∙ m);
      }

  -- ## What is led

  home_still : (l : Led) → LedStands skew greatest s by d l → HomeLives t.rows t.records by l
  home_still l h = record {
    used = h.lives.used;
    among = h.lives.among;
    field = h.lives.field;
    told = λ r i e.
        let q : HasLease d.leases h.lives.used = h.held l.entry (inl refl) h.lives.used h.lives.among in
        let n : r.no ≡ q.lease.no = e ∙ sym q.number in
        let p = stood q.lease q.held r i n in
        let m = matching q.lease q.held r i n in
        let on : r.field ≡ h.lives.used.field = m.field ∙ q.field in
        elim (rely.values r i (subst (λ n. IsGiven s.given n) (sym n) (f.given q.lease q.held)) m.session) as (λ _. value_of t.records by h.lives.used.field ≡ value.Life (Some Dir)) [
          | inl gone ↦ absurd (subst (IsOfGone t.records s.journal) (on ∙ h.lives.field) gone)
          | inr same ↦ ap (value_of t.records by) (sym on) ∙ same ∙ ap (value_of s.records by) on ∙ h.lives.told p.row p.stood (p.number ∙ e)
        ];
  }

  led_still : (l : Led) → LedStands skew greatest s by d l → LedStands skew greatest t by d l
  led_still l h = record {
    leads = h.leads;
    number = h.number;
    empty = h.empty;
    held = h.held;
    backed = one_entry l.entry (λ u i late. let q = h.held l.entry (inl refl) u i in backed_still q.lease q.held u.no u.until (sym q.number) late (h.backed l.entry (inl refl) u i late));
    parts = h.parts;
    home = rely.dirs (home_of l.entry.op) h.home;
    lives = home_still l h;
    right = λ stand. lead_alike t.rows by (value_of s.records by) (value_of t.records by) l h.leads
        (λ r i own u j n. agree_unread (value_of s.records by) (value_of t.records by) agree_at_first r i (subst (λ n. IsGiven s.given n) (sym n) (given_by u (h.held l.entry (inl refl) u j))) own)
        stand (h.right (stood_all l.entry (h.held l.entry (inl refl)) stand));
  }

  -- ## Numbers

  items : (log : List Entry) → all_items by t.journal log ≡ all_items by s.journal log
  items log = ap (λ is. is ++ map (item_of by) log) rely.items

  numbers : NumbersInOrder by s.journal d.log d.next → NumbersInOrder by t.journal d.log d.next
  numbers h = subst (λ is. AreNumbered 1 is d.next) (sym (items d.log)) h

  -- ## Together

  pub still_fits : SessionFits skew greatest t by d
  still_fits = record {
    given = λ l h. still_given l.no (f.given l h);
    distinct = f.distinct;
    matching = matching;
    fresh = f.fresh;
    lives = λ l i file on. tells_later s.journal t.journal file l.base (rely.dirs file) (f.lives l i file on);
    held = f.held;
    backed = uses_backed;
    entries = f.entries;
    once = f.once;
    refused = refused;
    led = each_led skew greatest greatest s t by d d d.led (λ l is. led_still l) f.led;
  }

  pub still_holds : MakeAnew by s.journal d.log → (replied : List Item) → SessionHolds skew greatest s by replied d → SessionHolds skew greatest t by replied d
  still_holds anew replied h = record {
    backed = backed h.backed;
    telling = telling h.telling;
    pending = pending anew h.pending;
    numbers = numbers h.numbers;
    replies = items d.log ∙ h.replies;
  }

  pub still_returns : (kept : List ViewLease) → ReturnsFit s.given s.rows by kept d.leases → ReturnsFit t.given t.rows by kept d.leases
  still_returns kept h k i leaving =
      let q = h k i leaving in
      record {
        fits = later_pair s.given t.given s.rows t.rows (record { given = rely.given; older = rely.older }) (pair_of k) q.fits;
        alone = q.alone;
        own = λ r j e. let p = rely.older r j (subst (λ n. IsGiven s.given n) (sym e) q.fits.known) in sym p.session ∙ q.own p.row p.stood (p.number ∙ e);
      }

  -- a renewal on its way to a lease whose image the session has
  pub still_renewals : (down : List Answer) (now : List Lease) → ((l : Lease) → In l now → (m : Lease) × In m d.leases × (m.no ≡ l.no)) → RenewalsBacked skew greatest s.rows down now → RenewalsBacked skew greatest t.rows down now
  still_renewals down now image h ends end i n until j l k e late =
      let m = image l k in
      backed_still m.0 m.1 n until (sym e ∙ sym m.2) late (h ends end i n until j l k e late)

-- ## What all sessions rely on

pub relies_for : (skew greatest : ℕ) (by : Session) (s t : Sight) (leases : List Lease) → LeasesMatch s.rows by leases → Relies skew greatest by s t → ReliesFor skew greatest by s t leases
relies_for skew greatest by s t leases matching rely = record {
  given = rely.given;
  older = rely.older;
  kept = λ l h r i e late. rely.kept r i (matching l h r i e).session late;
  values = rely.values;
  dirs = rely.dirs;
  made = rely.made;
  gone = rely.gone;
  items = rely.items;
}

module _ (skew greatest : ℕ) (by : Session) (s t : Sight) (d : Settled) (rely : Relies skew greatest by s t) (f : SessionFits skew greatest s by d) where
  pub relied_fits : SessionFits skew greatest t by d
  relied_fits = still_fits skew greatest by s t d (relies_for skew greatest by s t d.leases f.matching rely) f

  pub relied_holds : MakeAnew by s.journal d.log → (replied : List Item) → SessionHolds skew greatest s by replied d → SessionHolds skew greatest t by replied d
  relied_holds anew replied h = still_holds skew greatest by s t d (relies_for skew greatest by s t d.leases f.matching rely) f anew replied h
