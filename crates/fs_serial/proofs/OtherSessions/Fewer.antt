-- A client with fewer leases, of which it uses all.
use Rattle.std.proofs.Common.{◌≡◌, ℕ, zero, suc, ◌+◌, List, [], ◌∷◌, ◌++◌, map, refl, sym, ap, ◌∙◌, subst, inl, inr}
use Rattle.std.specs.Prelude.{Option, Some, None}
use Rattle.fs_ident.specs.In.{In}
use Rattle.fs_ident.specs.declared.actor.LeaseNo.{LeaseNo}
use Rattle.fs_ident.specs.declared.actor.Session.{Session}
use Rattle.fs_ident.proofs.Standing.{In-map, In-append, In-front, In-behind, In-mapped}
use Rattle.fs_field.specs.declared.used.Use.{Use}
use Rattle.fs_msg.specs.declared.answer.Answer.{Answer}
use Rattle.fs_msg.specs.declared.answer.Answer.TheVariants.{Granted, Renewed, Released, Shipped, Recall, Led}
use Rattle.fs_msg.specs.declared.entry.Entry.{Entry}
use Rattle.fs_msg.specs.declared.item.Item.{Item}
use Rattle.fs_record.specs.ValueOf.{value_of}
use Rattle.fs_client.specs.Answers.{over_after}
use Rattle.fs_client.specs.Led.{effects_of_led}
use Rattle.fs_client.specs.declared.led.Led.{Led as TheLed}
use Rattle.fs_record.specs.declared.led_end.LedEnd.{LedEnd}
use Rattle.fs_record.specs.declared.led_end.LedEnd.TheVariants as ends
use Rattle.fs_serial.specs.Client.{led_before}
use Rattle.fs_serial.specs.Led.{LedFits, LedStands}
use Rattle.fs_serial.specs.Numbers.{AreNumbered, all_items}
use Rattle.fs_serial.specs.Parts.{SessionHolds, SessionFits}
use Rattle.fs_serial.specs.Pending.{PendingStand, HasLease, UsesHeld, UsesBacked, AreEntries, NamedOnce, RefusedGone}
use Rattle.fs_serial.specs.Settled.{Lease, Settled, acknowledged, acknowledged_all, lease_after, effects_in, granted, led_ended, led_over, with_leases, with_over, told, settled}
use Rattle.fs_serial.specs.Sight.{Sight}
use Rattle.fs_serial.proofs.LedOperations.LedKept.{each_led, in_before, led_first, one_entry}

-- the second has no other leases than the first, and those of these numbers; all else is the same
pub record HasFewer (these : LeaseNo → Type 0) (d e : Settled) : Type 0 where
  pub log : e.log ≡ d.log
  pub next : e.next ≡ d.next
  pub over : e.over ≡ d.over
  pub led : e.led ≡ d.led
  pub fewer : (l : Lease) → In l e.leases → In l d.leases
  pub still : (l : Lease) → In l d.leases → these l.no → In l e.leases

-- ## Whatever is on its way

one_fewer : (these : LeaseNo → Type 0) (by : Session) (es : List Entry) (d e : Settled) → HasFewer these d e → HasFewer these (acknowledged by es d) (acknowledged by es e)
one_fewer these by [] d e h = h
one_fewer these by (x ∷ es) d e h = record {
  log = refl;
  next = h.next;
  over = h.over;
  led = h.led;
  fewer = λ l i. let q = In-map (lease_after by (effects_in by x)) l e.leases i in subst (λ m. In m (map (lease_after by (effects_in by x)) d.leases)) (sym q.1.1) (In-mapped (lease_after by (effects_in by x)) q.0 d.leases (h.fewer q.0 q.1.0));
  still = λ l i t. let q = In-map (lease_after by (effects_in by x)) l d.leases i in subst (λ m. In m (map (lease_after by (effects_in by x)) e.leases)) (sym q.1.1) (In-mapped (lease_after by (effects_in by x)) q.0 e.leases (h.still q.0 q.1.0 (subst these (ap (λ (l : Lease). l.no) q.1.1) t)));
}

all_fewer : (these : LeaseNo → Type 0) (by : Session) (k : ℕ) (d e : Settled) → HasFewer these d e → HasFewer these (acknowledged_all by k d) (acknowledged_all by k e)
all_fewer these by zero d e h = h
all_fewer these by (suc k) d e h = all_fewer these by k (acknowledged by d.log d) (acknowledged by e.log e) (subst (λ es. HasFewer these (acknowledged by d.log d) (acknowledged by es e)) (sym h.log) (one_fewer these by d.log d e h))

more_fewer : (these : LeaseNo → Type 0) (more : List Lease) (d e : Settled) → HasFewer these d e → HasFewer these (with_leases more d) (with_leases more e)
more_fewer these more d e h = record {
  log = h.log;
  next = h.next;
  over = h.over;
  led = h.led;
  fewer = λ l i. elim (In-append l e.leases more i) as (λ _. In l (d.leases ++ more)) [ inl j ↦ In-front l d.leases more (h.fewer l j) | inr j ↦ In-behind l d.leases more j ];
  still = λ l i t. elim (In-append l d.leases more i) as (λ _. In l (e.leases ++ more)) [ inl j ↦ In-front l e.leases more (h.still l j t) | inr j ↦ In-behind l e.leases more j ];
}

over_fewer : (these : LeaseNo → Type 0) (f : Option ℕ → Option ℕ) (was : Settled) (now : Settled) (d e : Settled) → now.over ≡ was.over → HasFewer these d e → HasFewer these (with_over (f was.over) d) (with_over (f now.over) e)
over_fewer these f was now d e same h = record { log = h.log; next = h.next; over = ap f same; led = h.led; fewer = h.fewer; still = h.still }

-- the end of what is led
over_led : (these : LeaseNo → Type 0) (by : Session) (l : TheLed) (end : LedEnd) (d e : Settled) → HasFewer these d e → HasFewer these (led_over by l end d) (led_over by l end e)
over_led these by l (ends.Done r) d e h =
    let f = lease_after by (effects_of_led l r) in
    record {
      log = h.log;
      next = ap (λ n. n + 1) h.next;
      over = h.over;
      led = refl;
      fewer = λ m i. let q = In-map f m e.leases i in subst (λ x. In x (map f d.leases)) (sym q.1.1) (In-mapped f q.0 d.leases (h.fewer q.0 q.1.0));
      still = λ m i t. let q = In-map f m d.leases i in subst (λ x. In x (map f e.leases)) (sym q.1.1) (In-mapped f q.0 e.leases (h.still q.0 q.1.0 (subst these (ap (λ (l : Lease). l.no) q.1.1) t)));
    }
over_led these by l (ends.Ended lease until now) d e h = record { log = h.log; next = h.next; over = h.over; led = refl; fewer = h.fewer; still = h.still }
over_led these by l (ends.Again why) d e h = record { log = h.log; next = h.next; over = h.over; led = refl; fewer = h.fewer; still = h.still }

led_fewer : (these : LeaseNo → Type 0) (by : Session) (end : LedEnd) (d e : Settled) → HasFewer these d e → HasFewer these (told by (Led end) d) (told by (Led end) e)
led_fewer these by end d e h = subst (λ o. HasFewer these (led_ended by d.led end d) (led_ended by o end e)) (sym h.led) (at d.led)
  where
    at : (o : Option TheLed) → HasFewer these (led_ended by o end d) (led_ended by o end e)
    at None = h
    at (Some l) = over_led these by l end d e h

pub settled_fewer : (these : LeaseNo → Type 0) (by : Session) (answers : List Answer) (d e : Settled) → HasFewer these d e → HasFewer these (settled by answers d) (settled by answers e)
settled_fewer these by [] d e h = h
settled_fewer these by (Granted grants fresh end ∷ rest) d e h = settled_fewer these by rest (told by (Granted grants fresh end) d) (told by (Granted grants fresh end) e) (more_fewer these (map (granted fresh) grants) d e h)
settled_fewer these by (Shipped count end ∷ rest) d e h = settled_fewer these by rest (told by (Shipped count end) d) (told by (Shipped count end) e) (over_fewer these (over_after end) d e (acknowledged_all by count d) (acknowledged_all by count e) h.over (all_fewer these by count d e h))
settled_fewer these by (Renewed rows end ∷ rest) d e h = settled_fewer these by rest d e h
settled_fewer these by (Released count end ∷ rest) d e h = settled_fewer these by rest d e h
settled_fewer these by (Led end ∷ rest) d e h = settled_fewer these by rest (told by (Led end) d) (told by (Led end) e) (led_fewer these by end d e h)
settled_fewer these by (Recall number ∷ rest) d e h = settled_fewer these by rest d e h

-- ## The parts

module _ (skew greatest : ℕ) (s : Sight) (by : Session) (replied : List Item) (these : LeaseNo → Type 0) (d e : Settled) (f : HasFewer these d e) (used : (x : Entry) → In x (led_before d.led d.log) → (u : Use) → In u x.uses → these u.no) where
  pub fewer_holds : SessionHolds skew greatest s by replied d → SessionHolds skew greatest s by replied e
  fewer_holds h = record {
    backed = λ l i. h.backed l (f.fewer l i);
    telling = λ l i. h.telling l (f.fewer l i);
    pending = subst (PendingStand s.rows by (value_of s.records by)) (sym f.log) h.pending;
    numbers = subst (λ n. AreNumbered 1 (all_items by s.journal e.log) n) (sym f.next) (subst (λ es. AreNumbered 1 (all_items by s.journal es) d.next) (sym f.log) h.numbers);
    replies = ap (all_items by s.journal) f.log ∙ h.replies;
  }

  held : UsesHeld d.leases d.log → UsesHeld e.leases d.log
  held h x i u j = let q : HasLease d.leases u = h x i u j in record { lease = q.lease; held = f.still q.lease q.held (subst these (sym q.number) (used x (in_before d.led d.log x i) u j)); number = q.number; field = q.field; kind = q.kind }

  led_still : (l : TheLed) → ((u : Use) → In u l.entry.uses → these u.no) → LedStands skew greatest s by d l → LedStands skew greatest s by e l
  led_still l here h = record {
    leads = h.leads;
    number = h.number ∙ sym f.next;
    empty = f.log ∙ h.empty;
    held = one_entry l.entry (λ u i. let q : HasLease d.leases u = h.held l.entry (inl refl) u i in record { lease = q.lease; held = f.still q.lease q.held (subst these (sym q.number) (here u i)); number = q.number; field = q.field; kind = q.kind });
    backed = h.backed;
    parts = h.parts;
    home = h.home;
    lives = h.lives;
    right = h.right;
  }

  pub fewer_fits : SessionFits skew greatest s by d → SessionFits skew greatest s by e
  fewer_fits h = record {
    given = λ l i. h.given l (f.fewer l i);
    distinct = λ l m i j. h.distinct l m (f.fewer l i) (f.fewer m j);
    matching = λ l i. h.matching l (f.fewer l i);
    fresh = λ l i. h.fresh l (f.fewer l i);
    lives = λ l i. h.lives l (f.fewer l i);
    held = subst (UsesHeld e.leases) (sym f.log) (held h.held);
    backed = subst (UsesBacked skew greatest s.rows) (sym f.log) h.backed;
    entries = subst AreEntries (sym f.log) h.entries;
    once = subst NamedOnce (sym f.log) h.once;
    refused = subst (λ o. RefusedGone s.rows e.log o) (sym f.over) (subst (λ es. RefusedGone s.rows es d.over) (sym f.log) h.refused);
    led = subst (LedFits skew greatest s by e) (sym f.led) (each_led skew greatest greatest s s by d e d.led (λ l is. led_still l (used l.entry (led_first d.led d.log l is))) h.led);
  }
