-- A client after the answers that are due to it.
use Rattle.std.proofs.Common.{◌≡◌, ℕ, zero, suc, ◌+◌, ◌≤◌, Bool, true, false, List, [], ◌∷◌, ◌++◌, length, map, refl, sym, ap, ◌∙◌, subst, ◌⊎◌, inl, inr, cond, arith}
use Rattle.std.specs.Prelude.{Option, Some, None}
use Rattle.std.specs.List.{list_any}
use Rattle.fs_ident.specs.In.{In}
use Rattle.fs_ident.specs.declared.actor.Session.{Session}
use Rattle.fs_ident.proofs.Booleans.{neither}
use Rattle.fs_ident.proofs.Standing.{In-front, In-mapped}
use Rattle.fs_field.specs.Field.{file_of}
use Rattle.fs_msg.specs.declared.answer.Answer.{Answer}
use Rattle.fs_msg.specs.declared.answer.Answer.TheVariants.{Granted, Renewed, Released, Shipped, Recall, Led}
use Rattle.fs_msg.specs.declared.entry.Entry.{Entry}
use Rattle.fs_view.specs.ViewLease.{makes, is_pending}
use Rattle.fs_view.specs.View.{value_after_log}
use Rattle.fs_record.specs.declared.led_end.LedEnd.{LedEnd}
use Rattle.fs_record.specs.declared.led_end.LedEnd.TheVariants as ends
use Rattle.fs_client.specs.Answers.{over_after}
use Rattle.fs_client.specs.Led.{effects_of_led}
use Rattle.fs_client.specs.declared.led.Led.{Led as TheLed}
use Rattle.fs_serial.specs.Client.{led_before}
use Rattle.fs_serial.specs.Exchange.{admitted_in}
use Rattle.fs_serial.specs.Settled.{HasLeaseAs, Lease, Settled, acknowledged, acknowledged_all, lease_after, effects_in, granted, led_ended, led_over, with_leases, with_over, told, settled}
use Rattle.fs_serial.proofs.LedOperations.LedKept.{in_before}
use Rattle.fs_serial.proofs.Replies.Reply.{with_last, value_seen}

-- ## One entry more

all_last : (by : Session) (k : ℕ) (e : Entry) (d : Settled) → k ≤ length d.log → acknowledged_all by k (with_last e d) ≡ with_last e (acknowledged_all by k d)
all_last by zero e d h = refl
all_last by (suc k) e d h = within d.log h (λ c. all_last by k e c)
  where
    within : (es : List Entry) → suc k ≤ length es → ((c : Settled) → k ≤ length c.log → acknowledged_all by k (with_last e c) ≡ with_last e (acknowledged_all by k c)) → acknowledged_all by k (acknowledged by (es ++ e ∷ []) (with_last e d)) ≡ with_last e (acknowledged_all by k (acknowledged by es d))
    within [] le rec = absurd (omega arith)
    within (x ∷ es) le rec = rec (acknowledged by (x ∷ es) d) (omega arith)

left_all : (by : Session) (k : ℕ) (d : Settled) → k ≤ length d.log → length (acknowledged_all by k d).log + k ≡ length d.log
left_all by zero d h = omega arith
left_all by (suc k) d h = within d.log refl h (λ c. left_all by k c)
  where
    within : (es : List Entry) → d.log ≡ es → suc k ≤ length es → ((c : Settled) → k ≤ length c.log → length (acknowledged_all by k c).log + k ≡ length c.log) → length (acknowledged_all by k (acknowledged by es d)).log + suc k ≡ length d.log
    within [] t le rec = absurd (omega arith)
    within (x ∷ es) t le rec = let q = rec (acknowledged by (x ∷ es) d) (omega arith) in let p = ap length t in omega arith

-- ## Where nothing is led

-- no end of it counts
pub none_ends : (by : Session) (end : LedEnd) (d : Settled) → d.led ≡ None → told by (Led end) d ≡ d
none_ends by end d n = ap (λ o. led_ended by o end d) n

pub led_all : (by : Session) (k : ℕ) (d : Settled) → (acknowledged_all by k d).led ≡ d.led
led_all by zero d = refl
led_all by (suc k) d = led_all by k (acknowledged by d.log d) ∙ within d.log
  where
    within : (es : List Entry) → (acknowledged by es d).led ≡ d.led
    within [] = refl
    within (x ∷ es) = refl

-- nothing comes to be led
pub settled_unled : (by : Session) (answers : List Answer) (d : Settled) → d.led ≡ None → (settled by answers d).led ≡ None
settled_unled by [] d n = n
settled_unled by (Granted grants fresh end ∷ rest) d n = settled_unled by rest (told by (Granted grants fresh end) d) n
settled_unled by (Shipped count end ∷ rest) d n = settled_unled by rest (told by (Shipped count end) d) (led_all by count d ∙ n)
settled_unled by (Renewed rows end ∷ rest) d n = settled_unled by rest d n
settled_unled by (Released count end ∷ rest) d n = settled_unled by rest d n
settled_unled by (Led end ∷ rest) d n = settled_unled by rest (told by (Led end) d) (ap (λ (x : Settled). x.led) (none_ends by end d n) ∙ n)
settled_unled by (Recall number ∷ rest) d n = settled_unled by rest d n

-- what was answered joins the log whatever is on its way, as long as no more is acknowledged than there is
pub settled_last : (by : Session) (answers : List Answer) (e : Entry) (d : Settled) → d.led ≡ None → admitted_in answers ≤ length d.log → settled by answers (with_last e d) ≡ with_last e (settled by answers d)
settled_last by [] e d n h = refl
settled_last by (Granted grants fresh end ∷ rest) e d n h = settled_last by rest e (told by (Granted grants fresh end) d) n h
settled_last by (Shipped count end ∷ rest) e d n h =
    ap (λ x. settled by rest (with_over (over_after end d.over) x)) (all_last by count e d (omega arith))
    ∙ settled_last by rest e (told by (Shipped count end) d) (led_all by count d ∙ n) (let q = left_all by count d (omega arith) in omega arith)
settled_last by (Renewed rows end ∷ rest) e d n h = settled_last by rest e d n h
settled_last by (Released count end ∷ rest) e d n h = settled_last by rest e d n h
settled_last by (Led end ∷ rest) e d n h =
    ap (settled by rest) (none_ends by end (with_last e d) n) ∙ settled_last by rest e d n h ∙ ap (λ x. with_last e (settled by rest x)) (sym (none_ends by end d n))
settled_last by (Recall number ∷ rest) e d n h = settled_last by rest e d n h

next_all : (by : Session) (k : ℕ) (d : Settled) → (acknowledged_all by k d).next ≡ d.next
next_all by zero d = refl
next_all by (suc k) d = next_all by k (acknowledged by d.log d) ∙ within d.log
  where
    within : (es : List Entry) → (acknowledged by es d).next ≡ d.next
    within [] = refl
    within (x ∷ es) = refl

-- the next number is the client's own
pub settled_next : (by : Session) (answers : List Answer) (d : Settled) → d.led ≡ None → (settled by answers d).next ≡ d.next
settled_next by [] d n = refl
settled_next by (Granted grants fresh end ∷ rest) d n = settled_next by rest (told by (Granted grants fresh end) d) n
settled_next by (Shipped count end ∷ rest) d n = settled_next by rest (told by (Shipped count end) d) (led_all by count d ∙ n) ∙ next_all by count d
settled_next by (Renewed rows end ∷ rest) d n = settled_next by rest d n
settled_next by (Released count end ∷ rest) d n = settled_next by rest d n
settled_next by (Led end ∷ rest) d n = ap (λ (x : Settled). (settled by rest x).next) (none_ends by end d n) ∙ settled_next by rest d n
settled_next by (Recall number ∷ rest) d n = settled_next by rest d n

-- ## A lease later

-- the log makes the file
abbrev pub is_made_by_log : Session → List ℕ → List Entry → Bool
is_made_by_log by id log = is_pending id (map (effects_in by) log)

-- the lease as it will be: the same, but for its base value, and known by it is the same
pub record Later (by : Session) (d later : Settled) (l : Lease) : Type 0 where
  pub lease : Lease
  pub held : In lease later.leases
  pub number : lease.no ≡ l.no
  pub field : lease.field ≡ l.field
  pub kind : lease.kind ≡ l.kind
  pub until : lease.until ≡ l.until
  pub seen : value_seen by later lease ≡ value_seen by d l
  -- what no entry makes stays reserved, and unmade
  pub below : is_made_by_log by (file_of l.field) d.log ≡ false → lease.below ≡ l.below
  pub unmade : is_made_by_log by (file_of l.field) d.log ≡ false → is_made_by_log by (file_of l.field) later.log ≡ false

as_it_is : (by : Session) (d : Settled) (l : Lease) → In l d.leases → Later by d d l
as_it_is by d l i = record { lease = l; held = i; number = refl; field = refl; kind = refl; until = refl; seen = refl; below = λ h. refl; unmade = λ h. h }

-- one step, and then more
later_then : (by : Session) (d e f : Settled) (l : Lease) (p : Later by d e l) → Later by e f p.lease → Later by d f l
later_then by d e f l p q = record {
  lease = q.lease;
  held = q.held;
  number = q.number ∙ p.number;
  field = q.field ∙ p.field;
  kind = q.kind ∙ p.kind;
  until = q.until ∙ p.until;
  seen = q.seen ∙ p.seen;
  below = λ h. q.below (ap (λ g. is_made_by_log by (file_of g) e.log) p.field ∙ p.unmade h) ∙ p.below h;
  unmade = λ h. ap (λ g. is_made_by_log by (file_of g) f.log) (sym p.field) ∙ q.unmade (ap (λ g. is_made_by_log by (file_of g) e.log) p.field ∙ p.unmade h);
}

kept_below : (b : Bool) (below : Option (List ℕ)) → b ≡ false → cond b None below ≡ below
kept_below true below h = absurd (cc)
kept_below false below h = refl

after_one : (by : Session) (es : List Entry) (d : Settled) (l : Lease) → d.log ≡ es → In l d.leases → Later by d (acknowledged by es d) l
after_one by [] d l t i = as_it_is by d l i
after_one by (e ∷ es) d l t i = record {
  lease = lease_after by (effects_in by e) l;
  held = In-mapped (lease_after by (effects_in by e)) l d.leases i;
  number = refl;
  field = refl;
  kind = refl;
  until = refl;
  seen = ap (λ log. value_after_log by l.field l.base (map (effects_in by) log)) (sym t);
  below = λ h. kept_below _ l.below (neither (list_any (makes (file_of l.field)) (effects_in by e)) (is_made_by_log by (file_of l.field) es) (ap (is_made_by_log by (file_of l.field)) (sym t) ∙ h)).0;
  unmade = λ h. (neither (list_any (makes (file_of l.field)) (effects_in by e)) (is_made_by_log by (file_of l.field) es) (ap (is_made_by_log by (file_of l.field)) (sym t) ∙ h)).1;
}

after_all : (by : Session) (k : ℕ) (d : Settled) (l : Lease) → In l d.leases → Later by d (acknowledged_all by k d) l
after_all by zero d l i = as_it_is by d l i
after_all by (suc k) d l i =
    let p = after_one by d.log d l refl i in
    later_then by d (acknowledged by d.log d) (acknowledged_all by k (acknowledged by d.log d)) l p (after_all by k (acknowledged by d.log d) p.lease p.held)

over_same : (by : Session) (d later : Settled) (over : Option ℕ) (l : Lease) → Later by d later l → Later by d (with_over over later) l
over_same by d later over l p = record { lease = p.lease; held = p.held; number = p.number; field = p.field; kind = p.kind; until = p.until; seen = p.seen; below = p.below; unmade = p.unmade }

more_same : (by : Session) (more : List Lease) (d : Settled) (l : Lease) → In l d.leases → Later by d (with_leases more d) l
more_same by more d l i = record { lease = l; held = In-front l d.leases more i; number = refl; field = refl; kind = refl; until = refl; seen = refl; below = λ h. refl; unmade = λ h. h }

pub later : (by : Session) (answers : List Answer) (d : Settled) (l : Lease) → d.led ≡ None → In l d.leases → Later by d (settled by answers d) l
later by [] d l n i = as_it_is by d l i
later by (Granted grants fresh end ∷ rest) d l n i =
    let p = more_same by (map (granted fresh) grants) d l i in
    later_then by d (told by (Granted grants fresh end) d) (settled by rest (told by (Granted grants fresh end) d)) l p (later by rest (told by (Granted grants fresh end) d) p.lease n p.held)
later by (Shipped count end ∷ rest) d l n i =
    let p = over_same by d (acknowledged_all by count d) (over_after end d.over) l (after_all by count d l i) in
    later_then by d (told by (Shipped count end) d) (settled by rest (told by (Shipped count end) d)) l p (later by rest (told by (Shipped count end) d) p.lease (led_all by count d ∙ n) p.held)
later by (Renewed rows end ∷ rest) d l n i = later by rest d l n i
later by (Released count end ∷ rest) d l n i = later by rest d l n i
later by (Led end ∷ rest) d l n i = subst (λ x. Later by d (settled by rest x) l) (sym (none_ends by end d n)) (later by rest d l n i)
later by (Recall number ∷ rest) d l n i = later by rest d l n i

-- ## What is led later

over_kept : (by : Session) (l : TheLed) (end : LedEnd) (d : Settled) → (led_over by l end d).led ≡ None
over_kept by l (ends.Done r) d = refl
over_kept by l (ends.Ended lease until now) d = refl
over_kept by l (ends.Again why) d = refl

ends_kept : (by : Session) (end : LedEnd) (led : Option TheLed) (d : Settled) → ((led_ended by led end d).led ≡ None) ⊎ ((led_ended by led end d).led ≡ d.led)
ends_kept by end None d = inr refl
ends_kept by end (Some l) d = inl (over_kept by l end d)

-- nothing is led, or what was
led_kept : (by : Session) (answers : List Answer) (d : Settled) → ((settled by answers d).led ≡ None) ⊎ ((settled by answers d).led ≡ d.led)
led_kept by [] d = inr refl
led_kept by (Granted grants fresh end ∷ rest) d = led_kept by rest (told by (Granted grants fresh end) d)
led_kept by (Shipped count end ∷ rest) d = elim (led_kept by rest (told by (Shipped count end) d)) as (λ _. ((settled by rest (told by (Shipped count end) d)).led ≡ None) ⊎ ((settled by rest (told by (Shipped count end) d)).led ≡ d.led)) [
  | inl n ↦ inl n
  | inr same ↦ inr (same ∙ led_all by count d)
]
led_kept by (Renewed rows end ∷ rest) d = led_kept by rest d
led_kept by (Released count end ∷ rest) d = led_kept by rest d
led_kept by (Led end ∷ rest) d = elim (ends_kept by end d.led d) as (λ _. ((settled by rest (told by (Led end) d)).led ≡ None) ⊎ ((settled by rest (told by (Led end) d)).led ≡ d.led)) [
  | inl n ↦ inl (settled_unled by rest (told by (Led end) d) n)
  | inr was ↦ elim (led_kept by rest (told by (Led end) d)) as (λ _. ((settled by rest (told by (Led end) d)).led ≡ None) ⊎ ((settled by rest (told by (Led end) d)).led ≡ d.led)) [
    | inl n ↦ inl n
    | inr same ↦ inr (same ∙ was)
  ]
]
led_kept by (Recall number ∷ rest) d = led_kept by rest d

-- ## A lease later, whatever is led

-- its image has its number, field, kind and end
held_as : (leases : List Lease) (l m : Lease) → m.no ≡ l.no → m.field ≡ l.field → m.kind ≡ l.kind → m.until ≡ l.until → HasLeaseAs leases m.no m.field m.kind m.until → HasLeaseAs leases l.no l.field l.kind l.until
held_as leases l m n f k u h = record { lease = h.lease; held = h.held; number = h.number ∙ n; field = h.field ∙ f; kind = h.kind ∙ k; until = h.until ∙ u }

held_over : (by : Session) (l : TheLed) (end : LedEnd) (d : Settled) (m : Lease) → In m d.leases → HasLeaseAs (led_over by l end d).leases m.no m.field m.kind m.until
held_over by l (ends.Done r) d m i = let f = lease_after by (effects_of_led l r) in record { lease = f m; held = In-mapped f m d.leases i; number = refl; field = refl; kind = refl; until = refl }
held_over by l (ends.Ended lease until now) d m i = record { lease = m; held = i; number = refl; field = refl; kind = refl; until = refl }
held_over by l (ends.Again why) d m i = record { lease = m; held = i; number = refl; field = refl; kind = refl; until = refl }

held_ends : (by : Session) (end : LedEnd) (led : Option TheLed) (d : Settled) (m : Lease) → In m d.leases → HasLeaseAs (led_ended by led end d).leases m.no m.field m.kind m.until
held_ends by end None d m i = record { lease = m; held = i; number = refl; field = refl; kind = refl; until = refl }
held_ends by end (Some l) d m i = held_over by l end d m i

-- one that it has stays, whatever comes
pub stays : (by : Session) (answers : List Answer) (d : Settled) (l : Lease) → In l d.leases → HasLeaseAs (settled by answers d).leases l.no l.field l.kind l.until
stays by [] d l i = record { lease = l; held = i; number = refl; field = refl; kind = refl; until = refl }
stays by (Granted grants fresh end ∷ rest) d l i = stays by rest (told by (Granted grants fresh end) d) l (In-front l d.leases (map (granted fresh) grants) i)
stays by (Shipped count end ∷ rest) d l i =
    let p = after_all by count d l i in
    held_as (settled by rest (told by (Shipped count end) d)).leases l p.lease p.number p.field p.kind p.until (stays by rest (told by (Shipped count end) d) p.lease p.held)
stays by (Renewed rows end ∷ rest) d l i = stays by rest d l i
stays by (Released count end ∷ rest) d l i = stays by rest d l i
stays by (Led end ∷ rest) d l i =
    let p = held_ends by end d.led d l i in
    held_as (settled by rest (told by (Led end) d)).leases l p.lease p.number p.field p.kind p.until (stays by rest (told by (Led end) d) p.lease p.held)
stays by (Recall number ∷ rest) d l i = stays by rest d l i

-- ## Entries later

log_all : (by : Session) (k : ℕ) (d : Settled) (e : Entry) → In e (acknowledged_all by k d).log → In e d.log
log_all by zero d e i = i
log_all by (suc k) d e i = within d.log refl (log_all by k (acknowledged by d.log d) e i)
  where
    within : (es : List Entry) → d.log ≡ es → In e (acknowledged by es d).log → In e d.log
    within [] t j = j
    within (x ∷ es) t j = subst (In e) (sym t) (inr j)

-- what is led is no part of the log
log_over : (by : Session) (l : TheLed) (end : LedEnd) (d : Settled) → (led_over by l end d).log ≡ d.log
log_over by l (ends.Done r) d = refl
log_over by l (ends.Ended lease until now) d = refl
log_over by l (ends.Again why) d = refl

log_ends : (by : Session) (end : LedEnd) (led : Option TheLed) (d : Settled) → (led_ended by led end d).log ≡ d.log
log_ends by end None d = refl
log_ends by end (Some l) d = log_over by l end d

-- the log only gets shorter
pub settled_log : (by : Session) (answers : List Answer) (d : Settled) (e : Entry) → In e (settled by answers d).log → In e d.log
settled_log by [] d e i = i
settled_log by (Granted grants fresh end ∷ rest) d e i = settled_log by rest (told by (Granted grants fresh end) d) e i
settled_log by (Shipped count end ∷ rest) d e i = log_all by count d e (settled_log by rest (told by (Shipped count end) d) e i)
settled_log by (Renewed rows end ∷ rest) d e i = settled_log by rest d e i
settled_log by (Released count end ∷ rest) d e i = settled_log by rest d e i
settled_log by (Led end ∷ rest) d e i = subst (In e) (log_ends by end d.led d) (settled_log by rest (told by (Led end) d) e i)
settled_log by (Recall number ∷ rest) d e i = settled_log by rest d e i

-- and so what is led with it
before_log : (led : Option TheLed) (front back : List Entry) (e : Entry) → ((x : Entry) → In x back → In x front) → In e (led_before led back) → In e (led_before led front)
before_log None front back e f i = f e i
before_log (Some l) front back e f (inl same) = inl same
before_log (Some l) front back e f (inr i) = inr (f e i)

pub settled_before : (by : Session) (answers : List Answer) (d : Settled) (e : Entry) → In e (led_before (settled by answers d).led (settled by answers d).log) → In e (led_before d.led d.log)
settled_before by answers d e i = elim (led_kept by answers d) as (λ _. In e (led_before d.led d.log)) [
  | inl n ↦ in_before d.led d.log e (settled_log by answers d e (subst (λ o. In e (led_before o (settled by answers d).log)) n i))
  | inr same ↦ before_log d.led d.log (settled by answers d).log e (λ x j. settled_log by answers d x j) (subst (λ o. In e (led_before o (settled by answers d).log)) same i)
]
