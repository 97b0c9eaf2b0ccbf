-- A client as it will be once the answer that is due to it is told.
use Rattle.std.specs.Prelude.{◌≡◌, ℕ, zero, suc, ◌+◌, List, [], ◌∷◌, ◌++◌, map, Option, Some, None, option_map, if◌then◌else◌}
use Rattle.std.specs.List.{filter_map, list_any}
use Rattle.fs_ident.specs.In.{In}
use Rattle.fs_ident.specs.declared.actor.LeaseNo.{LeaseNo}
use Rattle.fs_ident.specs.declared.actor.Session.{Session}
use Rattle.fs_field.specs.declared.effect.Effect.{Effect}
use Rattle.fs_field.specs.declared.field.Field.{Field}
use Rattle.fs_field.specs.declared.lease_kind.LeaseKind.{LeaseKind}
use Rattle.fs_field.specs.declared.value.Value.{Value}
use Rattle.fs_field.specs.Field.{file_of}
use Rattle.fs_lease.specs.Lease.{Lease as Term}
use Rattle.fs_record.specs.Effects.{effects_of}
use Rattle.fs_record.specs.declared.led_end.LedEnd.{LedEnd}
use Rattle.fs_record.specs.declared.led_end.LedEnd.TheVariants as end
use Rattle.fs_msg.specs.declared.answer.Answer.{Answer}
use Rattle.fs_msg.specs.declared.answer.Answer.TheVariants as answer
use Rattle.fs_msg.specs.declared.answer.Grant.{Grant}
use Rattle.fs_msg.specs.declared.entry.Entry.{Entry}
use Rattle.fs_view.specs.declared.view_lease.ViewLease.{ViewLease}
use Rattle.fs_view.specs.ViewLease.{lease_of, makes}
use Rattle.fs_view.specs.View.{value_after_all}
use Rattle.fs_client.specs.Answers.{below_of, over_after}
use Rattle.fs_client.specs.Led.{effects_of_led}
use Rattle.fs_client.specs.declared.led.Led.{Led}
use Rattle.fs_client.specs.declared.state.Client.{Client}

-- a lease that does not go back: its value is as of the last operation that is known to be admitted
pub record Lease : Type 0 where
  pub no : LeaseNo
  pub field : Field
  pub kind : LeaseKind
  pub until : ℕ
  pub base : Value
  -- the directory for which the file's identifier was given, until that file is known to be made
  pub below : Option (List ℕ)

-- what counts of a client: the leases that do not go back, the log, the number of the next operation, a refused one, and what a
-- server leads for it
pub record Settled : Type 0 where
  pub leases : List Lease
  pub log : List Entry
  pub next : ℕ
  pub over : Option ℕ
  pub led : Option Led

-- ## A client as it is

abbrev pub lease_with : ViewLease → Term → Lease
lease_with k l = record { no = l.no; field = l.field; kind = l.kind; until = l.until; base = k.base; below = k.below }

abbrev pub lease_in : ViewLease → Option Lease
lease_in k = option_map (lease_with k) (lease_of k.standing)

abbrev pub settled_now : Client → Settled
settled_now c = record { leases = filter_map lease_in c.view.leases; log = c.log; next = c.next; over = c.over; led = c.led }

-- ## What an answer does

-- an identifier is no longer for a new file once that is made
abbrev pub below_after : List Effect → Field → Option (List ℕ) → Option (List ℕ)
below_after effects field below = if list_any (makes (file_of field)) effects then None else below

-- the effects are known to be admitted
abbrev pub lease_after : Session → List Effect → Lease → Lease
lease_after by effects l = record l { base = value_after_all by l.field l.base effects; below = below_after effects l.field l.below }

abbrev pub effects_in : Session → Entry → List Effect
effects_in by e = effects_of by e.op e.reply

-- the first entry is known to be admitted
abbrev pub acknowledged : Session → List Entry → Settled → Settled
acknowledged by [] d = d
acknowledged by (e ∷ es) d = record d { leases = map (lease_after by (effects_in by e)) d.leases; log = es }

-- so many are
abbrev pub acknowledged_all : Session → ℕ → Settled → Settled
acknowledged_all by zero d = d
acknowledged_all by (suc k) d = acknowledged_all by k (acknowledged by d.log d)

abbrev pub granted : Option (List ℕ) → Grant → Lease
granted fresh g = record { no = g.no; field = g.field; kind = g.kind; until = g.until; base = g.value; below = below_of fresh g }

abbrev pub with_leases : List Lease → Settled → Settled
with_leases ls d = record d { leases = d.leases ++ ls }

abbrev pub with_over : Option ℕ → Settled → Settled
with_over over d = record d { over = over }

-- what was led is known to be admitted with these effects, and its number is taken
abbrev pub led_done : Session → List Effect → Settled → Settled
led_done by effects d = record d { leases = map (lease_after by effects) d.leases; next = d.next + 1; led = None }

-- nothing is led any more
abbrev pub led_freed : Settled → Settled
led_freed d = record d { led = None }

abbrev pub led_over : Session → Led → LedEnd → Settled → Settled
led_over by l (end.Done r) d = led_done by (effects_of_led l r) d
led_over by l (end.Ended lease until now) d = led_freed d
led_over by l (end.Again why) d = led_freed d

abbrev pub led_ended : Session → Option Led → LedEnd → Settled → Settled
led_ended by None e d = d
led_ended by (Some l) e d = led_over by l e d

-- grants, admissions and the end of what is led count, and nothing else
abbrev pub told : Session → Answer → Settled → Settled
told by (answer.Granted grants fresh e) d = with_leases (map (granted fresh) grants) d
told by (answer.Shipped count e) d = with_over (over_after e d.over) (acknowledged_all by count d)
told by (answer.Led e) d = led_ended by d.led e d
told by a d = d

-- one answer after another
abbrev pub settled : Session → List Answer → Settled → Settled
settled by [] d = d
settled by (a ∷ rest) d = settled by rest (told by a d)

-- ## What it has

-- a lease with this number, on this field, of this kind, that ends then
pub record HasLeaseAs (leases : List Lease) (wanted : LeaseNo) (on : Field) (of : LeaseKind) (end : ℕ) : Type 0 where
  pub lease : Lease
  pub held : In lease leases
  pub number : lease.no ≡ wanted
  pub field : lease.field ≡ on
  pub kind : lease.kind ≡ of
  pub until : lease.until ≡ end
