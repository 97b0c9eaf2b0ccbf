-- A client: what every event begins with, and what an event can change.
use Rattle.std.specs.Prelude.{◌≡◌, ℕ, zero, suc, ◌+◌, ◌≤◌, max, nat_lt, nat_le, Bool, true, not, ◌&&◌, List, [], ◌∷◌, ◌++◌, Option, Some, None, is_some, if◌then◌else◌}
use Rattle.std.specs.List.{list_any}
use Rattle.fs_ident.specs.Ident.{same}
use Rattle.fs_ident.specs.declared.actor.LeaseNo.{LeaseNo}
use Rattle.fs_ident.specs.declared.actor.Session.{Session}
use Rattle.fs_ident.specs.declared.limits.TheConstants.{LATEST}
use Rattle.fs_field.specs.declared.effect.Effect.{Effect}
use Rattle.fs_map.specs.Map.{Owners, first_map}
use Rattle.fs_msg.specs.declared.entry.Entry.{Entry}
use Rattle.fs_msg.specs.declared.limits.TheConstants.{LONGEST}
use Rattle.fs_view.specs.declared.new_lease.NewLease.{NewLease}
use Rattle.fs_view.specs.ViewLease.{is_leaving}
use Rattle.fs_view.specs.View.{View, lapsed_at, with_pins, with_entry, with_grants, with_end, with_leaving, without_lease, given_up, with_admitted, with_first_admitted, without_pins, with_recall, can_pin_all, can_grant_all, stands}
use Rattle.fs_client.specs.declared.change.Change.{Change}
use Rattle.fs_client.specs.declared.change.Change.TheVariants as change
use Rattle.fs_client.specs.declared.exchange.Exchange.{Exchange}
use Rattle.fs_client.specs.declared.exchange.Exchange.TheVariants as exchange
use Rattle.fs_client.specs.declared.led.Led.{Led}
use Rattle.fs_client.specs.declared.plan.Ready.{Ready}
use Rattle.fs_client.specs.declared.state.Client.{Client}
use Rattle.fs_client.specs.Led.{without_led_pins}

-- a client that has no lease and has answered nothing; it takes everything to be at the first server
abbrev pub first_client : Session → ℕ → Client
first_client s term = record {
  session = s;
  term = term;
  last = 0;
  view = record { session = s; leases = []; pending = [] };
  log = [];
  exchange = None;
  led = None;
  hints = first_map;
  full = [];
  next = 1;
  over = None;
}

-- the reading of the event is the greatest so far, and the leases that no entry uses and that are over at it go
abbrev pub begun : ℕ → Client → Client
begun now c = record c { last = max c.last now; view = lapsed_at (max c.last now) c.view }

-- ## Changes, without a test

-- a read that is admitted at once uses up its number alone
abbrev pub with_read : Client → Client
with_read c = record c { next = c.next + 1 }

-- one entry more: its leases are pinned, and its number is used up
abbrev pub with_reply : Entry → List Effect → Client → Client
with_reply e effects c = record c { view = with_pins e.uses (with_entry effects c.view); log = c.log ++ e ∷ []; next = c.next + 1 }

abbrev pub with_exchange : Exchange → Client → Client
with_exchange x c = record c { exchange = Some x }

-- each of these leases goes back
abbrev pub leaving_all : List LeaseNo → View → View
leaving_all [] v = v
leaving_all (n ∷ ns) v = leaving_all ns (with_leaving n v)

abbrev pub with_release : ℕ → List LeaseNo → Client → Client
with_release to numbers c = record c { exchange = Some (exchange.Releases to numbers); view = leaving_all numbers c.view }

-- a directory that has no number left is remembered once
abbrev pub full_after : Option (List ℕ) → List (List ℕ) → List (List ℕ)
full_after None full = full
full_after (Some dir) full = if list_any (λ d. same d dir) full then full else full ++ dir ∷ []

abbrev pub with_granted : List NewLease → Option (List ℕ) → Client → Client
with_granted leases dir c = record c { view = with_grants leases c.view; full = full_after dir c.full; exchange = None }

-- a lease has another end, or its row is gone: then it is given up, unless entries use it
abbrev pub renewed_one : LeaseNo → Option ℕ → View → View
renewed_one number (Some until) v = with_end number until v
renewed_one number None v = given_up number v

abbrev pub renewed_all : List (LeaseNo × Option ℕ) → View → View
renewed_all [] v = v
renewed_all (r ∷ rs) v = renewed_all rs (renewed_one r.0 r.1 v)

abbrev pub with_renewed : List (LeaseNo × Option ℕ) → Client → Client
with_renewed ends c = record c { view = renewed_all ends c.view; exchange = None }

-- a lease that goes back is given up, and any other stays
abbrev pub released_one : LeaseNo → View → View
released_one number v = if stands is_leaving number v.leases then without_lease number v else v

abbrev pub released_all : List LeaseNo → View → View
released_all [] v = v
released_all (n ∷ ns) v = released_all ns (released_one n v)

abbrev pub with_released : List LeaseNo → Client → Client
with_released numbers c = record c { view = released_all numbers c.view; exchange = None }

-- the first entry is known to be admitted: its effects join the values, its leases are unpinned, and it leaves the log
abbrev pub admitted_one : Client → List Entry → Client
admitted_one c [] = c
admitted_one c (e ∷ es) = record c { view = without_pins e.uses (with_first_admitted c.view); log = es }

abbrev pub admitted_all : ℕ → Client → Client
admitted_all zero c = c
admitted_all (suc k) c = admitted_all k (admitted_one c c.log)

abbrev pub with_shipped : ℕ → Option ℕ → Client → Client
with_shipped count over c = record (admitted_all count c) { over = over; exchange = None }

-- its server is asked to lead the operation: the leases that it uses are pinned
abbrev pub with_lead : ℕ → Led → Client → Client
with_lead to led c = record c { view = with_pins led.entry.uses c.view; exchange = Some (exchange.Leads to); led = Some led }

-- what was led is admitted: its effects join the values, and its number is used up
abbrev pub with_led_done : List Effect → Client → Client
with_led_done effects c =
    record c { view = without_led_pins c.led (with_admitted effects c.view); exchange = None; led = None; next = c.next + 1 }

-- what was led is not admitted, and its number is free
abbrev pub with_led_freed : Client → Client
with_led_freed c = record c { view = without_led_pins c.led c.view; exchange = None; led = None }

abbrev pub with_recalled : LeaseNo → Client → Client
with_recalled number c = record c { view = with_recall number c.view }

abbrev pub changed : Change → Client → Client
changed change.Nothing c = c
changed change.Read c = with_read c
changed (change.Reply entry effects) c = with_reply entry effects c
changed (change.Ask x) c = with_exchange x c
changed (change.Leave to numbers) c = with_release to numbers c
changed (change.Grant leases full) c = with_granted leases full c
changed (change.Renew ends) c = with_renewed ends c
changed (change.Release numbers) c = with_released numbers c
changed (change.Admit count over) c = with_shipped count over c
changed (change.Lead to led) c = with_lead to led c
changed (change.LedDone effects) c = with_led_done effects c
changed change.LedFreed c = with_led_freed c
changed (change.Recall number) c = with_recalled number c

-- ## Plans

-- what a server said of who manages what
abbrev pub with_hints : Option Owners → Client → Client
with_hints None c = c
with_hints (Some hints) c = record c { hints = hints }

-- the client after an event that changes this
abbrev pub committed : Ready → Client → Client
committed r c = with_hints r.hints (changed r.change (begun r.now c))

-- a number is left for the operation
abbrev pub has_number_left : Client → Bool
has_number_left c = nat_lt c.next 0xffff_ffff_ffff_ffff

-- and no operation that is led may need it
abbrev pub may_use_number : Client → Bool
may_use_number c = has_number_left c && not (is_some c.led)

-- the counters that the change raises can rise, and the leases that come are new
abbrev pub can_change : Change → Client → Bool
can_change change.Read c = may_use_number c
can_change (change.Reply entry effects) c = may_use_number c && can_pin_all entry.uses c.view.leases
can_change (change.Grant leases full) c = can_grant_all leases c.view.leases
can_change (change.Lead to led) c = has_number_left c && can_pin_all led.entry.uses c.view.leases
can_change (change.LedDone effects) c = has_number_left c
can_change ch c = true

abbrev pub can_commit : Ready → Client → Bool
can_commit r c = nat_le r.now LATEST && can_change r.change (begun r.now c)

-- ## What every client is

-- its term and its readings are in their ranges, and a number is left for what is led
pub record IsClient (c : Client) : Type 0 where
  pub term : c.term ≤ LONGEST
  pub last : c.last ≤ LATEST
  pub led : is_some c.led ≡ true → has_number_left c ≡ true
