-- Whatever the clocks show, everything is at its place after every event.
use Rattle.std.proofs.Common.{ℕ, ◌≤◌, max, List, [], ◌∷◌}
use Rattle.fs_ident.specs.declared.actor.Session.{Session}
use Rattle.fs_msg.specs.declared.item.Item.{Item}
use Rattle.fs_schedule.specs.declared.event.Event.{Event}
use Rattle.fs_schedule.specs.declared.event.Head.{Head}
use Rattle.fs_schedule.specs.declared.event.Head.TheVariants as head
use Rattle.fs_schedule.specs.declared.event.Schedule.{Schedule}
use Rattle.fs_schedule.specs.Spelling.{FitsHead}
use Rattle.fs_serial.specs.Cluster.{Cluster}
use Rattle.fs_serial.specs.Runs.{IsOrderly}
use Rattle.fs_serial.proofs.WholeRuns.AnyReadings.{HoldsAnyhow, anyhow_later, anyhow_orderly, client_anyhow, first_anyhow, server_anyhow}
use Rattle.fs_serial.proofs.WholeRuns.AnyReadings.{told_as}
use Rattle.fs_serial.proofs.WholeRuns.ClusterClients.{places_later}
use Rattle.fs_world.specs.Carried.{AllCarry}
use Rattle.fs_world.specs.Order.{Tale, after, first_tale}
use Rattle.fs_world.specs.Parts.{IsOrderlyWorld, seen}
use Rattle.fs_world.specs.Served.{step_of}
use Rattle.fs_world.specs.World.{AllMayHappen, Run, first_run, first_world, more, run_of, run_on, step}
use Rattle.fs_world.specs.declared.form.Form.{Form}
use Rattle.fs_world.specs.declared.form.Form.TheVariants.{Direct, Served}
use Rattle.fs_world.specs.declared.servers.world.Served.{Served as TheServed}
use Rattle.fs_world.proofs.FirstServed.{first_holds}
use Rattle.fs_world.proofs.SerialLaws.{EventLaws, all_asks, all_clock, all_exchanges, all_leaders, all_owned}
use Rattle.fs_world.proofs.ServedHolds.{cluster_of}
use Rattle.fs_world.proofs.ServedSteps.{step_holds}
use Rattle.fs_world.proofs.SessionSteps.{HoldsOf, parts_of}

-- each event comes in time
abbrev anyhow_laws : EventLaws
anyhow_laws = record {
  Holds = HoldsAnyhow;
  Within = λ skew greatest now. Unit {0};
  again = λ skew greatest now within. tt;
  event = λ skew greatest now k e s c at clock within there h. server_anyhow skew greatest now k e s c at clock there h;
  rises = anyhow_later;
  client = λ skew greatest now c by h e can within. client_anyhow skew greatest now c by h e can;
  first = first_anyhow;
  clock = λ skew greatest s c i h. all_clock skew greatest s (told_as h.journal h.replied c) i h.whole.holds;
  asks = λ skew greatest s c by entries i there h.
      all_asks skew greatest s (told_as h.journal h.replied c) by entries i there h.whole.holds;
  owned = λ skew greatest s c x i h. all_owned skew greatest s (told_as h.journal h.replied c) x i h.whole.holds;
  exchanges = λ skew greatest s c x i h. let q = all_exchanges skew greatest s (told_as h.journal h.replied c) x i h.whole.holds in
      record { one = q.one; leads = q.leads; addressed = q.addressed };
  leaders = λ skew greatest k s c at h. all_leaders skew greatest k s (told_as h.journal h.replied c) at h.whole.holds;
  led = λ skew greatest c h. let l = h.whole.holds.led in record {
    parts = l.parts;
    stages = l.stages;
    leading = l.leading;
    ending = l.ending;
    ready = l.ready;
    locks = l.locks;
    files = l.files;
    few = l.few;
    told = l.told;
  };
}

-- while these events are to come
record GoesAnyhow (servers skew term : ℕ) (es : List Event) (w : TheServed) : Type 0 where
  greatest : ℕ
  tale : Tale
  some : 1 ≤ servers
  holds : HoldsOf anyhow_laws servers skew greatest tale w
  called : AllMayHappen (head.Servers servers skew term) es
  carry : AllCarry (Served w) es

abbrev Goes : Head → List Event → Form → Type 0
Goes head.Direct es (Direct w) = Unit {0}
Goes (head.Servers servers skew term) es (Served w) = GoesAnyhow servers skew term es w
Goes h es w = ⊥

goes_on : (h : Head) (e : Event) (es : List Event) (w : Form) → Goes h (e ∷ es) w → Goes h es (step w e).world
goes_on head.Direct e es (Direct w) g = tt
goes_on (head.Servers servers skew term) e es (Served w) g = record {
  greatest = max g.greatest e.reading;
  tale = after e.what (step_of w e.reading e.what).outcome g.tale;
  some = g.some;
  holds = step_holds anyhow_laws servers skew g.greatest g.tale w g.holds e.reading tt g.some g.carry.0 term e.what g.called.0;
  called = g.called.1;
  carry = g.carry.1;
}
goes_on head.Direct e es (Served w) g = absurd g
goes_on (head.Servers servers skew term) e es (Direct w) g = absurd g

goes_all : (h : Head) (es : List Event) (r : Run) → Goes h es r.world → Goes h [] (run_on r es).world
goes_all h [] r g = g
goes_all h (e ∷ es) r g = goes_all h es (more r e) (goes_on h e es r.world g)

goes_first : (h : Head) (es : List Event) → FitsHead h → AllMayHappen h es → AllCarry (first_world h) es → Goes h es (first_world h)
goes_first head.Direct es fits called carry = tt
goes_first (head.Servers servers skew term) es fits called carry = record {
  greatest = 0;
  tale = first_tale;
  some = fits.0;
  holds =
      first_holds anyhow_laws servers skew term fits.0;
  called = called;
  carry = carry;
}

-- what sessions were told is of no matter
untold : (replied : Session → List Item) (w : TheServed) → IsOrderly (cluster_of replied (parts_of w)) → IsOrderly (seen (λ x. []) w)
untold replied w h =
    let c : Cluster = cluster_of replied (parts_of w) in
    record { places = places_later c c.journal (λ x. []) c.lines (λ id m. m) h.places; apart = h.apart; sound = h.sound }

orderly : (h : Head) (w : Form) → Goes h [] w → IsOrderlyWorld w
orderly head.Direct (Direct w) g = tt
orderly (head.Servers servers skew term) (Served w) g =
    let all : HoldsAnyhow skew g.greatest (cluster_of g.holds.replied (parts_of w)) = g.holds.cluster in
    untold g.holds.replied w (anyhow_orderly skew g.greatest (cluster_of g.holds.replied (parts_of w)) all)
orderly head.Direct (Served w) g = absurd g
orderly (head.Servers servers skew term) (Direct w) g = absurd g

pub run_orderly : (s : Schedule) → FitsHead s.head → AllMayHappen s.head s.events → AllCarry (first_world s.head) s.events
    → IsOrderlyWorld (run_of s).world
run_orderly s fits may carry =
    orderly s.head (run_of s).world (goes_all s.head s.events (first_run s.head) (goes_first s.head s.events fits may carry))
