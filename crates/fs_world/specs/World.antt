-- The world of a schedule, whatever its form: its events, one after another.
use Rattle.std.specs.Prelude.{◌≡◌, ℕ, ◌+◌, ◌<◌, ◌≤◌, ◌&&◌, Bool, true, nat_lt, List, [], ◌∷◌, ◌++◌, length, Option, Some, None}
use Rattle.std.specs.Prelude.{if◌then◌else◌}
use Rattle.std.specs.List.{AllByRecursion}
use Rattle.fs_ident.specs.declared.limits.TheConstants.{SESSIONS}
use Rattle.fs_model.specs.Asking.{may_ask}
use Rattle.fs_model.specs.Namespace.{NodeMap}
use Rattle.fs_msg.specs.declared.core_error.Counter.{Counter}
use Rattle.fs_msg.specs.declared.core_error.Counter.TheVariants.{Entries}
use Rattle.fs_msg.specs.declared.item.Item.{Item}
use Rattle.fs_record.specs.Records.{nodes_of}
use Rattle.fs_schedule.specs.declared.event.Event.{Event}
use Rattle.fs_schedule.specs.declared.event.Head.{Head}
use Rattle.fs_schedule.specs.declared.event.Head.TheVariants as head
use Rattle.fs_schedule.specs.declared.event.Schedule.{Schedule}
use Rattle.fs_schedule.specs.declared.event.What.{What}
use Rattle.fs_schedule.specs.declared.event.What.TheVariants.{Do, Join, Move, Recall, Turn}
use Rattle.fs_schedule.specs.declared.limits.TheConstants.{PACKETS}
use Rattle.fs_schedule.specs.declared.outcome.Outcome.{Outcome}
use Rattle.fs_ident.specs.declared.actor.Peer.TheVariants.{Server}
use Rattle.fs_serial.specs.Cluster.{parcels_of}
use Rattle.fs_serial.specs.Joined.{effects_on_way, records_of_all}
use Rattle.fs_serial.specs.World.{is_called}
use Rattle.fs_txn.specs.Decided.{held_with}
use Rattle.fs_window.specs.declared.sent.Sent.{Sent}
use Rattle.fs_world.specs.Direct as direct
use Rattle.fs_world.specs.Direct.{first_direct}
use Rattle.fs_world.specs.Served as served
use Rattle.fs_world.specs.Served.{first_served}
use Rattle.fs_world.specs.declared.form.Form.{Form}
use Rattle.fs_world.specs.declared.form.Form.TheVariants.{Direct, Served}

-- a world of the form before its first event
abbrev pub first_world : Head → Form
first_world head.Direct = Direct first_direct
first_world (head.Servers servers skew term) = Served (first_served servers skew term)

-- ## What stands in it

abbrev pub journal_of : Form → List Item
journal_of (Direct w) = w.journal
journal_of (Served w) = w.journal

-- the packets that were sent, in order
abbrev pub packets_of : Form → List Sent
packets_of (Direct w) = []
packets_of (Served w) = w.packets.sent

-- the namespace that the servers hold together, with what is decided and not applied yet
abbrev pub space_of : Form → NodeMap
space_of (Direct w) = w.space
space_of (Served w) = nodes_of (held_with (effects_on_way w.in_flight) (records_of_all w.servers (parcels_of w.in_flight)))

-- ## One event

-- the world after an event, what the event came to, and the counter that it would have raised above its end: then there
-- is no such event
pub record Stepped : Type 0 where
  pub world : Form
  pub outcome : Outcome
  pub spent : Option Counter

-- in the direct form no reading counts
abbrev pub step : Form → Event → Stepped
step (Direct w) e = record {
  world = Direct (direct.step_of w e.what).world;
  outcome = (direct.step_of w e.what).outcome;
  spent = (if direct.is_spent w e.what then Some Entries else None);
}
step (Served w) e = record {
  world = Served (served.step_of w e.reading e.what).world;
  outcome = (served.step_of w e.reading e.what).outcome;
  spent = (served.step_of w e.reading e.what).spent;
}

-- ## All events

-- a world, and the outcomes of its events so far
pub record Run : Type 0 where
  pub world : Form
  pub outcomes : List Outcome

-- the run goes on with an event
abbrev pub more : Run → Event → Run
more r e = record { world = (step r.world e).world; outcomes = r.outcomes ++ (step r.world e).outcome ∷ [] }

-- the run goes on with the events, in order
abbrev pub run_on : Run → List Event → Run
run_on r [] = r
run_on r (e ∷ es) = run_on (more r e) es

abbrev pub first_run : Head → Run
first_run h = record { world = first_world h; outcomes = [] }

-- the whole run of a schedule
abbrev pub run_of : Schedule → Run
run_of s = run_on (first_run s.head) s.events

-- ## Where a run is broken off

pub data Stop : Type 0 where
  -- an event needs a number after the last one of this counter
  AtCounter : Counter → Stop
  -- up to the event of this line more packets were sent than may be
  AtPackets : ℕ → Stop

-- the event of the line has led to this world
abbrev pub stop_after : ℕ → List Sent → Option Stop → Option Stop
stop_after line packets later = if nat_lt PACKETS (length packets) then Some (AtPackets line) else later

abbrev pub stop_at : Option Counter → Option Stop → Option Stop
stop_at (Some counter) later = Some (AtCounter counter)
stop_at None later = later

-- where a run is broken off, if it is, whose next event stands at the line
abbrev pub stop_in : Form → ℕ → List Event → Option Stop
stop_in w line [] = None
stop_in w line (e ∷ es) = stop_at (step w e).spent (stop_after line (packets_of (step w e).world) (stop_in (step w e).world (line + 1) es))

-- the first event stands at line 2
abbrev pub stop_of : Schedule → Option Stop
stop_of s = stop_in (first_world s.head) 2 s.events

-- ## What callers may ask

-- an event of the form: callers ask for what may be asked, and an event is one of servers that there are
abbrev pub may_happen : Head → What → Bool
may_happen head.Direct (Do s o) = may_ask o
may_happen (head.Servers servers skew term) (Do s o) = is_called o
may_happen (head.Servers servers skew term) (Turn (Server k)) = nat_lt k servers
may_happen (head.Servers servers skew term) (Recall k field) = nat_lt k servers
may_happen (head.Servers servers skew term) (Move k prefix to) = nat_lt k servers && nat_lt to servers
may_happen h w = true

-- what callers may ask of clients, and which sessions there are; so many servers are there
abbrev pub FitsServed : ℕ → What → Type 0
FitsServed servers (Join s) = (1 ≤ s.0) × (s.0 ≤ SESSIONS)
FitsServed servers (Do s o) = is_called o ≡ true
FitsServed servers (Turn (Server k)) = k < servers
FitsServed servers (Recall k field) = k < servers
FitsServed servers (Move k prefix to) = (k < servers) × (to < servers)
FitsServed servers what = Unit {0}

-- the event may happen to the world
abbrev pub FitsWorld : Form → What → Type 0
FitsWorld (Direct w) what = Unit {0}
FitsWorld (Served w) what = FitsServed (length w.servers) what

-- each operation of the events is one that a caller may ask for
abbrev pub AllMayHappen : Head → List Event → Type 0
AllMayHappen h events = AllByRecursion (λ (e : Event). may_happen h e.what ≡ true) events
