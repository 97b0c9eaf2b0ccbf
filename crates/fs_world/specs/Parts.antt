-- A world of the servers form as the laws of servers and clients see it.
use Rattle.std.specs.Prelude.{ℕ, max, List, [], ◌∷◌, Option, Some, None}
use Rattle.std.specs.FinMap.{get}
use Rattle.fs_ident.specs.declared.actor.Session.{Session}
use Rattle.fs_msg.specs.declared.item.Item.{Item}
use Rattle.fs_schedule.specs.declared.event.Event.{Event}
use Rattle.fs_schedule.specs.declared.event.Head.{Head}
use Rattle.fs_schedule.specs.declared.event.Head.TheVariants as head
use Rattle.fs_serial.specs.Cluster.{Cluster, Lines, first_lines}
use Rattle.fs_serial.specs.Numbers.{all_items}
use Rattle.fs_serial.specs.Owed.{ends_with}
use Rattle.fs_serial.specs.Runs.{IsOrderly}
use Rattle.fs_serial.specs.Whole.{ClusterStands}
use Rattle.fs_serial.specs.World.{Ends, settled_at}
use Rattle.fs_world.specs.Coming.{IsTold}
use Rattle.fs_world.specs.Order.{ReplyGiven, replies_given, told_to}
use Rattle.fs_world.specs.Served.{SessionStates}
use Rattle.fs_world.specs.World.{Run}
use Rattle.fs_world.specs.declared.form.Form.{Form}
use Rattle.fs_world.specs.declared.form.Form.TheVariants as form
use Rattle.fs_world.specs.declared.servers.session_state.SessionState.{SessionState}
use Rattle.fs_world.specs.declared.servers.world.Served.{Served}

-- the client, and what is on its way; a session that has not joined is as it will join
abbrev pub lines_in : ℕ → Session → Option SessionState → Lines
lines_in term x None = first_lines term x
lines_in term x (Some state) = record { client = state.client; up = state.up; down = state.down }

abbrev pub lines_of : ℕ → SessionStates → Session → Lines
lines_of term sessions x = lines_in term x (get sessions x.0)

-- what each session was told is kept beside
abbrev pub seen : (Session → List Item) → Served → Cluster
seen replied w =
    record { servers = w.servers; in_flight = w.in_flight; journal = w.journal; replied = replied; lines = lines_of w.term w.sessions }

-- the session as one server that has all would see it
abbrev pub ends_at : Served → Session → Ends
ends_at w x = ends_with x w.servers (lines_of w.term w.sessions x)

-- what each session was told, as the journal and its client have it: its items, and then its log as that will be
abbrev pub replied_in : Served → Session → List Item
replied_in w x = all_items x w.journal (settled_at x (ends_at w x)).log

-- where no reading was greater and this was told: all parts of the invariant hold, and those items are what the notes told each session,
-- and what is on its way to it or owed
pub record ServedHold (skew greatest : ℕ) (told : List ReplyGiven) (w : Served) : Type 0 where
  pub parts : ClusterStands skew greatest (seen (replied_in w) w)
  pub replies : (x : Session) → IsTold x (ends_at w x) (replied_in w x) (told_to x told)

-- the direct form has no parts
abbrev pub PartsHold : Head → ℕ → List ReplyGiven → Form → Type 0
PartsHold head.Direct greatest told (form.Direct w) = Unit {0}
PartsHold (head.Servers servers skew term) greatest told (form.Served w) = ServedHold skew greatest told w
PartsHold h greatest told w = ⊥

-- the greatest reading of these events, if it is greater than that one
abbrev pub greatest_of : ℕ → List Event → ℕ
greatest_of greatest [] = greatest
greatest_of greatest (e ∷ es) = greatest_of (max greatest e.reading) es

-- after the run of these events
abbrev pub AllPartsHold : Head → List Event → Run → Type 0
AllPartsHold h events r = PartsHold h (greatest_of 0 events) (replies_given events r.outcomes) r.world

-- everything is at its place, no two rows conflict, and the namespace that the servers hold together is sound; the direct form has no
-- places
abbrev pub IsOrderlyWorld : Form → Type 0
IsOrderlyWorld (form.Direct w) = Unit {0}
IsOrderlyWorld (form.Served w) = IsOrderly (seen (λ x. []) w)
