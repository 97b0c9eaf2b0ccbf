-- What a server refuses, why an operation that it leads is given up, and that no actor is told what no honest actor sends.
use Rattle.std.specs.Prelude.{◌≡◌, ℕ, max, Bool, true, false, ◌||◌, List, [], ◌∷◌, Option, Some, None, slice_get}
use Rattle.std.specs.FinMap.{get}
use Rattle.std.specs.List.{AllByRecursion, find}
use Rattle.fs_ident.specs.declared.actor.LeaseNo.{LeaseNo}
use Rattle.fs_ident.specs.declared.actor.Peer.{Peer}
use Rattle.fs_ident.specs.declared.actor.Peer.TheVariants as peer
use Rattle.fs_ident.specs.declared.actor.Session.{Session}
use Rattle.fs_ident.specs.declared.actor.TxnNo.{TxnNo}
use Rattle.fs_field.specs.declared.row.Row.{Row}
use Rattle.fs_field.specs.declared.used.Use.{Use}
use Rattle.fs_msg.specs.declared.client_msg.ClientMsg.TheVariants.{Ship}
use Rattle.fs_msg.specs.declared.client_note.ClientNote.TheVariants as client
use Rattle.fs_msg.specs.declared.end.End.{End}
use Rattle.fs_msg.specs.declared.entry.Entry.{Entry}
use Rattle.fs_msg.specs.declared.note.Note.{Note}
use Rattle.fs_msg.specs.declared.note.Note.TheVariants as note
use Rattle.fs_msg.specs.declared.server_note.ServerNote.TheVariants as server
use Rattle.fs_client.specs.declared.led.Led.{Led}
use Rattle.fs_schedule.specs.declared.event.Event.{Event}
use Rattle.fs_schedule.specs.declared.event.What.{What}
use Rattle.fs_schedule.specs.declared.event.What.TheVariants.{Tell}
use Rattle.fs_serial.specs.Cluster.{is_with, parcels_of}
use Rattle.fs_serial.specs.EndedLeases.{session_of_txn}
use Rattle.fs_serial.specs.Joined.{rows_of_all}
use Rattle.fs_serial.specs.Refusals.{IsFairEnd}
use Rattle.fs_serial.specs.Steps.{HadEnded}
use Rattle.fs_schedule.specs.declared.outcome.Outcome.{Outcome}
use Rattle.fs_server.specs.declared.state.Server.{Server as Core}
use Rattle.fs_window.specs.declared.sent.Sent.{Sent}
use Rattle.fs_world.specs.Packets.{first_undelivered}
use Rattle.fs_world.specs.World.{step}
use Rattle.fs_world.specs.declared.form.Form.{Form}
use Rattle.fs_world.specs.declared.form.Form.TheVariants.{Direct, Served}
use Rattle.fs_world.specs.declared.servers.session_state.SessionState.{SessionState}
use Rattle.fs_world.specs.declared.servers.world.Served.{Served as TheServed}

-- ## Refused entries

-- the packet that the event tells, if it tells one that was sent
abbrev pub packet_delivered : TheServed → What → Option Sent
packet_delivered w (Tell None) = slice_get w.packets.sent (first_undelivered w.packets.delivered)
packet_delivered w (Tell (Some k)) = slice_get w.packets.sent k
packet_delivered w what = None

-- the event tells a packet of a session to a server, and the first message on its way from the one to the other hands in these
-- entries
pub record HandsIn (w : TheServed) (what : What) : Type 0 where
  pub packet : Sent
  pub delivered : packet_delivered w what ≡ Some packet
  pub by : Session
  pub sender : packet.from ≡ peer.Client by
  pub to : ℕ
  pub addressee : packet.to ≡ peer.Server to
  pub server : Core
  pub there : slice_get w.servers to ≡ Some server
  pub state : SessionState
  pub joined : get w.sessions by.0 ≡ Some state
  pub entries : List Entry
  pub first : find (is_with to) state.up ≡ Some (to, Ship entries)

-- so a server answers a log: the event hands it in, and the answer is fair at the greater of the event's reading and the server's
-- last one, where these are all rows; the direct form has no servers
abbrev pub IsFairAnswer : Form → Event → List Row → ℕ → End → List ℕ → Type 0
IsFairAnswer (Direct w) e rows count at gaps = ⊥
IsFairAnswer (Served w) e rows count at gaps =
    (h : HandsIn w e.what) × IsFairEnd rows h.by (max h.server.last e.reading) h.entries count at gaps

-- ## Operations that are given up

-- the session had an operation led that used the lease; the lease had ended at that reading, and none of these rows, which are all,
-- has its number
pub record IsEndedLead (w : TheServed) (rows : List Row) (by : Session) (lease : LeaseNo) (end now : ℕ) : Type 0 where
  pub state : SessionState
  pub joined : get w.sessions by.0 ≡ Some state
  pub led : Led
  pub waits : state.client.led ≡ Some led
  pub used : Use
  pub no : used.no ≡ lease
  pub until : used.until ≡ end
  pub had : HadEnded rows now led.entry used

-- so an operation that was led is given up because of a lease; in the direct form none is led
abbrev pub IsFairLed : Form → List Row → Session → LeaseNo → ℕ → ℕ → Type 0
IsFairLed (Direct w) rows by lease end now = ⊥
IsFairLed (Served w) rows by lease end now = IsEndedLead w rows by lease end now

-- the session that an actor is
abbrev pub session_at : Peer → Option Session
session_at (peer.Client by) = Some by
session_at (peer.Server k) = None

-- the session that sent the packet, if one is told and a session sent it
abbrev pub sender_of : Option Sent → Option Session
sender_of None = None
sender_of (Some packet) = session_at packet.from

-- the transaction is of this session: its leader's table has it for that one before the event, or, where no server has it there, the
-- session asks for it in the event; in the direct form there are no transactions
abbrev pub IsOwnTxn : Form → What → TxnNo → Session → Type 0
IsOwnTxn (Direct w) what txn by = ⊥
IsOwnTxn (Served w) what txn by = session_of_txn w.servers (sender_of (packet_delivered w what)) txn ≡ Some by

-- ## What is noted

-- an answer to a log is one of these; where a server gives up what it led because of a lease, that is so of the transaction's own
-- session, and where a session hears of it, of this one
abbrev pub IsFair : (ℕ → End → List ℕ → Type 0) → (TxnNo → Session → Type 0) → (Session → LeaseNo → ℕ → ℕ → Type 0) → Option Peer → Note
    → Type 0
IsFair answers own ended who (note.Server (server.Admits count at gaps)) = answers count at gaps
IsFair answers own ended who (note.Server (server.AbortsEnded txn lease until now)) =
    (by : Session) × own txn by × ended by lease until now
IsFair answers own ended who (note.Client (client.LedEnded lease until now)) =
    (by : Session) × (who ≡ Some (peer.Client by)) × ended by lease until now
IsFair answers own ended who n = Unit {0}

-- all rows of the servers and of the parcels on their way; in the direct form there are no leases
abbrev pub rows_of : Form → List Row
rows_of (Direct w) = []
rows_of (Served w) = rows_of_all w.servers (parcels_of w.in_flight)

-- the notes of this outcome of the event are so, with the rows that stand after it
abbrev pub NotesFair : Form → Event → Outcome → List Row → Type 0
NotesFair w e o rows = AllByRecursion (IsFair (IsFairAnswer w e rows) (IsOwnTxn w e.what) (IsFairLed w rows) o.who) o.notes

-- those of each event are, one after another, from this world on
abbrev pub AllFair : Form → List Event → Type 0
AllFair w [] = Unit {0}
AllFair w (e ∷ es) = NotesFair w e (step w e).outcome (rows_of (step w e).world) × AllFair (step w e).world es

-- ## Strange messages

-- the core of a server or of a client was told what no honest actor sends
abbrev pub is_core_strange : Note → Bool
is_core_strange (note.Server server.Strange) = true
is_core_strange (note.Client client.Strange) = true
is_core_strange n = false

-- what came over a link is no packet, or it brought a message while none was on its way
abbrev pub is_link_strange : Note → Bool
is_link_strange note.Strange = true
is_link_strange n = false

-- either of the two
abbrev pub is_strange : Note → Bool
is_strange n = is_link_strange n || is_core_strange n

-- no note of the event is of this kind
abbrev pub HasNone : (Note → Bool) → Outcome → Type 0
HasNone kind o = AllByRecursion (λ (n : Note). kind n ≡ false) o.notes

-- nor is any of these events
abbrev pub NoneHas : (Note → Bool) → List Outcome → Type 0
NoneHas kind outcomes = AllByRecursion (HasNone kind) outcomes

-- nothing that was told was strange
abbrev pub NoneStrange : List Outcome → Type 0
NoneStrange outcomes = NoneHas is_strange outcomes
