-- What an actor does at an event, over its core and its links alone: what its links join is heard, its core takes a step, what that
-- sends is pushed, and what is due goes out. Which messages are on their way, and what becomes of packets, is nothing that it knows.
use Rattle.std.specs.Prelude.{ℕ, ◌+◌, ◌^◌, Bool, true, false, ◌||◌, nat_le, List, [], ◌∷◌, length, Option, Some, None, if◌then◌else◌}
use Rattle.fs_ident.specs.declared.actor.Peer.{Peer}
use Rattle.fs_ident.specs.declared.actor.Peer.TheVariants.{Server}
use Rattle.fs_frag.specs.Cut.{cut_of}
use Rattle.fs_model.specs.declared.op.Op.{Op}
use Rattle.fs_msg.specs.Spelling.{message}
use Rattle.fs_msg.specs.declared.act.Act.{Act}
use Rattle.fs_msg.specs.declared.answer.Answer.{Answer}
use Rattle.fs_msg.specs.declared.client_msg.ClientMsg.{ClientMsg}
use Rattle.fs_msg.specs.declared.client_note.ClientNote.{ClientNote}
use Rattle.fs_msg.specs.declared.core_error.Counter.{Counter}
use Rattle.fs_msg.specs.declared.core_error.Counter.TheVariants.{Entries, Segments}
use Rattle.fs_msg.specs.declared.item.Item.{Item}
use Rattle.fs_msg.specs.declared.msg.Msg.{Msg}
use Rattle.fs_msg.specs.declared.msg.Msg.TheVariants as msg
use Rattle.fs_msg.specs.declared.note.Note.{Note}
use Rattle.fs_msg.specs.declared.note.Note.TheVariants as note
use Rattle.fs_client.specs.Acts.{act_plan, is_act_spent}
use Rattle.fs_client.specs.Answers.{answer_plan}
use Rattle.fs_client.specs.Client.{committed}
use Rattle.fs_client.specs.Turns.{turn_plan}
use Rattle.fs_client.specs.declared.plan.Plan.{Plan}
use Rattle.fs_client.specs.declared.state.Client.{Client}
use Rattle.fs_server.specs.Server.{Stepped as CoreStepped}
use Rattle.fs_server.specs.Step.{step, spent_by}
use Rattle.fs_server.specs.declared.event.ServerEvent.{ServerEvent}
use Rattle.fs_server.specs.declared.state.Server.{Server as Core}
use Rattle.fs_window.specs.Post.{Accepted, Links, post_accepted, post_due, post_pushed, pushed_to}
use Rattle.fs_window.specs.declared.heard.Heard.{Heard}
use Rattle.fs_window.specs.declared.packet.Packet.{Packet}
use Rattle.fs_window.specs.declared.sent.Sent.{Sent}
use Rattle.fs_actor.specs.Hearing.{answer_heard, event_heard, heard_in, unheard_note}

-- ## Counters at their ends

-- no number is left for the segments of a message to the actor
abbrev pub is_full_for : Links → Peer → List ℕ → Bool
is_full_for links to bytes = nat_le (2 ^ 64) (pushed_to links to + length (cut_of bytes))

-- a counter of the core comes before those of its links
abbrev pub first_spent : Option Counter → Bool → Option Counter
first_spent (Some counter) segments = Some counter
first_spent None true = Some Segments
first_spent None false = None

-- ## A client

-- a client and its links
pub record ClientSide : Type 0 where
  pub client : Client
  pub post : Links

-- what an event of it comes to: the note, what the client sends, what it admits at once, the packets that go out, and the counter
-- that the event would have raised above its end: then there is no such event
pub record ClientStep : Type 0 where
  pub client : Client
  pub post : Links
  pub note : Note
  pub send : Option (ℕ × ClientMsg)
  pub admitted : Option Item
  pub packets : List Sent
  pub spent : Option Counter

-- what is due goes out, and nothing else happens
abbrev pub client_goes : Bool → Option Peer → Note → ClientSide → ClientStep
client_goes turn heard n x = record {
  client = x.client;
  post = (post_due x.post turn heard).links;
  note = n;
  send = None;
  admitted = None;
  packets = (post_due x.post turn heard).sent;
  spent = None;
}

-- a message of the client goes onto its link with the server
abbrev pub post_after : Option (ℕ × ClientMsg) → Links → Links
post_after None links = links
post_after (Some m) links = post_pushed links (Server m.0) (message (msg.Client m.1))

abbrev pub is_full_up : Option (ℕ × ClientMsg) → Links → Bool
is_full_up None links = false
is_full_up (Some m) links = is_full_for links (Server m.0) (message (msg.Client m.1))

-- the client does what it planned; the plan itself may need a number after the last one
abbrev pub client_does : Bool → Option Peer → Bool → Plan Note → ClientSide → ClientStep
client_does turn heard spent p x = record {
  client = committed p.ready x.client;
  post = (post_due (post_after p.out.send x.post) turn heard).links;
  note = p.out.note;
  send = p.out.send;
  admitted = p.out.admitted;
  packets = (post_due (post_after p.out.send x.post) turn heard).sent;
  spent = first_spent (if spent then Some Entries else None) (is_full_up p.out.send x.post);
}

-- a plan, with its note among those of actors
abbrev pub act_noted : Plan Act → Plan Note
act_noted p = record { ready = p.ready; out = record { note = note.Act p.out.note; send = p.out.send; admitted = p.out.admitted } }

abbrev pub client_noted : Plan ClientNote → Plan Note
client_noted p = record { ready = p.ready; out = record { note = note.Client p.out.note; send = p.out.send; admitted = p.out.admitted } }

-- its user asks for an operation
abbrev pub client_acts : ℕ → Op → ClientSide → ClientStep
client_acts now o x = client_does false None (is_act_spent x.client now o) (act_noted (act_plan x.client now o)) x

abbrev pub client_turns : ℕ → ClientSide → ClientStep
client_turns now x = client_does true None false (client_noted (turn_plan x.client now)) x

-- what it heard in a packet of the server of number k
abbrev pub client_hears : ℕ → ℕ → Option Peer → Heard → Option Answer → ClientSide → ClientStep
client_hears now k heard h None x = client_goes false heard (unheard_note h) x
client_hears now k heard h (Some a) x = client_does false heard false (client_noted (answer_plan x.client now k a)) x

abbrev pub client_accepts : ℕ → ℕ → Option Peer → Accepted → Client → ClientStep
client_accepts now k heard a c = client_hears now k heard a.heard (answer_heard a.heard.joined) (record { client = c; post = a.links })

-- a packet of the server comes to it
abbrev pub client_told : ℕ → ℕ → Packet → ClientSide → ClientStep
client_told now k p x = client_accepts now k (heard_in (Server k) p) (post_accepted x.post (Server k) p) x.client

-- ## A server

-- a server and its links
pub record ServerSide : Type 0 where
  pub server : Core
  pub post : Links

-- what an event of it comes to, as for a client
pub record ServerStep : Type 0 where
  pub server : Core
  pub post : Links
  pub note : Note
  pub send : List (Peer × Msg)
  pub admitted : List Item
  pub packets : List Sent
  pub spent : Option Counter

-- what is due goes out, and nothing else happens
abbrev pub server_goes : Bool → Option Peer → Note → ServerSide → ServerStep
server_goes turn heard n x = record {
  server = x.server;
  post = (post_due x.post turn heard).links;
  note = n;
  send = [];
  admitted = [];
  packets = (post_due x.post turn heard).sent;
  spent = None;
}

-- messages go onto the links of their addressees
abbrev pub with_pushed : List (Peer × Msg) → Links → Links
with_pushed [] links = links
with_pushed (x ∷ xs) links = with_pushed xs (post_pushed links x.0 (message x.1))

abbrev pub is_full_down : List (Peer × Msg) → Links → Bool
is_full_down [] links = false
is_full_down (x ∷ xs) links = is_full_for links x.0 (message x.1) || is_full_down xs (post_pushed links x.0 (message x.1))

-- the server has taken a step
abbrev pub server_does : Bool → Option Peer → Option Counter → CoreStepped → ServerSide → ServerStep
server_does turn heard spent y x = record {
  server = y.server;
  post = (post_due (with_pushed y.out.send x.post) turn heard).links;
  note = note.Server y.out.note;
  send = y.out.send;
  admitted = y.out.admitted;
  packets = (post_due (with_pushed y.out.send x.post) turn heard).sent;
  spent = first_spent spent (is_full_down y.out.send x.post);
}

-- an event of the server, its turn or another
abbrev pub server_steps : Bool → Option Peer → ℕ → ServerEvent → ServerSide → ServerStep
server_steps turn heard now e x = server_does turn heard (spent_by x.server now e) (step x.server now e) x

-- what it heard in a packet
abbrev pub server_hears : ℕ → Option Peer → Heard → Option ServerEvent → ServerSide → ServerStep
server_hears now heard h None x = server_goes false heard (unheard_note h) x
server_hears now heard h (Some e) x = server_steps false heard now e x

abbrev pub server_accepts : ℕ → Peer → Option Peer → Accepted → Core → ServerStep
server_accepts now from heard a s = server_hears now heard a.heard (event_heard from a.heard.joined) (record { server = s; post = a.links })

-- a packet of the actor comes to it
abbrev pub server_told : ℕ → Peer → Packet → ServerSide → ServerStep
server_told now from p x = server_accepts now from (heard_in from p) (post_accepted x.post from p) x.server
