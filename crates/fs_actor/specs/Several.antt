-- What an actor does with all that a packet joined, where links are wide enough for several messages: it hears one after another, its
-- core takes a step for each, and then what is due goes out, once.
use Rattle.std.specs.Prelude.{ℕ, false, List, [], ◌∷◌, ◌++◌, Option, Some, None}
use Rattle.fs_ident.specs.declared.actor.Peer.{Peer}
use Rattle.fs_ident.specs.declared.actor.Session.{Session}
use Rattle.fs_frag.specs.declared.joined.Joined.{Joined}
use Rattle.fs_msg.specs.declared.answer.Answer.{Answer}
use Rattle.fs_msg.specs.declared.client_msg.ClientMsg.{ClientMsg}
use Rattle.fs_msg.specs.declared.core_error.Counter.{Counter}
use Rattle.fs_msg.specs.declared.item.Item.{Item}
use Rattle.fs_msg.specs.declared.msg.Msg.{Msg}
use Rattle.fs_msg.specs.declared.note.Note.{Note}
use Rattle.fs_msg.specs.declared.note.Note.TheVariants as note
use Rattle.fs_client.specs.Answers.{answer_plan}
use Rattle.fs_client.specs.Client.{committed}
use Rattle.fs_client.specs.declared.plan.Plan.{Plan}
use Rattle.fs_client.specs.declared.state.Client.{Client}
use Rattle.fs_server.specs.Server.{Stepped as CoreStepped}
use Rattle.fs_server.specs.Step.{spent_by, step}
use Rattle.fs_server.specs.declared.event.ServerEvent.{ServerEvent}
use Rattle.fs_server.specs.declared.state.Server.{Server as Core}
use Rattle.fs_window.specs.Post.{Accepted, Links, post_accepted, post_due}
use Rattle.fs_window.specs.declared.heard.Heard.{Heard}
use Rattle.fs_window.specs.declared.packet.Packet.{Packet}
use Rattle.fs_window.specs.declared.sent.Sent.{Sent}
use Rattle.fs_actor.specs.Actor.{ClientSide, ServerSide, client_noted, first_spent, is_full_down, is_full_up, post_after, with_pushed}
use Rattle.fs_actor.specs.Finished.{finished}
use Rattle.fs_actor.specs.Hearing.{answer_from, event_of, heard_in, message_in, quiet_note}
use Rattle.fs_actor.specs.Listed.{listed}

-- the first counter that was to pass its end, if one was
abbrev pub first_of : Option Counter → Option Counter → Option Counter
first_of (Some counter) later = Some counter
first_of None later = later

-- where nothing was joined that is noted
abbrev pub unjoined_notes : List Joined → Heard → List Note
unjoined_notes [] h = quiet_note h ∷ []
unjoined_notes (j ∷ js) h = []

-- ## A client

-- what an event of several messages comes to so far: the notes, what the client sends, what it admits at once, and what it finishes,
-- each in order
pub record ClientRun : Type 0 where
  pub client : Client
  pub post : Links
  pub notes : List Note
  pub send : List (ℕ × ClientMsg)
  pub admitted : List Item
  pub finished : List Item
  pub packets : List Sent
  pub spent : Option Counter

abbrev pub client_begins : Client → Links → List Note → ClientRun
client_begins c post notes = record {
  client = c;
  post = post;
  notes = notes;
  send = [];
  admitted = [];
  finished = [];
  packets = [];
  spent = None;
}

-- it does what it planned for one of them
abbrev pub client_with : Session → Plan Note → ClientRun → ClientRun
client_with s p x = record {
  client = committed p.ready x.client;
  post = post_after p.out.send x.post;
  notes = x.notes ++ p.out.note ∷ [];
  send = x.send ++ listed p.out.send;
  admitted = x.admitted ++ listed p.out.admitted;
  finished = x.finished ++ finished s x.client p.out.admitted p.out.note;
  packets = x.packets;
  spent = first_of x.spent (first_spent None (is_full_up p.out.send x.post));
}

-- what was joined is an answer of a server, or strange
abbrev pub client_hears_one : Session → ℕ → Option (ℕ × Answer) → ClientRun → ClientRun
client_hears_one s now None x = record x { notes = x.notes ++ note.Strange ∷ [] }
client_hears_one s now (Some a) x = client_with s (client_noted (answer_plan x.client now a.0 a.1)) x

-- one after another; of another client all that is joined is strange
abbrev pub client_hears_each : Session → ℕ → Peer → List Joined → ClientRun → ClientRun
client_hears_each s now from [] x = x
client_hears_each s now from (j ∷ js) x = client_hears_each s now from js (client_hears_one s now (answer_from from (message_in j)) x)

-- then what is due goes out
abbrev pub client_replies : Option Peer → ClientRun → ClientRun
client_replies heard x = record x { post = (post_due x.post false heard).links; packets = (post_due x.post false heard).sent }

abbrev pub client_takes_all : Session → ℕ → Peer → Option Peer → Accepted → Client → ClientRun
client_takes_all s now from heard a c =
    client_replies heard (client_hears_each s now from a.heard.joined (client_begins c a.links (unjoined_notes a.heard.joined a.heard)))

-- a packet of the actor comes to the client of the session
abbrev pub client_told_all : Session → ℕ → Peer → Packet → ClientSide → ClientRun
client_told_all s now from p x = client_takes_all s now from (heard_in from p) (post_accepted x.post from p) x.client

-- ## A server

pub record ServerRun : Type 0 where
  pub server : Core
  pub post : Links
  pub notes : List Note
  pub send : List (Peer × Msg)
  pub admitted : List Item
  pub packets : List Sent
  pub spent : Option Counter

abbrev pub server_begins : Core → Links → List Note → ServerRun
server_begins s post notes = record { server = s; post = post; notes = notes; send = []; admitted = []; packets = []; spent = None }

-- it has taken a step for one of them, which may have needed a number after the last one
abbrev pub server_with : Option Counter → CoreStepped → ServerRun → ServerRun
server_with spent y x = record {
  server = y.server;
  post = with_pushed y.out.send x.post;
  notes = x.notes ++ note.Server y.out.note ∷ [];
  send = x.send ++ y.out.send;
  admitted = x.admitted ++ y.out.admitted;
  packets = x.packets;
  spent = first_of x.spent (first_spent spent (is_full_down y.out.send x.post));
}

-- what was joined is a message of the actor, or strange
abbrev pub server_hears_one : ℕ → Option ServerEvent → ServerRun → ServerRun
server_hears_one now None x = record x { notes = x.notes ++ note.Strange ∷ [] }
server_hears_one now (Some e) x = server_with (spent_by x.server now e) (step x.server now e) x

-- one after another
abbrev pub server_hears_each : ℕ → Peer → List Joined → ServerRun → ServerRun
server_hears_each now from [] x = x
server_hears_each now from (j ∷ js) x = server_hears_each now from js (server_hears_one now (event_of from (message_in j)) x)

-- then what is due goes out
abbrev pub server_replies : Option Peer → ServerRun → ServerRun
server_replies heard x = record x { post = (post_due x.post false heard).links; packets = (post_due x.post false heard).sent }

abbrev pub server_takes_all : ℕ → Peer → Option Peer → Accepted → Core → ServerRun
server_takes_all now from heard a s =
    server_replies heard (server_hears_each now from a.heard.joined (server_begins s a.links (unjoined_notes a.heard.joined a.heard)))

-- a packet of the actor comes to it
abbrev pub server_told_all : ℕ → Peer → Packet → ServerSide → ServerRun
server_told_all now from p x = server_takes_all now from (heard_in from p) (post_accepted x.post from p) x.server
