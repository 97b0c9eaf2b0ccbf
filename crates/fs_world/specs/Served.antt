-- The world of the servers form: the servers, the sessions' clients, and the links between all of these.
use Rattle.std.specs.Prelude.{ℕ, zero, suc, Bool, true, false, List, [], ◌∷◌, ◌++◌, length, Option, Some, None, slice_get, slice_set}
use Rattle.std.specs.FinMap.{FinMap, get, insert, empty}
use Rattle.std.specs.Ordering.{nat_cmp}
use Rattle.fs_ident.specs.declared.actor.Peer.{Peer}
use Rattle.fs_ident.specs.declared.actor.Peer.TheVariants.{Server, Client}
use Rattle.fs_ident.specs.declared.actor.Session.{Session}
use Rattle.fs_window.specs.Post.{Links, no_links, post_accepted}
use Rattle.fs_window.specs.Reading.{packet_at}
use Rattle.fs_window.specs.declared.packet.Packet.{Packet}
use Rattle.fs_window.specs.declared.sent.Sent.{Sent}
use Rattle.fs_window.specs.declared.width.TheConstants.{LINK_WIDTH}
use Rattle.fs_model.specs.declared.op.Op.{Op}
use Rattle.fs_msg.specs.declared.answer.Answer.{Answer}
use Rattle.fs_msg.specs.declared.client_msg.ClientMsg.{ClientMsg}
use Rattle.fs_msg.specs.declared.core_error.Counter.{Counter}
use Rattle.fs_msg.specs.declared.item.Item.{Item}
use Rattle.fs_msg.specs.declared.msg.Msg.{Msg}
use Rattle.fs_msg.specs.declared.msg.Msg.TheVariants as msg
use Rattle.fs_msg.specs.declared.note.Note.TheVariants as note
use Rattle.fs_client.specs.Client.{first_client}
use Rattle.fs_serial.specs.Cluster.{first_servers, in_flight_from, is_between, is_with, without_first}
use Rattle.fs_serial.specs.declared.in_flight.InFlight.{InFlight}
use Rattle.fs_server.specs.declared.event.ServerEvent.{ServerEvent}
use Rattle.fs_server.specs.declared.event.ServerEvent.TheVariants.{Turn as TheTurn, Recall as TheRecall, Move as TheMove}
use Rattle.fs_server.specs.declared.state.Server.{Server as Core}
use Rattle.fs_actor.specs.Actor as actor
use Rattle.fs_actor.specs.Actor.{ClientSide, ClientStep, ServerSide, ServerStep}
use Rattle.fs_actor.specs.Several.{ClientRun, ServerRun, client_told_all, server_told_all}
use Rattle.fs_schedule.specs.declared.event.What.{What}
use Rattle.fs_schedule.specs.declared.event.What.TheVariants.{Join, Do, Tell, Turn, Recall, Move}
use Rattle.fs_schedule.specs.declared.outcome.Outcome.{Outcome}
use Rattle.fs_world.specs.Direct.{outcome_of}
use Rattle.fs_world.specs.Packets.{Packets, no_packets, with_sent, with_delivered, first_undelivered, numbers_from}
use Rattle.fs_world.specs.declared.servers.session_state.SessionState.{SessionState}
use Rattle.fs_world.specs.declared.servers.world.Served.{Served}

-- ## What stands in it

-- the sessions that have joined, by their numbers: each with its client, its links, and the messages on their way from it
-- to servers and from servers to it, each with the server's number
abbrev pub SessionStates : Type 0
SessionStates = FinMap nat_cmp SessionState

-- so many segments may be on their way on each link
abbrev pub link_width : ℕ
link_width = LINK_WIDTH

abbrev pub first_session_state : ℕ → Session → SessionState
first_session_state term s = record { client = first_client s term; post = no_links (Client s) link_width; up = []; down = [] }

-- each server has links
abbrev pub first_posts : ℕ → List Links
first_posts zero = []
first_posts (suc k) = first_posts k ++ no_links (Server k) link_width ∷ []

-- the world before its first event
abbrev pub first_served : ℕ → ℕ → ℕ → Served
first_served servers skew term = record {
  servers = first_servers servers skew term;
  posts = first_posts servers;
  term = term;
  sessions = empty;
  in_flight = [];
  journal = [];
  packets = no_packets;
}

-- the world after an event, what the event came to, and the counter that it would have raised above its end: then there
-- is no such event
pub record Stepped : Type 0 where
  pub world : Served
  pub outcome : Outcome
  pub spent : Option Counter

abbrev pub nothing : Served → Stepped
nothing w = record { world = w; outcome = outcome_of None note.Nothing; spent = None }

-- ## A client's events

-- an event of a session concerns what stands at it, the journal and the packets
pub record SessionStepped : Type 0 where
  pub state : SessionState
  pub journal : List Item
  pub packets : Packets
  pub outcome : Outcome
  pub spent : Option Counter

-- the client of the session, with its links
abbrev pub side_of : SessionState → ClientSide
side_of state = record { client = state.client; post = state.post }

-- a message of the session is on its way
abbrev pub up_after : Option (ℕ × ClientMsg) → List (ℕ × ClientMsg) → List (ℕ × ClientMsg)
up_after None up = up
up_after (Some m) up = up ++ m ∷ []

-- what a client admits at once joins the journal
abbrev pub with_read : Option Item → List Item → List Item
with_read None journal = journal
with_read (Some i) journal = journal ++ i ∷ []

-- what the client's event leaves, where these answers are still on their way to it
abbrev pub session_stepped : Session → ClientStep → List (ℕ × Answer) → SessionState → List Item → Packets → SessionStepped
session_stepped s x rest state journal packets = record {
  state = record { client = x.client; post = x.post; up = up_after x.send state.up; down = rest };
  journal = with_read x.admitted journal;
  packets = with_sent x.packets packets;
  outcome = record { who = Some (Client s); notes = x.note ∷ []; sent = numbers_from (length packets.sent) x.packets };
  spent = x.spent;
}

-- the session's user asks for an operation
abbrev pub client_acts : ℕ → Session → Op → SessionState → List Item → Packets → SessionStepped
client_acts now s o state journal packets = session_stepped s (actor.client_acts now o (side_of state)) state.down state journal packets

abbrev pub client_turns : ℕ → Session → SessionState → List Item → Packets → SessionStepped
client_turns now s state journal packets = session_stepped s (actor.client_turns now (side_of state)) state.down state journal packets

-- as many messages that pass a test, from the front, are gone as there are of these
abbrev pub without_each : {X Y : Type 0} → List Y → (X → Bool) → List X → List X
without_each [] is xs = xs
without_each (y ∷ ys) is xs = without_each ys is (without_first is xs)

-- what an event of several messages leaves, where these answers are still on their way to it
abbrev pub session_ran : Session → ClientRun → List (ℕ × Answer) → SessionState → List Item → Packets → SessionStepped
session_ran s x rest state journal packets = record {
  state = record { client = x.client; post = x.post; up = state.up ++ x.send; down = rest };
  journal = journal ++ x.admitted;
  packets = with_sent x.packets packets;
  outcome = record { who = Some (Client s); notes = x.notes; sent = numbers_from (length packets.sent) x.packets };
  spent = x.spent;
}

-- a packet of the server of number k comes to it: whatever this joins was on its way from there, and is so no more
abbrev pub client_receive_packet : ℕ → Session → ℕ → Packet → SessionState → List Item → Packets → SessionStepped
client_receive_packet now s k p state journal packets =
    session_ran s (client_told_all s now (Server k) p (side_of state))
    (without_each (post_accepted state.post (Server k) p).heard.joined (is_with k) state.down) state journal packets

-- ## Where they stand in the world

abbrev pub with_session : Session → SessionStepped → Served → Stepped
with_session s x w = record {
  world = record w { sessions = insert w.sessions s.0 x.state; journal = x.journal; packets = x.packets };
  outcome = x.outcome;
  spent = x.spent;
}

-- a session joins once
abbrev pub join_at : Option SessionState → Session → Served → Stepped
join_at None s w = record {
  world = record w { sessions = insert w.sessions s.0 (first_session_state w.term s) };
  outcome = outcome_of (Some (Client s)) note.Joined;
  spent = None;
}
join_at (Some state) s w = nothing w

-- a session that has joined does something
abbrev pub do_at : Option SessionState → ℕ → Session → Op → Served → Stepped
do_at None now s o w = nothing w
do_at (Some state) now s o w = with_session s (client_acts now s o state w.journal w.packets) w

abbrev pub turn_at : Option SessionState → ℕ → Session → Served → Stepped
turn_at None now s w = nothing w
turn_at (Some state) now s w = with_session s (client_turns now s state w.journal w.packets) w

abbrev pub client_receive_packet_at : Option SessionState → ℕ → Session → ℕ → Packet → Served → Stepped
client_receive_packet_at None now s k p w = nothing w
client_receive_packet_at (Some state) now s k p w = with_session s (client_receive_packet now s k p state w.journal w.packets) w

-- ## A server's events

-- an event of a server concerns it and its links, what is on its way, the journal and the packets
pub record ServerStepped : Type 0 where
  pub server : Core
  pub post : Links
  pub sessions : SessionStates
  pub in_flight : List InFlight
  pub journal : List Item
  pub packets : Packets
  pub outcome : Outcome
  pub spent : Option Counter

-- the server, with its links
abbrev pub core_of : ServerStepped → ServerSide
core_of x = record { server = x.server; post = x.post }

-- an answer of the server of number k is on its way to a session that has joined
abbrev pub with_down_at : Option SessionState → ℕ → ℕ × Answer → SessionStates → SessionStates
with_down_at None s m sessions = sessions
with_down_at (Some state) s m sessions = insert sessions s (record state { down = state.down ++ m ∷ [] })

abbrev pub with_down : ℕ → Peer × Msg → SessionStates → SessionStates
with_down k (Client s, msg.Answer a) sessions = with_down_at (get sessions s.0) s.0 (k, a) sessions
with_down k x sessions = sessions

-- one after another
abbrev pub with_downs : ℕ → List (Peer × Msg) → SessionStates → SessionStates
with_downs k [] sessions = sessions
with_downs k (x ∷ xs) sessions = with_downs k xs (with_down k x sessions)

-- what the server's event leaves: what it sends is on its way, and what it admits joins the journal
abbrev pub server_stepped : ℕ → ServerStep → ServerStepped → ServerStepped
server_stepped k y x = record {
  server = y.server;
  post = y.post;
  sessions = with_downs k y.send x.sessions;
  in_flight = x.in_flight ++ in_flight_from k y.send;
  journal = x.journal ++ y.admitted;
  packets = with_sent y.packets x.packets;
  outcome = record { who = Some (Server k); notes = y.note ∷ []; sent = numbers_from (length x.packets.sent) y.packets };
  spent = y.spent;
}

-- an event of the server
abbrev pub core_step : ℕ → Bool → Option Peer → ℕ → ServerEvent → ServerStepped → ServerStepped
core_step k turn heard now e x = server_stepped k (actor.server_steps turn heard now e (core_of x)) x

-- ## A packet comes to a server

-- the first message of the actor is on its way no more
abbrev pub without_up : ℕ → Option SessionState → ℕ → SessionStates → SessionStates
without_up k None s sessions = sessions
without_up k (Some state) s sessions = insert sessions s (record state { up = without_first (is_with k) state.up })

abbrev pub sessions_without : ℕ → Peer → SessionStates → SessionStates
sessions_without k (Client s) sessions = without_up k (get sessions s.0) s.0 sessions
sessions_without k (Server j) sessions = sessions

abbrev pub flying_without : ℕ → Peer → List InFlight → List InFlight
flying_without k (Client s) in_flight = in_flight
flying_without k (Server j) in_flight = without_first (is_between j k) in_flight

-- as many of the actor's messages, from the front, are on their way no more as there are of these
abbrev pub sessions_without_each : {Y : Type 0} → ℕ → Peer → List Y → SessionStates → SessionStates
sessions_without_each k from [] sessions = sessions
sessions_without_each k from (y ∷ ys) sessions = sessions_without_each k from ys (sessions_without k from sessions)

abbrev pub flying_without_each : {Y : Type 0} → ℕ → Peer → List Y → List InFlight → List InFlight
flying_without_each k from [] in_flight = in_flight
flying_without_each k from (y ∷ ys) in_flight = flying_without_each k from ys (flying_without k from in_flight)

abbrev pub without_joined : {Y : Type 0} → ℕ → Peer → List Y → ServerStepped → ServerStepped
without_joined k from ys x =
    record x { sessions = sessions_without_each k from ys x.sessions; in_flight = flying_without_each k from ys x.in_flight }

-- what an event of several messages leaves: all that the server sends is on its way, and all that it admits joins the journal
abbrev pub server_ran : ℕ → ServerRun → ServerStepped → ServerStepped
server_ran k y x = record {
  server = y.server;
  post = y.post;
  sessions = with_downs k y.send x.sessions;
  in_flight = x.in_flight ++ in_flight_from k y.send;
  journal = x.journal ++ y.admitted;
  packets = with_sent y.packets x.packets;
  outcome = record { who = Some (Server k); notes = y.notes; sent = numbers_from (length x.packets.sent) y.packets };
  spent = y.spent;
}

-- a packet of the actor comes to it: whatever this joins was on its way from there, and is so no more
abbrev pub server_receive_packet : ℕ → ℕ → Peer → Packet → ServerStepped → ServerStepped
server_receive_packet now k from p x =
    server_ran k (server_told_all now from p (core_of x)) (without_joined k from (post_accepted x.post from p).heard.joined x)

-- ## Where servers stand in the world

-- what an event of a server finds
abbrev pub server_found : Core → Links → SessionStates → List InFlight → List Item → Packets → ServerStepped
server_found s post sessions in_flight journal packets = record {
  server = s;
  post = post;
  sessions = sessions;
  in_flight = in_flight;
  journal = journal;
  packets = packets;
  outcome = outcome_of None note.Nothing;
  spent = None;
}

abbrev pub at_server : Core → Links → Served → ServerStepped
at_server s post w = server_found s post w.sessions w.in_flight w.journal w.packets

abbrev pub with_server : ℕ → ServerStepped → Served → Stepped
with_server k x w = record {
  world = record w {
    servers = slice_set w.servers k x.server;
    posts = slice_set w.posts k x.post;
    sessions = x.sessions;
    in_flight = x.in_flight;
    journal = x.journal;
    packets = x.packets;
  };
  outcome = x.outcome;
  spent = x.spent;
}

-- a server that there is takes a step
abbrev pub server_step_at : Option Core → Option Links → ℕ → Bool → ℕ → ServerEvent → Served → Stepped
server_step_at (Some s) (Some post) k turn now e w = with_server k (core_step k turn None now e (at_server s post w)) w
server_step_at s post k turn now e w = nothing w

abbrev pub server_step : ℕ → Bool → ℕ → ServerEvent → Served → Stepped
server_step k turn now e w = server_step_at (slice_get w.servers k) (slice_get w.posts k) k turn now e w

abbrev pub server_receive_packet_at : Option Core → Option Links → ℕ → ℕ → Peer → Packet → Served → Stepped
server_receive_packet_at (Some s) (Some post) now k from p w = with_server k (server_receive_packet now k from p (at_server s post w)) w
server_receive_packet_at s post now k from p w = nothing w

-- ## A packet is told

-- from one actor to another: no client sends to another
abbrev pub comes : ℕ → Peer → Peer → Packet → Served → Stepped
comes now from (Server k) p w = server_receive_packet_at (slice_get w.servers k) (slice_get w.posts k) now k from p w
comes now (Server k) (Client s) p w = client_receive_packet_at (get w.sessions s.0) now s k p w
comes now (Client t) (Client s) p w = nothing w

abbrev pub arrives : ℕ → Peer → Peer → Option Packet → Served → Stepped
arrives now from to None w = record { world = w; outcome = outcome_of (Some to) note.Strange; spent = None }
arrives now from to (Some p) w = comes now from to p w

-- the packet counts as told at the end
abbrev pub marked : ℕ → Stepped → Stepped
marked k x = record x { world = record x.world { packets = with_delivered k x.world.packets } }

-- the packet of that number, if it was sent
abbrev pub tell_at : Option Sent → ℕ → ℕ → Served → Stepped
tell_at None now k w = nothing w
tell_at (Some x) now k w = marked k (arrives now x.from x.to (packet_at x.bytes) w)

abbrev pub tell : ℕ → ℕ → Served → Stepped
tell now k w = tell_at (slice_get w.packets.sent k) now k w

-- ## One event

abbrev pub step_of : Served → ℕ → What → Stepped
step_of w now (Join s) = join_at (get w.sessions s.0) s w
step_of w now (Do s o) = do_at (get w.sessions s.0) now s o w
step_of w now (Tell None) = tell now (first_undelivered w.packets.delivered) w
step_of w now (Tell (Some k)) = tell now k w
step_of w now (Turn (Client s)) = turn_at (get w.sessions s.0) now s w
step_of w now (Turn (Server k)) = server_step k true now TheTurn w
step_of w now (Recall k field) = server_step k false now (TheRecall field) w
step_of w now (Move k prefix to) = server_step k false now (TheMove prefix to) w
