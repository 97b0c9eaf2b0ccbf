-- What a call of an event finds in all that it is lent, what it leaves there, and for which counter it gives up.
use Rattle.std.specs.Prelude.{◌≡◌, ◌⊎◌, ◌∷◌, [], ◌++◌, ℕ, Bool, false, List, length, Option, Some, None, Result, IsErrOf}
use Rattle.fs_actor.specs.Actor as actor
use Rattle.fs_actor.specs.Actor.{client_noted}
use Rattle.fs_actor.specs.Several.{ClientRun, ServerRun, client_takes_all, server_takes_all}
use Rattle.fs_client.specs.Answers.{answer_plan}
use Rattle.fs_client.specs.declared.plan.Plan.{Plan as Planned}
use Rattle.fs_client.specs.declared.state.Client.{Client as ClientCore}
use Rattle.fs_ident.specs.declared.actor.Peer.{Peer}
use Rattle.fs_ident.specs.declared.actor.Peer.TheVariants.{Client as TheClient, Server as TheServer}
use Rattle.fs_ident.specs.declared.actor.Session.{Session}
use Rattle.fs_msg.specs.declared.answer.Answer.{Answer}
use Rattle.fs_msg.specs.declared.core_error.CoreError.{CoreError}
use Rattle.fs_msg.specs.declared.core_error.CoreError.TheVariants as errors
use Rattle.fs_msg.specs.declared.core_error.Counter.{Counter}
use Rattle.fs_msg.specs.declared.item.Item.{Item}
use Rattle.fs_msg.specs.declared.note.Note.{Note}
use Rattle.fs_msg.specs.declared.note.Note.TheVariants as note
use Rattle.fs_schedule.specs.declared.outcome.Outcome.{Outcome}
use Rattle.fs_serial.specs.Cluster.{in_flight_from, is_with}
use Rattle.fs_serial.specs.declared.in_flight.InFlight.{InFlight}
use Rattle.fs_server.specs.Plan.{committed}
use Rattle.fs_server.specs.Server.{Stepped as CoreStepped}
use Rattle.fs_server.specs.declared.event.ServerEvent.{ServerEvent}
use Rattle.fs_server.specs.declared.plan.Plan.{Plan}
use Rattle.fs_server.specs.declared.state.Server.{Server}
use Rattle.fs_window.specs.Post.{Links, post_due}
use Rattle.fs_window.specs.declared.heard.Heard.{Heard}
use Rattle.fs_world.specs.Direct.{outcome_of}
use Rattle.fs_world.specs.Packets.{Packets, numbers_from, with_sent}
use Rattle.fs_world.specs.Served.{SessionStepped, SessionStates, ServerStepped, Stepped, core_of, flying_without, nothing, session_ran}
use Rattle.fs_world.specs.Served.{session_stepped, sessions_without, server_found, server_ran, server_stepped, side_of, with_downs}
use Rattle.fs_world.specs.Served.{without_each, without_joined}
use Rattle.fs_world.specs.declared.servers.session_state.SessionState.{SessionState}
use Rattle.fs_world.specs.declared.servers.world.Served.{Served}

-- what an event of a session finds, and what one leaves that came to this
abbrev pub session_found : SessionState → List Item → Packets → SessionStepped
session_found state journal packets = record {
  state = state;
  journal = journal;
  packets = packets;
  outcome = outcome_of None note.Nothing;
  spent = None;
}

abbrev pub session_left : Outcome → SessionState → List Item → Packets → SessionStepped
session_left outcome state journal packets = record (session_found state journal packets) { outcome = outcome }

-- what an event of a server leaves that came to this
abbrev pub server_left : Outcome → Server → Links → SessionStates → List InFlight → List Item → Packets → ServerStepped
server_left outcome s post sessions in_flight journal packets =
    record (server_found s post sessions in_flight journal packets) { outcome = outcome }

-- the world that an event leaves that came to this
abbrev pub world_left : Outcome → Served → Stepped
world_left outcome w = record (nothing w) { outcome = outcome }

-- the counter that an event would raise above its end is the one for which the call gives up, where memory is not wanting
pub record Spends {T : Type 0} (result : Result T CoreError) (spent : Option Counter) : Type 0 where
  pub given_up : (counter : Counter) → IsErrOf result (errors.Spent counter) → spent ≡ Some counter
  pub only : (counter : Counter) → spent ≡ Some counter → IsErrOf result (errors.Spent counter) ⊎ IsErrOf result errors.Memory

-- ## Parts of events

-- nothing happens at the session but that what is due goes out
abbrev pub state_goes : Session → Bool → Option Peer → Note → SessionState → List Item → Packets → SessionStepped
state_goes s turn heard n state journal packets =
    session_stepped s (actor.client_goes turn heard n (side_of state)) state.down state journal packets

-- its client does what it planned
abbrev pub client_does : Session → Bool → Option Peer → Bool → Planned Note → SessionState → List Item → Packets → SessionStepped
client_does s turn heard spent p state journal packets =
    session_stepped s (actor.client_does turn heard spent p (side_of state)) state.down state journal packets

-- what it heard of the server of number k, where this was one answer at most
abbrev pub client_hears_one : ℕ → Session → ℕ → Option Peer → Heard → Option Answer → SessionState → List Item → Packets → SessionStepped
client_hears_one now s k from h heard state journal packets =
    session_stepped s (actor.client_hears now k from h heard (side_of state)) state.down state journal packets

-- an answer of the server of number k comes to it
abbrev pub client_takes : ℕ → Session → ℕ → Option Peer → Answer → SessionState → List Item → Packets → SessionStepped
client_takes now s k from a state journal packets =
    client_does s false from false (client_noted (answer_plan state.client now k a)) state journal packets

-- what came of all that it heard, while no answer is taken off its way
abbrev pub client_heard : ℕ → Session → ℕ → Option Peer → Heard → SessionState → List Item → Packets → SessionStepped
client_heard now s k from h state journal packets =
    session_ran s (client_takes_all s now (TheServer k) from (record { links = state.post; heard = h }) state.client) state.down state
    journal packets

-- what came of a run at a session: its client and its links are these, these are the packets behind those before, and this is its outcome
pub record IsRun (x : ClientRun) (s : Session) (before : Packets) (outcome : Outcome) (client : ClientCore) (post : Links)
    (packets : Packets) : Type 0 where
  pub client_then : client ≡ x.client
  pub post_then : post ≡ x.post
  pub packets_then : packets ≡ with_sent x.packets before
  pub outcome_then : outcome ≡ record { who = Some (TheClient s); notes = x.notes; sent = numbers_from (length before.sent) x.packets }
  pub unspent : x.spent ≡ None

-- what it heard of the server of number k, which is on its way no more
abbrev pub client_hears : ℕ → Session → ℕ → Option Peer → Heard → SessionState → List Item → Packets → SessionStepped
client_hears now s k from h state journal packets =
    client_heard now s k from h (record state { down = without_each h.joined (is_with k) state.down }) journal packets

-- nothing happens at the server but that what is due goes out
abbrev pub server_goes : ℕ → Bool → Option Peer → Note → Option Counter → ServerStepped → ServerStepped
server_goes k turn heard n spent x = record x {
  post = (post_due x.post turn heard).links;
  packets = with_sent (post_due x.post turn heard).sent x.packets;
  outcome =
      record { who = Some (TheServer k); notes = n ∷ []; sent = numbers_from (length x.packets.sent) (post_due x.post turn heard).sent };
  spent = spent;
}

-- it has taken a step
abbrev pub server_does : ℕ → Bool → Option Peer → Option Counter → CoreStepped → ServerStepped → ServerStepped
server_does k turn heard spent y x = server_stepped k (actor.server_does turn heard spent y (core_of x)) x

-- what it heard, where this was one message at most
abbrev pub server_hears_one : ℕ → ℕ → Option Peer → Heard → Option ServerEvent → ServerStepped → ServerStepped
server_hears_one now k replied h heard x = server_stepped k (actor.server_hears now replied h heard (core_of x)) x

-- what came of all that it heard of the actor, while no message is taken off its way
abbrev pub server_heard : ℕ → ℕ → Peer → Option Peer → Heard → ServerStepped → ServerStepped
server_heard now k from replied h x =
    server_ran k (server_takes_all now from replied (record { links = x.post; heard = h }) x.server) x

-- what came of a run at a server: it and its links are these, what it sends and admits stands behind what was there, these are the
-- packets behind those before, and this is its outcome
pub record IsServerRun (y : ServerRun) (k : ℕ) (before : ServerStepped) (outcome : Outcome) (s : Server) (post : Links)
    (sessions : SessionStates) (in_flight : List InFlight) (journal : List Item) (packets : Packets) : Type 0 where
  pub server_then : s ≡ y.server
  pub post_then : post ≡ y.post
  pub sessions_then : sessions ≡ with_downs k y.send before.sessions
  pub flying_then : in_flight ≡ before.in_flight ++ in_flight_from k y.send
  pub journal_then : journal ≡ before.journal ++ y.admitted
  pub packets_then : packets ≡ with_sent y.packets before.packets
  pub outcome_then : outcome ≡
      record { who = Some (TheServer k); notes = y.notes; sent = numbers_from (length before.packets.sent) y.packets }
  pub unspent : y.spent ≡ None

-- what it heard of the actor, which is on its way no more
abbrev pub server_hears : ℕ → ℕ → Peer → Option Peer → Heard → ServerStepped → ServerStepped
server_hears now k from replied h x = server_heard now k from replied h (without_joined k from h.joined x)

-- the first message of the actor is on its way no more
abbrev pub without_message : ℕ → Peer → ServerStepped → ServerStepped
without_message k from x = record x { sessions = sessions_without k from x.sessions; in_flight = flying_without k from x.in_flight }

-- the server has changed as planned, and what it admitted and sends stands where it is to stand
abbrev pub with_plan : ℕ → Plan → ServerStepped → ServerStepped
with_plan k p x = record x {
  server = committed p x.server;
  sessions = with_downs k p.out.send x.sessions;
  in_flight = x.in_flight ++ in_flight_from k p.out.send;
  journal = x.journal ++ p.out.admitted;
}
