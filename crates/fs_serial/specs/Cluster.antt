-- Several servers, the sessions' clients, and what is on its way between them.
use Rattle.std.specs.Prelude.{◌≡◌, ℕ, zero, suc, ◌<◌, ◌==◌, ◌&&◌, Bool, true, List, [], ◌∷◌, ◌++◌, length, slice_get, slice_set, Option, Some, None, if◌then◌else◌}
use Rattle.std.specs.List.{filter_map, find}
use Rattle.fs_ident.specs.declared.actor.Peer.{Peer}
use Rattle.fs_ident.specs.declared.actor.Peer.TheVariants.{Client as OfSession, Server as OfServer}
use Rattle.fs_ident.specs.declared.actor.Session.{Session}
use Rattle.fs_model.specs.declared.op.Op.{Op}
use Rattle.fs_msg.specs.declared.answer.Answer.{Answer}
use Rattle.fs_msg.specs.declared.client_msg.ClientMsg.{ClientMsg}
use Rattle.fs_msg.specs.declared.client_msg.ClientMsg.TheVariants.{Lead}
use Rattle.fs_msg.specs.declared.item.Item.{Item}
use Rattle.fs_msg.specs.declared.msg.Msg.{Msg}
use Rattle.fs_msg.specs.declared.msg.Msg.TheVariants as msg
use Rattle.fs_msg.specs.declared.peer_msg.PeerMsg.{PeerMsg}
use Rattle.fs_msg.specs.declared.peer_msg.PeerMsg.TheVariants.{Parcel as OfParcel, Vote}
use Rattle.fs_record.specs.declared.parcel.Parcel.{Parcel}
use Rattle.fs_server.specs.declared.event.ServerEvent.{ServerEvent}
use Rattle.fs_server.specs.declared.event.ServerEvent.TheVariants.{FromClient, FromPeer, Move}
use Rattle.fs_server.specs.declared.state.Server.{Server}
use Rattle.fs_server.specs.Server.{Stepped, first_server}
use Rattle.fs_server.specs.Step.{step}
use Rattle.fs_client.specs.Acts.{act_plan}
use Rattle.fs_client.specs.Answers.{answer_plan}
use Rattle.fs_client.specs.Client.{committed, first_client}
use Rattle.fs_client.specs.Turns.{turn_plan}
use Rattle.fs_client.specs.declared.plan.Plan.{Plan}
use Rattle.fs_client.specs.declared.state.Client.{Client}
pub use Rattle.fs_serial.specs.declared.in_flight.InFlight.{InFlight}
use Rattle.fs_serial.specs.Parts.{with_replies}
use Rattle.fs_serial.specs.World.{is_called, pushed, told_by, with_told}

-- ## What stands in it

-- the client, the questions that are on their way to servers, and the answers on their way back, each with the number of
-- the server
pub record Lines : Type 0 where
  pub client : Client
  pub up : List (ℕ × ClientMsg)
  pub down : List (ℕ × Answer)

-- the servers in order of number; the journal, and what each session was told so far, are kept beside
pub record Cluster : Type 0 where
  pub servers : List Server
  pub in_flight : List InFlight
  pub journal : List Item
  pub replied : Session → List Item
  pub lines : Session → Lines

abbrev pub first_servers : ℕ → ℕ → ℕ → List Server
first_servers zero skew term = []
first_servers (suc k) skew term = first_servers k skew term ++ first_server k skew term ∷ []

abbrev pub first_lines : ℕ → Session → Lines
first_lines term x = record { client = first_client x term; up = []; down = [] }

abbrev pub first_cluster : ℕ → ℕ → ℕ → Cluster
first_cluster servers skew term = record {
  servers = first_servers servers skew term;
  in_flight = [];
  journal = [];
  replied = λ x. [];
  lines = first_lines term;
}

-- the parcel that the message brings, if it brings one
abbrev pub parcel_in : PeerMsg → Option Parcel
parcel_in (OfParcel p) = Some p
parcel_in m = None

-- the parcels among the messages on their way, in order
abbrev pub parcels_of : List InFlight → List Parcel
parcels_of in_flight = filter_map (λ (f : InFlight). parcel_in f.message) in_flight

-- ## Messages that come

-- without the first of these, if there is one
abbrev pub without_first : {X : Type 0} → (X → Bool) → List X → List X
without_first is [] = []
without_first is (x ∷ xs) = if is x then xs else x ∷ without_first is xs

-- the message is one to or from the server
abbrev pub is_with : {X : Type 0} → ℕ → ℕ × X → Bool
is_with k m = m.0 == k

abbrev pub is_between : ℕ → ℕ → InFlight → Bool
is_between from to f = (f.from == from) && (f.to == to)

-- ## Messages that go

abbrev pub with_lines : Session → Lines → (Session → Lines) → Session → Lines
with_lines by l lines x = if by.0 == x.0 then l else lines x

abbrev pub with_answer : ℕ → Session → Answer → (Session → Lines) → Session → Lines
with_answer k to a lines x = if to.0 == x.0 then record (lines x) { down = (lines x).down ++ (k, a) ∷ [] } else lines x

-- the answers of that server go to their sessions, one after another
abbrev pub with_sent : ℕ → List (Peer × Msg) → (Session → Lines) → Session → Lines
with_sent k [] lines = lines
with_sent k ((OfSession to, msg.Answer a) ∷ rest) lines = with_sent k rest (with_answer k to a lines)
with_sent k (m ∷ rest) lines = with_sent k rest lines

-- and its messages to servers
abbrev pub in_flight_from : ℕ → List (Peer × Msg) → List InFlight
in_flight_from k [] = []
in_flight_from k ((OfServer to, msg.Peer m) ∷ rest) = record { from = k; to = to; message = m } ∷ in_flight_from k rest
in_flight_from k (m ∷ rest) = in_flight_from k rest

-- ## A server's events

-- the message that the event is about is on its way before
abbrev pub IsThere : ℕ → ServerEvent → Cluster → Type 0
IsThere k (FromClient by m) c = find (is_with k) (c.lines by).up ≡ Some (k, m)
IsThere k (FromPeer from m) c = find (is_between from k) c.in_flight ≡ Some (record { from = from; to = k; message = m })
IsThere k (Move prefix to) c = to < length c.servers
IsThere k e c = Unit {0}

-- and no longer then
abbrev pub without_question : ℕ → ServerEvent → (Session → Lines) → Session → Lines
without_question k (FromClient by m) lines = with_lines by (record (lines by) { up = without_first (is_with k) (lines by).up }) lines
without_question k e lines = lines

abbrev pub without_arrived : ℕ → ServerEvent → List InFlight → List InFlight
without_arrived k (FromPeer from m) in_flight = without_first (is_between from k) in_flight
without_arrived k e in_flight = in_flight

-- what a session led is its reply from then on
abbrev pub with_item : Peer → Item → (Session → List Item) → Session → List Item
with_item (OfSession by) i replied = with_replies by (replied by ++ i ∷ []) replied
with_item (OfServer k) i replied = replied

abbrev pub with_items : List Item → (Session → List Item) → Session → List Item
with_items [] replied = replied
with_items (i ∷ is) replied = with_items is (with_item i.by i replied)

-- what is admitted where a session asked to lead it, or where the last vote came, is its session's reply
abbrev pub replies_after : ServerEvent → List Item → (Session → List Item) → Session → List Item
replies_after (FromClient by (Lead m)) items replied = with_items items replied
replies_after (FromPeer from (Vote m)) items replied = with_items items replied
replies_after e items replied = replied

abbrev pub after_step : ℕ → ServerEvent → Stepped → Cluster → Cluster
after_step k e x c = record {
  servers = slice_set c.servers k x.server;
  in_flight = without_arrived k e c.in_flight ++ in_flight_from k x.out.send;
  journal = c.journal ++ x.out.admitted;
  replied = replies_after e x.out.admitted c.replied;
  lines = with_sent k x.out.send (without_question k e c.lines);
}

-- a server that there is takes its step
abbrev pub after_server_at : Option Server → ℕ → ℕ → ServerEvent → Cluster → Cluster
after_server_at None now k e c = c
after_server_at (Some s) now k e c = after_step k e (step s now e) c

abbrev pub after_server : ℕ → ℕ → ServerEvent → Cluster → Cluster
after_server now k e c = after_server_at (slice_get c.servers k) now k e c

-- ## A client's events

-- after what the client made of an event; these answers are still on their way to it
abbrev pub after_plan : {N : Type 0} → Session → List (ℕ × Answer) → Plan N → Cluster → Cluster
after_plan by rest p c = record {
  servers = c.servers;
  in_flight = c.in_flight;
  journal = pushed p.out.admitted c.journal;
  replied = with_told by (told_by by p.ready.change p.out.admitted) c.replied;
  lines = with_lines by
      (record { client = committed p.ready (c.lines by).client; up = pushed p.out.send (c.lines by).up; down = rest })
      c.lines;
}

pub data ClientEvent : Type 0 where
  -- the session's caller asks for an operation
  Does : (o : Op) → ClientEvent
  Turns : ClientEvent
  -- the first answer on its way from that server comes
  Hears : (from : ℕ) → (answer : Answer) → ClientEvent

abbrev pub after_client : Session → ℕ → ClientEvent → Cluster → Cluster
after_client by now (Does o) c = after_plan by (c.lines by).down (act_plan (c.lines by).client now o) c
after_client by now Turns c = after_plan by (c.lines by).down (turn_plan (c.lines by).client now) c
after_client by now (Hears from a) c =
    after_plan by (without_first (is_with from) (c.lines by).down) (answer_plan (c.lines by).client now from a) c

-- the event can come
abbrev pub CanCome : Session → ClientEvent → Cluster → Type 0
CanCome by (Does o) c = is_called o ≡ true
CanCome by Turns c = Unit {0}
CanCome by (Hears from a) c = find (is_with from) (c.lines by).down ≡ Some (from, a)
