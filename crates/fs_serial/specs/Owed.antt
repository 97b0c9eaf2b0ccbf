-- A session, as one server that has all would see it.
use Rattle.std.specs.Prelude.{◌==◌, ℕ, List, [], ◌∷◌, ◌++◌, map, Option, Some, None}
use Rattle.std.specs.List.{filter, flat_map}
use Rattle.fs_ident.specs.declared.actor.Session.{Session}
use Rattle.fs_client.specs.Led.{lead_of}
use Rattle.fs_client.specs.declared.led.Led.{Led}
use Rattle.fs_msg.specs.declared.answer.Answer.{Answer}
use Rattle.fs_msg.specs.declared.answer.Answer.TheVariants as answer
use Rattle.fs_msg.specs.declared.client_msg.ClientMsg.{ClientMsg}
use Rattle.fs_msg.specs.declared.client_msg.ClientMsg.TheVariants as message
use Rattle.fs_server.specs.declared.state.Server.{Server}
use Rattle.fs_txn.specs.declared.leading.Ending.{Ending}
use Rattle.fs_txn.specs.declared.leading.Leading.{Leading}
use Rattle.fs_serial.specs.Cluster.{Cluster, Lines}
use Rattle.fs_serial.specs.World.{Ends}

-- the question that a session asks of whoever leads its operation
abbrev pub question_of : Option Led → List ClientMsg
question_of None = []
question_of (Some l) = message.Lead (lead_of l) ∷ []

-- a server that leads an operation and has not decided it yet has not taken the question
abbrev pub taken_at : Session → Option Led → Server → List ClientMsg
taken_at x led s = flat_map (λ (l : Leading). question_of led) (filter (λ (l : Leading). l.leader.session.0 == x.0) s.leading)

abbrev pub taken_leads : Session → Option Led → List Server → List ClientMsg
taken_leads x led servers = flat_map (taken_at x led) servers

-- what has been decided is told, though its answer is sent only when all is done
abbrev pub owed_at : Session → Server → List Answer
owed_at x s = map (λ (e : Ending). answer.Led e.end) (filter (λ (e : Ending). e.session.0 == x.0) s.ending)

abbrev pub owed_to : Session → List Server → List Answer
owed_to x servers = flat_map (owed_at x) servers

-- the messages without their servers
abbrev pub ends_of : Lines → Ends
ends_of l = record { client = l.client; up = map (λ (m : ℕ × ClientMsg). m.1) l.up; down = map (λ (m : ℕ × Answer). m.1) l.down }

-- and what is taken and not decided; what is owed stands in front of the answers on their way
abbrev pub ends_with : Session → List Server → Lines → Ends
ends_with x servers l = record {
  client = l.client;
  up = map (λ (m : ℕ × ClientMsg). m.1) l.up ++ taken_leads x l.client.led servers;
  down = owed_to x servers ++ map (λ (m : ℕ × Answer). m.1) l.down;
}

abbrev pub ends_in : Cluster → Session → Ends
ends_in c x = ends_with x c.servers (c.lines x)
