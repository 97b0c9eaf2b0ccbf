-- What a server planned, and what it sends then.
use Rattle.std.specs.Prelude.{◌≡◌, ℕ, ◌<◌, List, [], Option, None}
use Rattle.fs_ident.specs.In.{In}
use Rattle.fs_ident.specs.declared.actor.Peer.{Peer}
use Rattle.fs_actor.specs.Several.{ServerRun, server_begins, server_hears_each}
use Rattle.fs_frag.specs.declared.joined.Joined.{Joined}
use Rattle.fs_server.specs.Plan.{committed}
use Rattle.fs_server.specs.Server.{Stepped}
use Rattle.fs_server.specs.declared.event.ServerEvent.{ServerEvent}
use Rattle.fs_server.specs.declared.event.ServerEvent.TheVariants.{Turn, Recall, Move}
use Rattle.fs_server.specs.declared.plan.Plan.{Plan}
use Rattle.fs_server.specs.declared.state.Server.{Server}
use Rattle.fs_window.specs.Reading.{packet_at}
use Rattle.fs_window.specs.declared.packet.Packet.{Packet}
use Rattle.fs_window.specs.declared.sent.Sent.{Sent}
use Rattle.fs_world.specs.Linked.{FitsDown}
use Rattle.fs_world.specs.Served.{ServerStepped}

-- what the plan comes to
abbrev pub stepped_by : Plan → Server → Stepped
stepped_by p s = record { server = committed p s; out = p.out }

-- what becomes of the server as it hears all that was joined of the actor
abbrev pub run_of : ℕ → Peer → List Joined → ServerStepped → ServerRun
run_of now from joined x = server_hears_each now from joined (server_begins x.server x.post [])

-- what it sends at all that was joined was written down, and there was room for it
abbrev pub IsAnswered : ℕ → Peer → List Joined → ServerStepped → Type 0
IsAnswered now from joined x = FitsDown (run_of now from joined x).send × ((run_of now from joined x).spent ≡ None)

-- an event that no message brings; a move is one to a server that there is
abbrev pub IsOwn : ℕ → ServerEvent → Type 0
IsOwn servers Turn = Unit {0}
IsOwn servers (Recall field) = Unit {0}
IsOwn servers (Move prefix to) = to < servers
IsOwn servers e = ⊥

-- bytes that are this packet, or none, went from one actor to another
pub record WasSent (from to : Peer) (packet : Option Packet) (packets : List Sent) : Type 0 where
  pub sent : Sent
  pub among : In sent packets
  pub sender : sent.from ≡ from
  pub addressee : sent.to ≡ to
  pub read : packet_at sent.bytes ≡ packet
