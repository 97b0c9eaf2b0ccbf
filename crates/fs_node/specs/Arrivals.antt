-- What a node makes of what it received.
use Rattle.std.specs.Prelude.{Option, Some, None}
use Rattle.fs_ident.specs.declared.actor.Peer.{Peer}
use Rattle.fs_io.specs.Calls.{Datagram}
use Rattle.fs_window.specs.Reading.{packet_at}
use Rattle.fs_window.specs.declared.packet.Packet.{Packet}
use Rattle.fs_node.specs.Peers.{Peers, other_at}
use Rattle.fs_node.specs.declared.arrival.Arrival.{Arrival}
use Rattle.fs_node.specs.declared.arrival.Arrival.TheVariants.{Quiet, Dropped, Came}

-- a packet of another actor; what comes from nowhere that is known, and what is no packet, is dropped
abbrev pub arrived : Option Peer → Option Packet → Arrival
arrived (Some from) (Some p) = Came from p
arrived from p = Dropped

abbrev pub arrival_of : Peer → Peers → Option Datagram → Arrival
arrival_of me peers None = Quiet
arrival_of me peers (Some d) = arrived (other_at me peers d.0) (packet_at d.1)
