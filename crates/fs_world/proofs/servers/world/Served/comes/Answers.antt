use Rattle.std.proofs.Common.{subst}
use Rattle.std.specs.Prelude.{Some}
use Rattle.std.specs.FinMap.{get}
use Rattle.fs_ident.specs.declared.actor.Peer.{Peer}
use Rattle.fs_ident.specs.declared.actor.Peer.TheVariants.{Client, Server}
use Rattle.fs_world.specs.Planned.{WasSent}
use Rattle.fs_world.specs.Served.{client_receive_packet_at}
use Rattle.fs_world.proofs.AtSession.{linked_then, receive_packet_linked}
use Rattle.fs_world.proofs.AtServer.{receive_packet_after}
use Rattle.fs_world.proofs.Linked.{went}
use Rattle.fs_world.proofs.servers.world.Served.comes.Goals as goal

pub server_receive_packet-requires-clause-apart : goal.server_receive_packet-requires-clause-apart
server_receive_packet-requires-clause-apart c =
    let a = c.args in
    let w = a.self.now in
    let x = subst (λ (q : Peer). WasSent a.from q (Some a.p.now) w.packets.sent) c.in_default-Server.is-1 c.requires.sent in
    (went w a.from (Server c.in_default-Server.k) a.p.now x c.requires.linked).apart

pub returns-in_default-Server-clause-linked : goal.returns-in_default-Server-clause-linked
returns-in_default-Server-clause-linked c =
    let a = c.args in
    let w = a.self.now in
    let x = subst (λ (q : Peer). WasSent a.from q (Some a.p.now) w.packets.sent) c.in_default-Server.is-1 c.requires.sent in
    receive_packet_after c.server_receive_packet.result w c.server_receive_packet.new.self c.in_default-Server.k a.now a.from a.p.now x
    c.server_receive_packet.ensures.fits c.requires.linked c.server_receive_packet.ensures.done

pub returns-in-Server-Client-clause-linked : goal.returns-in-Server-Client-clause-linked
returns-in-Server-Client-clause-linked c =
    let a = c.args in
    let w = a.self.now in
    let k = c.in-Server-Client.k in
    let s = c.in-Server-Client.s in
    let to = subst (λ (q : Peer). WasSent a.from q (Some a.p.now) w.packets.sent) c.in-Server-Client.is-1 c.requires.sent in
    let x = subst (λ (q : Peer). WasSent q (Client s) (Some a.p.now) w.packets.sent) c.in-Server-Client.is-0 to in
    linked_then c.client_receive_packet.result c.client_receive_packet.new.self
    (client_receive_packet_at (get w.sessions s.0) a.now s k a.p.now w) (receive_packet_linked w s a.now k a.p.now x c.requires.linked)
    c.client_receive_packet.ensures.done
