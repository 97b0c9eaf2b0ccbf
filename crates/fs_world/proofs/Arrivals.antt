-- A packet that is outcome: every packet stays.
use Rattle.std.proofs.Common.{◌≡◌, ℕ, ◌≤◌, List, length, sym, subst, arith, length-append}
use Rattle.std.specs.Prelude.{Option, Some, None, Result, Ok, Err, IfOk, OnOk, slice_get}
use Rattle.std.specs.FinMap.{get}
use Rattle.fs_ident.specs.declared.actor.Peer.{Peer}
use Rattle.fs_ident.specs.declared.actor.Peer.TheVariants.{Server, Client}
use Rattle.fs_ident.specs.declared.actor.Session.{Session}
use Rattle.fs_msg.specs.declared.core_error.CoreError.{CoreError}
use Rattle.fs_schedule.specs.declared.outcome.Outcome.{Outcome}
use Rattle.fs_server.specs.declared.state.Server.{Server as Core}
use Rattle.fs_window.specs.Post.{Links}
use Rattle.fs_window.specs.declared.packet.Packet.{Packet}
use Rattle.fs_window.specs.declared.sent.Sent.{Sent}
use Rattle.fs_world.specs.Packets.{Packets, with_sent}
use Rattle.fs_world.specs.Calls.{world_left}
use Rattle.fs_world.specs.Served.{Stepped, arrives, comes, server_receive_packet_at, client_receive_packet_at}
use Rattle.fs_world.specs.declared.servers.session_state.SessionState.{SessionState}
use Rattle.fs_world.specs.declared.servers.world.Served.{Served}

stay : (more : List Sent) (p : Packets) → length p.sent ≤ length (with_sent more p).sent
stay more p = omega (arith, length-append p.sent more)

server_receive_packet_stays : (c : Option Core) (o : Option Links) (now k : ℕ) (from : Peer) (p : Packet) (w : Served)
    → length w.packets.sent ≤ length (server_receive_packet_at c o now k from p w).world.packets.sent
server_receive_packet_stays None o now k from p w = omega arith
server_receive_packet_stays (Some c) None now k from p w = omega arith
server_receive_packet_stays (Some c) (Some post) now k from p w = stay _ w.packets

receive_packet_stays : (o : Option SessionState) (now : ℕ) (s : Session) (k : ℕ) (p : Packet) (w : Served)
    → length w.packets.sent ≤ length (client_receive_packet_at o now s k p w).world.packets.sent
receive_packet_stays None now s k p w = omega arith
receive_packet_stays (Some state) now s k p w = stay _ w.packets

comes_stays : (now : ℕ) (from to : Peer) (p : Packet) (w : Served)
    → length w.packets.sent ≤ length (comes now from to p w).world.packets.sent
comes_stays now from (Server k) p w = server_receive_packet_stays (slice_get w.servers k) (slice_get w.posts k) now k from p w
comes_stays now (Server k) (Client s) p w = receive_packet_stays (get w.sessions s.0) now s k p w
comes_stays now (Client t) (Client s) p w = omega arith

pub arrives_stays : (now : ℕ) (from to : Peer) (o : Option Packet) (w : Served)
    → length w.packets.sent ≤ length (arrives now from to o w).world.packets.sent
arrives_stays now from to None w = omega arith
arrives_stays now from to (Some p) w = comes_stays now from to p w

pub all_stay : (r : Result Outcome CoreError) (w new : Served) (x : Stepped) → length w.packets.sent ≤ length x.world.packets.sent
    → IfOk r (λ outcome. world_left outcome new ≡ x) → OnOk r (length w.packets.sent ≤ length new.packets.sent)
all_stay (Ok o) w new x stays is = subst (λ (v : Stepped). length w.packets.sent ≤ length v.world.packets.sent) (sym is) stays
all_stay (Err e) w new x stays is = tt
