-- Servers neither come nor go.
use Rattle.std.proofs.Common.{◌≡◌, ℕ, Bool, true, false, [], ◌∷◌, zero, suc, length, refl, arith}
use Rattle.std.specs.Prelude.{Option, Some, None, slice_get}
use Rattle.std.specs.FinMap.{get}
use Rattle.std.proofs.lemmas.List.{length-append, length-set}
use Rattle.fs_ident.specs.declared.actor.Peer.{Peer}
use Rattle.fs_ident.specs.declared.actor.Peer.TheVariants.{Server, Client}
use Rattle.fs_ident.specs.declared.actor.Session.{Session}
use Rattle.fs_model.specs.declared.op.Op.{Op}
use Rattle.fs_schedule.specs.declared.event.What.{What}
use Rattle.fs_schedule.specs.declared.event.What.TheVariants.{Join, Do, Tell, Turn, Recall, Move}
use Rattle.fs_serial.specs.Cluster.{first_servers}
use Rattle.fs_server.specs.Server.{first_server}
use Rattle.fs_server.specs.declared.event.ServerEvent.{ServerEvent}
use Rattle.fs_server.specs.declared.event.ServerEvent.TheVariants.{Turn as TheTurn, Recall as TheRecall, Move as TheMove}
use Rattle.fs_server.specs.declared.state.Server.{Server as Core}
use Rattle.fs_window.specs.Post.{Links}
use Rattle.fs_window.specs.Reading.{packet_at}
use Rattle.fs_window.specs.declared.packet.Packet.{Packet}
use Rattle.fs_window.specs.declared.sent.Sent.{Sent}
use Rattle.fs_world.specs.Packets.{first_undelivered}
use Rattle.fs_world.specs.Served.{Stepped, arrives, comes, do_at, join_at, server_step_at, server_receive_packet_at, step_of, tell_at}
use Rattle.fs_world.specs.Served.{client_receive_packet_at, turn_at}
use Rattle.fs_world.specs.declared.servers.session_state.SessionState.{SessionState}
use Rattle.fs_world.specs.declared.servers.world.Served.{Served}

-- so many there are at first
pub first_count : (n skew term : ℕ) → length (first_servers n skew term) ≡ n
first_count zero skew term = refl
first_count (suc n) skew term =
    omega (arith, length-append (first_servers n skew term) (first_server n skew term ∷ []), first_count n skew term)

module _ (w : Served) where
  -- as many as before
  abbrev Stay : Stepped → Type 0
  Stay x = length x.world.servers ≡ length w.servers

  joins : (state : Option SessionState) (s : Session) → Stay (join_at state s w)
  joins None s = refl
  joins (Some state) s = refl

  does : (state : Option SessionState) (now : ℕ) (s : Session) (o : Op) → Stay (do_at state now s o w)
  does None now s o = refl
  does (Some state) now s o = refl

  turns : (state : Option SessionState) (now : ℕ) (s : Session) → Stay (turn_at state now s w)
  turns None now s = refl
  turns (Some state) now s = refl

  hears : (state : Option SessionState) (now : ℕ) (s : Session) (k : ℕ) (p : Packet) → Stay (client_receive_packet_at state now s k p w)
  hears None now s k p = refl
  hears (Some state) now s k p = refl

  steps : (core : Option Core) (post : Option Links) (k : ℕ) (turn : Bool) (now : ℕ) (e : ServerEvent)
      → Stay (server_step_at core post k turn now e w)
  steps (Some s) (Some post) k turn now e = length-set w.servers k _
  steps (Some s) None k turn now e = refl
  steps None post k turn now e = refl

  is_told : (core : Option Core) (post : Option Links) (now k : ℕ) (from : Peer) (p : Packet)
      → Stay (server_receive_packet_at core post now k from p w)
  is_told (Some s) (Some post) now k from p = length-set w.servers k _
  is_told (Some s) None now k from p = refl
  is_told None post now k from p = refl

  coming : (now : ℕ) (from to : Peer) (p : Packet) → Stay (comes now from to p w)
  coming now from (Server k) p = is_told (slice_get w.servers k) (slice_get w.posts k) now k from p
  coming now (Server k) (Client s) p = hears (get w.sessions s.0) now s k p
  coming now (Client t) (Client s) p = refl

  arriving : (now : ℕ) (from to : Peer) (p : Option Packet) → Stay (arrives now from to p w)
  arriving now from to None = refl
  arriving now from to (Some p) = coming now from to p

  telling : (x : Option Sent) (now k : ℕ) → Stay (tell_at x now k w)
  telling None now k = refl
  telling (Some x) now k = arriving now x.from x.to (packet_at x.bytes)

  pub servers_stay : (now : ℕ) (what : What) → Stay (step_of w now what)
  servers_stay now (Join s) = joins (get w.sessions s.0) s
  servers_stay now (Do s o) = does (get w.sessions s.0) now s o
  servers_stay now (Tell None) =
      telling (slice_get w.packets.sent (first_undelivered w.packets.delivered)) now (first_undelivered w.packets.delivered)
  servers_stay now (Tell (Some k)) = telling (slice_get w.packets.sent k) now k
  servers_stay now (Turn (Client s)) = turns (get w.sessions s.0) now s
  servers_stay now (Turn (Server k)) = steps (slice_get w.servers k) (slice_get w.posts k) k true now TheTurn
  servers_stay now (Recall k field) = steps (slice_get w.servers k) (slice_get w.posts k) k false now (TheRecall field)
  servers_stay now (Move k prefix to) = steps (slice_get w.servers k) (slice_get w.posts k) k false now (TheMove prefix to)
