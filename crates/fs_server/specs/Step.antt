-- The step of a server.
use Rattle.std.specs.Prelude.{ℕ, ◌^◌, nat_le, List, [], length, map, Option, Some, None, if◌then◌else◌}
use Rattle.fs_ident.specs.declared.actor.LeaseNo.{LeaseNo}
use Rattle.fs_ident.specs.declared.actor.Session.{Session}
use Rattle.fs_ident.specs.declared.actor.Peer.{Peer}
use Rattle.fs_field.specs.declared.field.Field.{Field}
use Rattle.fs_field.specs.Field.{file_of}
use Rattle.fs_rows.specs.Live.{unlocked_on}
pub use Rattle.fs_record.specs.Moving.{AreNumbersLeft}
use Rattle.fs_msg.specs.declared.peer_msg.PeerMsg.TheVariants.{Parcel}
use Rattle.fs_msg.specs.declared.answer.Answer.TheVariants as reply
use Rattle.fs_msg.specs.declared.client_msg.ClientMsg.{ClientMsg}
use Rattle.fs_msg.specs.declared.client_msg.ClientMsg.TheVariants.{Ask, Renew, Release, Ship, Lead}
use Rattle.fs_msg.specs.declared.core_error.Counter.{Counter}
use Rattle.fs_msg.specs.declared.core_error.Counter.TheVariants.{Leases, Reaps, Transactions, Paths}
use Rattle.fs_msg.specs.declared.msg.Msg.{Msg}
use Rattle.fs_msg.specs.declared.server_note.ServerNote.TheVariants as note
use Rattle.fs_server.specs.declared.event.ServerEvent.{ServerEvent}
use Rattle.fs_server.specs.declared.event.ServerEvent.TheVariants.{FromClient, FromPeer, Turn, Recall, Move}
use Rattle.fs_server.specs.declared.state.Server.{Server}
use Rattle.fs_server.specs.Server.{Stepped, begun, is_mine, to_session}
use Rattle.fs_server.specs.Asks.{ask_step}
use Rattle.fs_server.specs.Leads.{lead_step}
use Rattle.fs_server.specs.Moves.{move_step, peer_step}
use Rattle.fs_server.specs.Pairs.{renew_step, release_step}
use Rattle.fs_server.specs.Reaps.{turn_step}
use Rattle.fs_server.specs.Ships.{ship_step}

-- what a message of a session comes to
abbrev pub message_step : Session → ClientMsg → Server → Stepped
message_step by (Ask items fresh) s = ask_step by items fresh s
message_step by (Renew pairs) s = renew_step by pairs s
message_step by (Release pairs) s = release_step by pairs s
message_step by (Ship entries) s = ship_step by entries s
message_step by (Lead m) s = lead_step by m s

-- each of the leases is asked back from its session
abbrev pub recalls_of : List (LeaseNo × Session) → List (Peer × Msg)
recalls_of leases = map (λ (x : LeaseNo × Session). to_session x.1 (reply.Recall x.0)) leases

-- those on the field that no transaction keeps; a field that is with another server has none
abbrev pub recalled_on : Field → Server → List (LeaseNo × Session)
recalled_on field s = if is_mine s (file_of field) then unlocked_on field s.rows else []

abbrev pub recall_step : Field → Server → Stepped
recall_step field s = record {
  server = s;
  out = record {
    note = note.Recalls (length (recalled_on field s));
    send = recalls_of (recalled_on field s);
    admitted = [];
  };
}

abbrev pub event_step : ServerEvent → Server → Stepped
event_step (FromClient by m) s = message_step by m s
event_step (FromPeer from m) s = peer_step from m s
event_step Turn s = turn_step s
event_step (Recall field) s = recall_step field s
event_step (Move prefix to) s = move_step prefix to s

-- one event, at the reading that was handed in: the greatest so far counts
abbrev pub step : Server → ℕ → ServerEvent → Stepped
step s now e = event_step e (begun now s)

-- what the event tells can be read from bytes
abbrev pub CanBeTold : ServerEvent → Type 0
CanBeTold (FromPeer from (Parcel p)) = AreNumbersLeft p.records
CanBeTold e = Unit {0}

-- the counter that the step would raise above its end
abbrev pub counter_over : Server → Option Counter
counter_over s =
    if nat_le (2 ^ 64) s.given then Some Leases
    else (if nat_le (2 ^ 64) s.reaps then Some Reaps
    else (if nat_le (2 ^ 64) s.txns then Some Transactions else (if nat_le (2 ^ 64) s.paths_given then Some Paths else None)))

abbrev pub spent_by : Server → ℕ → ServerEvent → Option Counter
spent_by s now e = counter_over (step s now e).server
