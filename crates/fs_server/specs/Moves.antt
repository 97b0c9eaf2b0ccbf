-- What a server hands over to another, and what one hands over to it.
use Rattle.std.specs.Prelude.{ℕ, Bool, true, false, ◌&&◌, ◌||◌, ◌==◌, not, nat_le, List, [], ◌∷◌, Option, Some, None}
use Rattle.std.specs.List.{list_all}
use Rattle.fs_ident.specs.declared.actor.Peer.TheVariants.{Server as OfServer}
use Rattle.fs_field.specs.declared.row.Row.{Row}
use Rattle.fs_map.specs.Lists.{map_after_give, map_after_take, piece_of}
use Rattle.fs_msg.specs.declared.msg.Msg.TheVariants as msg
use Rattle.fs_msg.specs.declared.peer_msg.PeerMsg.{PeerMsg}
use Rattle.fs_msg.specs.declared.peer_msg.PeerMsg.TheVariants as peer
use Rattle.fs_msg.specs.declared.refusal.Refusal.{Refusal}
use Rattle.fs_msg.specs.declared.refusal.Refusal.TheVariants as refusal
use Rattle.fs_msg.specs.declared.server_note.ServerNote.TheVariants as note
use Rattle.fs_parcel.specs.Parcel.{fits, move_refusal, parcel_of}
use Rattle.fs_parcel.specs.declared.error.MoveError.{MoveError}
use Rattle.fs_parcel.specs.declared.error.MoveError.TheVariants as move
use Rattle.fs_record.specs.Moving.{records_left, with_records}
use Rattle.fs_record.specs.declared.parcel.Parcel.{Parcel}
use Rattle.fs_rows.specs.Granted.{with_rows}
use Rattle.fs_rows.specs.Moving.{rows_left}
use Rattle.fs_server.specs.declared.state.Server.{Server}
use Rattle.fs_server.specs.Server.{Stepped, only_noted, strange}
use Rattle.fs_server.specs.Counts.{done_step, vote_step}
use Rattle.fs_server.specs.Follows.{decide_step, prepare_step}
use Rattle.fs_server.specs.PathSteps.{asks_back_in, path_ask_step, path_grant_step, path_no_step, path_recall_step, path_release_step}
use Rattle.fs_path.specs.Tables.{first_in}

-- ## A move

-- all that it has below the prefix is gone, and known to be at the other server
abbrev pub without_given : List ℕ → ℕ → Server → Server
without_given prefix to s = record s {
  records = records_left prefix (piece_of s.map s.me prefix) s.records;
  rows = rows_left prefix (piece_of s.map s.me prefix) s.rows;
  map = map_after_give s.map s.me prefix to;
}

abbrev pub hands_over : List ℕ → ℕ → Server → Stepped
hands_over prefix to s = record {
  server = without_given prefix to s;
  out = record {
    note = note.Moves prefix to;
    send = (OfServer to, msg.Peer (peer.Parcel (parcel_of s.records s.rows s.map s.me prefix))) ∷ [];
    admitted = [];
  };
}

-- why it stays, as it is noted (want of memory is no such cause, and never comes here)
abbrev pub refusal_of : MoveError → Refusal
refusal_of (move.NotMine prefix to) = refusal.NotMine prefix to
refusal_of move.NoFile = refusal.NoFile
refusal_of move.Same = refusal.Same
refusal_of (move.Busy txn) = refusal.Busy txn
refusal_of (move.Paths number) = refusal.Paths number
refusal_of move.Memory = refusal.NoFile

-- where paths go over what is to go they are asked back
abbrev pub move_at : Option MoveError → List ℕ → ℕ → Server → Stepped
move_at None prefix to s = hands_over prefix to s
move_at (Some (move.Paths number)) prefix to s = asks_back_in prefix (note.Stays (refusal.Paths number)) s
move_at (Some why) prefix to s = only_noted (note.Stays (refusal_of why)) s

abbrev pub move_step : List ℕ → ℕ → Server → Stepped
move_step prefix to s = move_at (move_refusal s.records s.rows s.map s.me prefix to (first_in s.map s.me prefix s.paths)) prefix to s

-- ## A parcel

-- the row's number is another server's, or was given here
abbrev pub was_given : ℕ → ℕ → Row → Bool
was_given me given r = not (r.no.server == me) || (nat_le 1 r.no.count && nat_le r.no.count given)

-- an honest server sends it
abbrev pub fits_here : Parcel → Server → Bool
fits_here p s = fits s.records s.rows s.map s.me p && list_all (was_given s.me s.given) p.rows

-- all of it is here
abbrev pub installed : Parcel → Server → Server
installed p s = record s {
  records = with_records p.records s.records;
  rows = with_rows p.rows s.rows;
  map = map_after_take s.map s.me p.prefix p.piece.given;
}

abbrev pub parcel_at : Bool → Parcel → Server → Stepped
parcel_at true p s = only_noted (note.Installs p.prefix) (installed p s)
parcel_at false p s = strange s

-- what a message of another server comes to
abbrev pub peer_step : ℕ → PeerMsg → Server → Stepped
peer_step from (peer.Parcel p) s = parcel_at (fits_here p s) p s
peer_step from (peer.Prepare m) s = prepare_step from m s
peer_step from (peer.Vote m) s = vote_step m s
peer_step from (peer.Decide m) s = decide_step from m s
peer_step from (peer.Done m) s = done_step m s
peer_step from (peer.PathAsk file dir) s = path_ask_step from file dir s
peer_step from (peer.PathGrant number file path) s = path_grant_step from number file path s
peer_step from (peer.PathNo file w) s = path_no_step file w s
peer_step from (peer.PathRecall number) s = path_recall_step number s
peer_step from (peer.PathRelease number) s = path_release_step from number s
