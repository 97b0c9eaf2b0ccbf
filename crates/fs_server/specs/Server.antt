-- A server, and what every event begins with.
use Rattle.std.specs.Prelude.{ℕ, ◌+◌, ◌==◌, max, Bool, List, [], filter, Option, Some, None}
use Rattle.fs_ident.specs.declared.actor.LeaseNo.{LeaseNo}
use Rattle.fs_ident.specs.declared.actor.Session.{Session}
use Rattle.fs_ident.specs.declared.actor.Peer.{Peer}
use Rattle.fs_ident.specs.declared.actor.Peer.TheVariants.{Client}
use Rattle.fs_field.specs.Table.{is_live}
use Rattle.fs_map.specs.Map.{first_map, longest, server_of}
use Rattle.fs_msg.specs.declared.answer.Answer.{Answer}
use Rattle.fs_msg.specs.declared.end.End.{End}
use Rattle.fs_msg.specs.declared.end.End.TheVariants.{Moved}
use Rattle.fs_msg.specs.declared.msg.Msg.{Msg}
use Rattle.fs_msg.specs.declared.msg.Msg.TheVariants as msg
use Rattle.fs_msg.specs.declared.server_note.ServerNote.{ServerNote}
use Rattle.fs_msg.specs.declared.server_note.ServerNote.TheVariants as note
use Rattle.fs_path.specs.Tables.{no_paths}
use Rattle.fs_record.specs.Records.{first_records}
use Rattle.fs_server.specs.declared.out.ServerOut.{ServerOut}
use Rattle.fs_server.specs.declared.state.Server.{Server}

-- the server after the event, and what comes of it
pub record Stepped : Type 0 where
  pub server : Server
  pub out : ServerOut

-- the first server has the root directory, no other has a record; each knows that everything is at the first
abbrev pub first_server : ℕ → ℕ → ℕ → Server
first_server me skew term = record {
  me = me;
  skew = skew;
  term = term;
  last = 0;
  given = 0;
  reaps = 0;
  txns = 0;
  rows = [];
  records = first_records (me == 0);
  map = first_map;
  prepared = [];
  leading = [];
  ending = [];
  paths = no_paths;
  asking = [];
  paths_given = 0;
}

-- the reading of the event is the greatest so far, and the rows that are over at it are dropped
abbrev pub begun : ℕ → Server → Server
begun now s = record s { last = max s.last now; rows = filter (is_live (max s.last now) s.skew) s.rows }

-- the number of the next lease, and the reading at which a lease that is given now ends
abbrev pub next_number : Server → LeaseNo
next_number s = record { server = s.me; count = s.given + 1 }

abbrev pub end_of : Server → ℕ
end_of s = s.last + s.term

-- ## What is managed here

-- the server manages the identifier
abbrev pub is_mine : Server → List ℕ → Bool
is_mine s id = server_of s.map id == s.me

-- it is said to be where the entry tells
abbrev pub moved_at : Option (List ℕ × ℕ) → End
moved_at None = Moved [] 0
moved_at (Some e) = Moved e.0 e.1

-- by the longest prefix that the map lists
abbrev pub moved : Server → List ℕ → End
moved s id = moved_at (longest s.map id)

-- ## Messages

-- a message to a session
abbrev pub to_session : Session → Answer → Peer × Msg
to_session by a = (Client by, msg.Answer a)

-- nothing is sent and nothing admitted
abbrev pub only_noted : ServerNote → Server → Stepped
only_noted n s = record { server = s; out = record { note = n; send = []; admitted = [] } }

abbrev pub strange : Server → Stepped
strange s = only_noted note.Strange s
