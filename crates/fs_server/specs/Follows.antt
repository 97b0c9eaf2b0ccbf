-- The parts of deletes and renames that other servers lead.
use Rattle.std.specs.Prelude.{ℕ, List, [], ◌∷◌, ◌++◌, map, Option, Some, None, if◌then◌else◌}
use Rattle.fs_ident.specs.declared.actor.PathNo.{PathNo}
use Rattle.fs_ident.specs.declared.actor.Peer.{Peer}
use Rattle.fs_ident.specs.declared.actor.Peer.TheVariants.{Server as OfServer}
use Rattle.fs_ident.specs.declared.actor.Session.{Session}
use Rattle.fs_ident.specs.declared.actor.TxnNo.{TxnNo}
use Rattle.fs_field.specs.declared.used.Part.{Part}
use Rattle.fs_field.specs.declared.vote.Vote.{Vote}
use Rattle.fs_field.specs.declared.vote.Vote.TheVariants.{Yes, PathsOut}
use Rattle.fs_map.specs.Map.{longest}
use Rattle.fs_msg.specs.declared.decide.Decide.{Decide}
use Rattle.fs_msg.specs.declared.msg.Msg.{Msg}
use Rattle.fs_msg.specs.declared.msg.Msg.TheVariants as msg
use Rattle.fs_msg.specs.declared.peer_msg.PeerMsg.{PeerMsg}
use Rattle.fs_msg.specs.declared.peer_msg.PeerMsg.TheVariants as peer
use Rattle.fs_msg.specs.declared.prepare.Prepare.{Prepare}
use Rattle.fs_msg.specs.declared.server_note.ServerNote.TheVariants as note
use Rattle.fs_path.specs.Leases.{goes_over}
use Rattle.fs_path.specs.Returns.{recalls, without_txn}
use Rattle.fs_path.specs.Tables.{PathTables, through, with_frozen}
use Rattle.fs_txn.specs.Preparing.{moved_to, rows_locked, vote_by}
use Rattle.fs_txn.specs.Ready.{is_awaited, records_decided, rows_left_by, without_prepared}
pub use Rattle.fs_txn.specs.Ready.{is_prepared}
use Rattle.fs_txn.specs.declared.ready.Ready.{Ready}
use Rattle.fs_server.specs.Server.{Stepped, is_mine, strange}
use Rattle.fs_server.specs.Ships.{first_gone}
use Rattle.fs_server.specs.declared.state.Server.{Server}

-- a message to another server
abbrev pub to_server : ℕ → PeerMsg → Peer × Msg
to_server at m = (OfServer at, msg.Peer m)

-- ## A vote

-- the least path lease given out here that goes over the file which the part keeps
abbrev pub path_in_the_way : Server → Option (List ℕ) → Option PathNo
path_in_the_way s None = None
path_in_the_way s (Some file) = through file s.paths.issued

-- the file is elsewhere, or a lease has no row, or a path goes over a file that the part keeps; else Yes
abbrev pub vote_here : Server → Session → Part → Vote
vote_here s by p =
    if is_mine s p.file then vote_by (first_gone s.rows by p.uses) (path_in_the_way s p.freeze) s.last else moved_to (longest s.map p.file)

-- each of the path leases is asked back of its server
abbrev pub path_recalls : List (ℕ × PathNo) → List (Peer × Msg)
path_recalls leases = map (λ (x : ℕ × PathNo). to_server x.0 (peer.PathRecall x.1)) leases

-- those over the file
abbrev pub recalls_over : Server → Option (List ℕ) → List (Peer × Msg)
recalls_over s None = []
recalls_over s (Some file) = path_recalls (recalls (goes_over file) s.paths.issued)

-- where such a path is in the way, all of them are asked back
abbrev pub recalls_for : Vote → Server → Part → List (Peer × Msg)
recalls_for (PathsOut lease) s p = recalls_over s p.freeze
recalls_for v s p = []

-- the transaction keeps the file that the part names
abbrev pub paths_kept : TxnNo → Option (List ℕ) → PathTables → PathTables
paths_kept txn None t = t
paths_kept txn (Some file) t = record t { frozen = with_frozen file txn t.frozen }

-- the transaction keeps no file any more
abbrev pub paths_freed : TxnNo → PathTables → PathTables
paths_freed txn t = record t { frozen = without_txn txn t.frozen }

abbrev pub ready_of : Prepare → Ready
ready_of m = record { txn = m.txn; number = m.number; session = m.session; part = m.part }

-- the part waits for its decision, and the transaction keeps the rows of its leases, and its file
abbrev pub with_part : Ready → Server → Server
with_part x s = record s {
  rows = rows_locked x.txn x.part.uses s.rows;
  prepared = s.prepared ++ x ∷ [];
  paths = paths_kept x.txn x.part.freeze s.paths;
}

-- exactly where the vote is Yes
abbrev pub after_vote : Vote → Ready → Server → Server
after_vote Yes x s = with_part x s
after_vote vote x s = s

abbrev pub votes : Vote → ℕ → Prepare → Server → Stepped
votes vote from m s = record {
  server = after_vote vote (ready_of m) s;
  out = record {
    note = note.Votes m.txn vote;
    send = to_server from (peer.Vote (record { txn = m.txn; number = m.number; vote = vote })) ∷ recalls_for vote s m.part;
    admitted = [];
  };
}

-- another server asks whether the part is ready; none asks so of a part that is
abbrev pub prepare_step : ℕ → Prepare → Server → Stepped
prepare_step from m s = if is_prepared m.txn m.number s.prepared then strange s else votes (vote_here s m.session m.part) from m s

-- ## A decision

-- unless another part of the transaction waits here, it keeps no file any more
abbrev pub paths_left_by : TxnNo → List Ready → PathTables → PathTables
paths_left_by txn left t = if is_awaited txn left then t else paths_freed txn t

-- the part waits no more, its effects are applied, and the transaction's rows are unlocked unless another of its parts waits here
abbrev pub after_decision : Decide → Server → Server
after_decision m s = record s {
  records = records_decided m.effects s.records;
  rows = rows_left_by m.txn (without_prepared m.txn m.number s.prepared) s.rows;
  prepared = without_prepared m.txn m.number s.prepared;
  paths = paths_left_by m.txn (without_prepared m.txn m.number s.prepared) s.paths;
}

abbrev pub applies : ℕ → Decide → Server → Stepped
applies from m s = record {
  server = after_decision m s;
  out = record {
    note = note.Applies m.txn;
    send = to_server from (peer.Done (record { txn = m.txn; number = m.number })) ∷ [];
    admitted = [];
  };
}

-- another server tells what the part does; where nothing is done, it tells no effects
abbrev pub decide_step : ℕ → Decide → Server → Stepped
decide_step from m s = if is_prepared m.txn m.number s.prepared then applies from m s else strange s
