-- A transaction begins: its parts that are here vote at once, and others are asked for.
use Rattle.std.specs.Prelude.{ℕ, ◌+◌, List, [], ◌∷◌, ◌++◌, Option, Some, None, if◌then◌else◌}
use Rattle.fs_ident.specs.declared.actor.Peer.{Peer}
use Rattle.fs_ident.specs.declared.actor.Session.{Session}
use Rattle.fs_ident.specs.declared.actor.TxnNo.{TxnNo}
use Rattle.fs_field.specs.declared.used.Part.{Part}
use Rattle.fs_field.specs.declared.vote.Vote.{Vote}
use Rattle.fs_field.specs.declared.path.PathAnswer.{PathAnswer}
use Rattle.fs_map.specs.Map.{server_of}
use Rattle.fs_msg.specs.declared.lead.Lead.{Lead}
use Rattle.fs_msg.specs.declared.msg.Msg.{Msg}
use Rattle.fs_msg.specs.declared.server_note.ServerNote.TheVariants as note
use Rattle.fs_txn.specs.Parts.{parts_of}
use Rattle.fs_txn.specs.Votes.{Votes}
use Rattle.fs_txn.specs.declared.leader.Leader.{Leader}
use Rattle.fs_txn.specs.declared.mode.Mode2.{Mode2}
use Rattle.fs_server.specs.Concludes.{goes_on, path_for}
use Rattle.fs_server.specs.Counts.{after_own_vote, ask_for}
use Rattle.fs_server.specs.Follows.{recalls_for, to_server, vote_here}
use Rattle.fs_server.specs.Server.{Stepped, is_mine}
use Rattle.fs_server.specs.declared.state.Server.{Server}

-- its parts, each with the leases on its file
abbrev pub parts_in : Mode2 → Lead → List Part
parts_in mode m = parts_of m.op m.file m.uses mode

-- the number of the next transaction
abbrev pub txn_of : Server → TxnNo
txn_of s = record { server = s.me; count = s.txns + 1 }

-- ## Its parts, one by one

-- what became of the first parts: the server, their votes, whom they were asked of, and what is sent
pub record Round : Type 0 where
  pub server : Server
  pub votes : Votes
  pub at : List ℕ
  pub send : List (Peer × Msg)

-- a part that is here votes at once; where a path is in the way, those are asked back
abbrev pub own_part : TxnNo → Part → Vote → Round → Round
own_part txn p v r = record {
  server = after_own_vote txn p v r.server;
  votes = r.votes ++ Some v ∷ [];
  at = r.at ++ r.server.me ∷ [];
  send = r.send ++ recalls_for v r.server p;
}

-- any other is asked for
abbrev pub asked_part : TxnNo → ℕ → Session → Part → ℕ → Round → Round
asked_part txn number by p to r = record {
  server = r.server;
  votes = r.votes ++ None ∷ [];
  at = r.at ++ to ∷ [];
  send = r.send ++ to_server to (ask_for txn number by p) ∷ [];
}

abbrev pub part_round : TxnNo → ℕ → Session → Part → Round → Round
part_round txn number by p r =
    if is_mine r.server p.file then own_part txn p (vote_here r.server by p) r
    else asked_part txn number by p (server_of r.server.map p.file) r

-- the parts in order, the first with this number
abbrev pub rounds : TxnNo → ℕ → Session → List Part → Round → Round
rounds txn number by [] r = r
rounds txn number by (p ∷ ps) r = rounds txn (number + 1) by ps (part_round txn number by p r)

-- a transaction more
abbrev pub first_round : Server → Round
first_round s = record { server = record s { txns = s.txns + 1 }; votes = []; at = []; send = [] }

abbrev pub round_of : Mode2 → Session → Lead → Server → Round
round_of mode by m s = rounds (txn_of s) 0 by (parts_in mode m) (first_round s)

abbrev pub leader_with : Mode2 → TxnNo → Session → Lead → Votes → Leader
leader_with mode txn by m votes = record {
  txn = txn;
  session = by;
  n = m.n;
  op = m.op;
  file = m.file;
  parts = parts_in mode m;
  mode = mode;
  votes = votes;
}

abbrev pub begun_with : Mode2 → Session → Lead → TxnNo → Round → Option PathAnswer → Stepped
begun_with mode by m txn r path =
    goes_on (note.Prepares txn) (record { leader = leader_with mode txn by m r.votes; at = r.at }) path r.send r.server

-- every part votes or is asked for; where all have voted it is decided
abbrev pub begins : Mode2 → Session → Lead → Server → Stepped
begins mode by m s = begun_with mode by m (txn_of s) (round_of mode by m s) (path_for mode m.op s)
