-- The path of a file, as the server knows it, and what is asked for where a lease is wanted.
use Rattle.std.specs.Prelude.{ℕ, Bool, not, ◌||◌, List, [], ◌∷◌, ◌++◌, if◌then◌else◌}
use Rattle.std.specs.List.{filter, list_any}
use Rattle.fs_ident.specs.Ident.{same}
use Rattle.fs_ident.specs.declared.actor.Peer.{Peer}
use Rattle.fs_field.specs.declared.path.PathAnswer.{PathAnswer}
use Rattle.fs_map.specs.Map.{server_of}
use Rattle.fs_msg.specs.declared.msg.Msg.{Msg}
use Rattle.fs_msg.specs.declared.peer_msg.PeerMsg.TheVariants as peer
use Rattle.fs_path.specs.Walk.{path_of}
use Rattle.fs_server.specs.Follows.{to_server}
use Rattle.fs_server.specs.Server.{is_mine}
use Rattle.fs_server.specs.declared.state.Server.{Server}

-- the path of the file, as the server knows it
abbrev pub path_here : Server → List ℕ → PathAnswer
path_here s file = path_of s.paths s.records file

-- the path of the file was asked for, and no answer came yet
abbrev pub is_asking : List ℕ → Server → Bool
is_asking file s = list_any (λ f. same f file) s.asking

abbrev pub with_asking : List ℕ → Server → Server
with_asking file s = record s { asking = if is_asking file s then s.asking else s.asking ++ file ∷ [] }

abbrev pub without_asking : List ℕ → Server → Server
without_asking file s = record s { asking = filter (λ f. not (same f file)) s.asking }

-- one was asked already, or it is this server that would be
abbrev pub asks_nobody : List ℕ → List ℕ → Server → Bool
asks_nobody file dir s = is_asking file s || is_mine s dir

-- the server of the directory, by the map, is asked for the path of the file
abbrev pub asks_up : List ℕ → List ℕ → Server → List (Peer × Msg)
asks_up file dir s = if asks_nobody file dir s then [] else to_server (server_of s.map dir) (peer.PathAsk file dir) ∷ []
