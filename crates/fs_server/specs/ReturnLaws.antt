-- What the laws of path leases say that are asked back.
use Rattle.std.specs.Prelude.{◌≡◌, ◌⊎◌, ℕ, Bool, true, false, List, Some}
use Rattle.fs_ident.specs.In.{In}
use Rattle.fs_ident.specs.declared.actor.Peer.{Peer}
use Rattle.fs_ident.specs.declared.actor.PathNo.{PathNo}
use Rattle.fs_msg.specs.declared.msg.Msg.{Msg}
use Rattle.fs_msg.specs.declared.peer_msg.PeerMsg.{PeerMsg}
use Rattle.fs_msg.specs.declared.peer_msg.PeerMsg.TheVariants as peer
use Rattle.fs_parcel.specs.Parcel.{move_refusal}
use Rattle.fs_parcel.specs.declared.error.MoveError.TheVariants as move
use Rattle.fs_path.specs.Leases.{PathLease}
use Rattle.fs_path.specs.Returns.{goes_back, is_asked_in, is_into}
use Rattle.fs_path.specs.Tables.{first_in, lease_of}
use Rattle.fs_path.specs.declared.having.Having.{Having}
use Rattle.fs_server.specs.Follows.{to_server}
use Rattle.fs_server.specs.declared.state.Server.{Server}

-- no record, no row, and no server of a file is another one afterwards
abbrev pub KeepsFiles : Server → Server → Type 0
KeepsFiles before after = (after.records ≡ before.records) × (after.rows ≡ before.rows) × (after.map ≡ before.map)

-- the message is about path leases
abbrev pub is_of_paths : PeerMsg → Bool
is_of_paths (peer.PathAsk file dir) = true
is_of_paths (peer.PathGrant number file path) = true
is_of_paths (peer.PathNo file w) = true
is_of_paths (peer.PathRecall number) = true
is_of_paths (peer.PathRelease number) = true
is_of_paths m = false

-- what the server has below the prefix does not go to that other, since the path of that lease goes over it
abbrev pub StaysForPaths : List ℕ → ℕ → PathNo → Server → Type 0
StaysForPaths prefix to number s =
    move_refusal s.records s.rows s.map s.me prefix to (first_in s.map s.me prefix s.paths) ≡ Some (move.Paths number)

-- the lease, which was given out, is asked back
abbrev pub IsAskedBack : PathLease → List (Peer × Msg) → Type 0
IsAskedBack l sent = In (to_server l.peer (peer.PathRecall l.no)) sent

-- the lease from another server goes back to it
abbrev pub IsGivenBack : PathLease → List (Peer × Msg) → Type 0
IsGivenBack l sent = In (to_server l.peer (peer.PathRelease l.no)) sent

-- the message asks a lease back that goes over what is to go, or rests on one that does; or it gives one back that does,
-- and on which none rests
abbrev pub IsReturn : List ℕ → Peer × Msg → Server → Type 0
IsReturn prefix m s =
    ((l : PathLease) × In l s.paths.issued × (is_asked_in s.map s.me prefix s.paths.held l ≡ true) ×
    (m ≡ to_server l.peer (peer.PathRecall l.no))) ⊎
    ((h : Having) × In h s.paths.held × (goes_back (is_into s.map s.me prefix) s.paths.issued h ≡ true) ×
    (m ≡ to_server (lease_of h).peer (peer.PathRelease (lease_of h).no)))
