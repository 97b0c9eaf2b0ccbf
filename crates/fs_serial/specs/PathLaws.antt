-- What the laws of paths say.
use Rattle.std.specs.Prelude.{◌≡◌, ◌≢◌, ℕ, true, List, reverse, Some, None, slice_get}
use Rattle.fs_ident.specs.In.{In}
use Rattle.fs_ident.specs.declared.kind.Kind.TheVariants.{Dir}
use Rattle.fs_field.specs.declared.path.PathAnswer.TheVariants.{Path}
use Rattle.fs_field.specs.declared.used.Use.{Use}
use Rattle.fs_model.specs.Ancestors.{is_on_chain}
use Rattle.fs_msg.specs.declared.peer_msg.PeerMsg.{PeerMsg}
use Rattle.fs_msg.specs.declared.peer_msg.PeerMsg.TheVariants.{Parcel as OfParcel, PathAsk, PathGrant, PathNo as Denied, PathRecall, PathRelease}
use Rattle.fs_msg.specs.declared.server_note.ServerNote.{ServerNote}
use Rattle.fs_msg.specs.declared.server_note.ServerNote.TheVariants as note
use Rattle.fs_record.specs.Records.{nodes_of}
use Rattle.fs_record.specs.declared.parcel.Parcel.{Parcel}
use Rattle.fs_server.specs.Moves.{installed, move_step, peer_step}
use Rattle.fs_server.specs.PathSteps.{asks_back_in, dir_here, path_here}
use Rattle.fs_server.specs.Server.{Stepped, only_noted}
use Rattle.fs_server.specs.declared.event.ServerEvent.{ServerEvent}
use Rattle.fs_server.specs.declared.event.ServerEvent.TheVariants.{FromPeer, Move}
use Rattle.fs_server.specs.declared.state.Server.{Server}
use Rattle.fs_txn.specs.Deciding.{first_end, has_file}
use Rattle.fs_txn.specs.Parts.{parts_of, source_of}
use Rattle.fs_txn.specs.declared.leading.Leading.{Leading}
use Rattle.fs_txn.specs.declared.mode.Mode2.TheVariants.{Freeze}
use Rattle.fs_serial.specs.Cluster.{Cluster, IsThere, after_step}
use Rattle.fs_serial.specs.Fresh.{made}
use Rattle.fs_serial.specs.KeptFiles.{FilesKept}
use Rattle.fs_serial.specs.Paths.{BeginsWith, IsChainUp, IsOnPath, LeavesPaths, PathsHold, PathsStand, has_record, is_kept}
use Rattle.fs_serial.specs.Places.{PlacesHold}
use Rattle.fs_serial.specs.Runs.{held_by}
use Rattle.fs_serial.specs.Seen.{ClusterHolds}

-- ## What paths rest on

-- all that holds between events, and the files that servers keep, are what paths rest on
abbrev pub WhatPathsRestOn : Type 0
WhatPathsRestOn = (skew greatest : ℕ) (c : Cluster) → ClusterHolds skew greatest c → FilesKept c → PathsStand c

-- ## Paths that are taken

-- a path that a server takes of a directory that it has is its chain
abbrev pub TakenIsTrue : Type 0
TakenIsTrue =
    (c : Cluster) (k : ℕ) (s : Server) (file : List ℕ) (path : List (List ℕ)) → PathsStand c → PathsHold c → slice_get c.servers k ≡ Some s
    → made c.journal file ≡ Some Dir → has_record s file ≡ true → path_here s file ≡ Path path
    → IsChainUp (held_by c) (reverse path) × BeginsWith file (reverse path)

-- so it tells which renames would make a cycle: those of a file on it
abbrev pub TakenTellsCycles : Type 0
TakenTellsCycles =
    (c : Cluster) (k : ℕ) (s : Server) (file dir : List ℕ) (path : List (List ℕ)) → PathsStand c → PathsHold c
    → slice_get c.servers k ≡ Some s
    → made c.journal dir ≡ Some Dir → has_record s dir ≡ true → path_here s dir ≡ Path path
    → has_file path file ≡ is_on_chain (nodes_of (held_by c)) file dir

-- ## Files that are kept

-- where the server of a file's directory keeps the file for a transaction, no path that any server gave out goes over it
abbrev pub KeptIsOnNone : Type 0
KeptIsOnNone =
    (c : Cluster) (k : ℕ) (s : Server) (file dir : List ℕ) → PathsStand c → PathsHold c → slice_get c.servers k ≡ Some s
    → dir_here (held_by c) file ≡ Some dir → has_record s dir ≡ true → is_kept s file ≡ true → IsOnPath c.servers file → ⊥

-- the server keeps the file, which stands in this directory, whose record it has
pub record IsKeptThere (c : Cluster) (file dir : List ℕ) : Type 0 where
  pub place : ℕ
  pub server : Server
  pub there : slice_get c.servers place ≡ Some server
  pub stands : dir_here (held_by c) file ≡ Some dir
  pub has : has_record server dir ≡ true
  pub kept : is_kept server file ≡ true

-- where all parts of a transaction that freezes said Yes, the server of the directory that loses a name keeps the file
abbrev pub KeptAtSource : Type 0
KeptAtSource =
    (skew greatest : ℕ) (c : Cluster) → ClusterHolds skew greatest c → FilesKept c → (s : Server) → In s c.servers
    → (l : Leading) → In l s.leading → first_end l.leader.votes ≡ None → (uses : List Use)
    → l.leader.parts ≡ parts_of l.leader.op l.leader.file uses Freeze → IsKeptThere c l.leader.file (source_of l.leader.op)

-- ## Steps

abbrev pub IsPathMessage : PeerMsg → Type 0
IsPathMessage (PathAsk file dir) = Unit {0}
IsPathMessage (PathGrant number file path) = Unit {0}
IsPathMessage (Denied file w) = Unit {0}
IsPathMessage (PathRecall number) = Unit {0}
IsPathMessage (PathRelease number) = Unit {0}
IsPathMessage m = ⊥

-- a server that takes a message on paths
abbrev pub after_path : ℕ → ℕ → PeerMsg → Server → Cluster → Cluster
after_path k from m s c = after_step k (FromPeer from m) (peer_step from m s) c

abbrev pub PathMessageKeeps : Type 0
PathMessageKeeps =
    (c : Cluster) (k from : ℕ) (s : Server) (m : PeerMsg) → PathsStand c → PathsHold c → slice_get c.servers k ≡ Some s → s.me ≡ k
    → IsThere k (FromPeer from m) c → IsPathMessage m → PathsHold (after_path k from m s c)

-- and none of them is strange
abbrev pub NoPathIsStrange : Type 0
NoPathIsStrange =
    (c : Cluster) (k from : ℕ) (s : Server) (m : PeerMsg) → PathsHold c → slice_get c.servers k ≡ Some s
    → IsThere k (FromPeer from m) c → IsPathMessage m → (peer_step from m s).out.note ≢ note.Strange

-- a server that asks back all paths over what was to go
abbrev pub AskingBackKeeps : Type 0
AskingBackKeeps =
    (c : Cluster) (k to : ℕ) (s : Server) (prefix : List ℕ) (n : ServerNote) → PathsHold c → slice_get c.servers k ≡ Some s → s.me ≡ k
    → PathsHold (after_step k (Move prefix to) (asks_back_in prefix n s) c)

-- every other kind of step
abbrev pub OtherStepsKeep : Type 0
OtherStepsKeep =
    (c : Cluster) (k : ℕ) (e : ServerEvent) (s : Server) (x : Stepped) → PathsHold c → slice_get c.servers k ≡ Some s
    → LeavesPaths k e s x c (after_step k e x c) → PathsHold (after_step k e x c)

-- ## Files that move between servers

-- a server that is to hand over what it has below a prefix, whether it does or not: what goes is on none of its paths
abbrev pub MoveKeepsPaths : Type 0
MoveKeepsPaths =
    (c : Cluster) (k to : ℕ) (s : Server) (prefix : List ℕ) → PlacesHold c → PathsHold c → slice_get c.servers k ≡ Some s
    → PathsHold (after_step k (Move prefix to) (move_step prefix to s) c)

-- a parcel that a server takes: what its paths rest on goes on at another server, which has the record of the next file
abbrev pub InstallKeepsPaths : Type 0
InstallKeepsPaths =
    (c : Cluster) (k from : ℕ) (s : Server) (p : Parcel) → PlacesHold c → PathsHold c → slice_get c.servers k ≡ Some s
    → IsThere k (FromPeer from (OfParcel p)) c
    → PathsHold (after_step k (FromPeer from (OfParcel p)) (only_noted (note.Installs p.prefix) (installed p s)) c)
