-- The paths that servers give out, have from others and take, over what all servers hold together. Where a list of files is said to go
-- up, it begins with a file, and ends with the root.
use Rattle.std.specs.Prelude.{◌≡◌, ◌≢◌, ◌≤◌, ◌+◌, ◌⊎◌, ℕ, Bool, true, false, List, [], ◌∷◌, length, reverse, Option, Some, None, is_some, slice_get, if◌then◌else◌}
use Rattle.std.specs.FinMap.{get}
use Rattle.std.specs.List.{filter, find, flat_map}
use Rattle.fs_ident.specs.In.{In}
use Rattle.fs_ident.specs.declared.actor.PathNo.{PathNo}
use Rattle.fs_ident.specs.declared.kind.Kind.TheVariants.{Dir}
use Rattle.fs_msg.specs.declared.peer_msg.PeerMsg.{PeerMsg}
use Rattle.fs_msg.specs.declared.peer_msg.PeerMsg.TheVariants.{PathAsk, PathGrant, PathNo as Denied, PathRelease}
use Rattle.fs_msg.specs.declared.item.Item.{Item}
use Rattle.fs_path.specs.Laws.{AreGiven}
use Rattle.fs_path.specs.Leases.{PathLease, has_no, same_path_no}
use Rattle.fs_path.specs.Returns.{is_of}
use Rattle.fs_path.specs.Tables.{frozen_for, lease_of, through}
use Rattle.fs_path.specs.declared.having.Having.{Having}
use Rattle.fs_record.specs.Records.{RecordMap}
use Rattle.fs_server.specs.PathSteps.{dir_here, has_child}
use Rattle.fs_server.specs.Server.{Stepped}
use Rattle.fs_server.specs.declared.event.ServerEvent.{ServerEvent}
use Rattle.fs_server.specs.declared.state.Server.{Server}
use Rattle.fs_serial.specs.Cluster.{Cluster, InFlight, in_flight_from, without_arrived}
use Rattle.fs_serial.specs.Fresh.{made}
use Rattle.fs_serial.specs.Runs.{held_by}

-- ## Chains

-- each file stands in the one behind it, and the last one in none
abbrev pub IsChainUp : RecordMap → List (List ℕ) → Type 0
IsChainUp m [] = ⊥
IsChainUp m (f ∷ []) = dir_here m f ≡ None
IsChainUp m (f ∷ d ∷ ds) = (dir_here m f ≡ Some d) × IsChainUp m (d ∷ ds)

abbrev pub BeginsWith : List ℕ → List (List ℕ) → Type 0
BeginsWith f [] = ⊥
BeginsWith f (g ∷ gs) = g ≡ f

-- the files of the lease, from its own up
abbrev pub upwards : PathLease → List (List ℕ)
upwards l = reverse l.path

-- ## One server

-- the file's record is here
abbrev pub has_record : Server → List ℕ → Bool
has_record s file = is_some (get s.records file)

-- a transaction keeps the file
abbrev pub is_kept : Server → List ℕ → Bool
is_kept s file = is_some (frozen_for file s.paths.frozen)

-- the files from the first one up, as long as their records are here
abbrev pub run_up : Server → List (List ℕ) → List (List ℕ)
run_up s [] = []
run_up s (f ∷ fs) = if has_record s f then f ∷ run_up s fs else []

-- the way up from the topmost of them, where that is not the root
abbrev pub rests_from : Server → List (List ℕ) → Option (List (List ℕ))
rests_from s [] = None
rests_from s (f ∷ []) = None
rests_from s (f ∷ d ∷ ds) = if has_record s d then rests_from s (d ∷ ds) else Some (f ∷ d ∷ ds)

-- a lease from another server has these files, leaving or not
pub record HoldsPath (s : Server) (files : List (List ℕ)) : Type 0 where
  pub lease : Having
  pub held : In lease s.paths.held
  pub path : upwards (lease_of lease) ≡ files

-- the directory of the first file is here, and what the way up rests on is held
abbrev pub IsSupported : Server → List (List ℕ) → Type 0
IsSupported s [] = ⊥
IsSupported s (f ∷ []) = ⊥
IsSupported s (f ∷ d ∷ ds) = (has_record s d ≡ true) × ((files : List (List ℕ)) → rests_from s (d ∷ ds) ≡ Some files → HoldsPath s files)

-- neither the first file nor one of the run above it is that one
abbrev pub Avoids : Server → List ℕ → List (List ℕ) → Type 0
Avoids s f [] = Unit {0}
Avoids s f (g ∷ gs) = (g ≢ f) × (In f (run_up s gs) → ⊥)

-- a lease that the server gave out: it is true, and of directories; what it rests on is held; and it avoids what is kept
pub record IsTruePath (m : RecordMap) (journal : List Item) (s : Server) (l : PathLease) : Type 0 where
  pub begins : BeginsWith l.file (upwards l)
  pub chain : IsChainUp m (upwards l)
  pub dirs : (f : List ℕ) → In f l.path → made journal f ≡ Some Dir
  pub supported : IsSupported s (upwards l)
  pub avoids : (f : List ℕ) → is_kept s f ≡ true → Avoids s f (upwards l)

-- ## Who has a lease

-- the message brings the lease of the number, or gives it back
abbrev pub has_path : PathNo → PeerMsg → Bool
has_path number (PathGrant its file path) = same_path_no its number
has_path number (PathRelease its) = same_path_no its number
has_path number m = false

abbrev pub held_by_all : List Server → List Having
held_by_all servers = flat_map (λ (s : Server). s.paths.held) servers

-- how many have it: messages on their way, and servers
abbrev pub holders : PathNo → List Server → List InFlight → ℕ
holders number servers in_flight =
    length (filter (λ (f : InFlight). has_path number f.message) in_flight) + length (filter (is_of number) (held_by_all servers))

-- the server has given the lease out, to the peer that it names
pub record IsOut (c : Cluster) (from : ℕ) (l : PathLease) : Type 0 where
  pub server : Server
  pub there : slice_get c.servers from ≡ Some server
  pub issued : In l server.paths.issued

-- a message on path leases speaks of directories, and brings or gives back what is given out
abbrev pub SaysPath : Cluster → ℕ → ℕ → PeerMsg → Type 0
SaysPath c from to (PathAsk file dir) = made c.journal file ≡ Some Dir
SaysPath c from to (Denied file w) = made c.journal file ≡ Some Dir
SaysPath c from to (PathGrant number file path) = IsOut c from (record { no = number; peer = to; file = file; path = path })
SaysPath c from to (PathRelease number) = (l : PathLease) × ((l.no ≡ number) × ((l.peer ≡ from) × IsOut c to l))
SaysPath c from to m = Unit {0}

-- ## What paths rest on

-- directories are in directories; each record is in one place; and a directory's record, or what a record says of one below it, tells
-- where it stands in what all hold together, unless a transaction keeps it there
pub record PathsStand (c : Cluster) : Type 0 where
  pub dirs : (f d : List ℕ) → dir_here (held_by c) f ≡ Some d → made c.journal d ≡ Some Dir
  pub one : (j k : ℕ) (s t : Server) (f : List ℕ) → slice_get c.servers j ≡ Some s → slice_get c.servers k ≡ Some t
      → has_record s f ≡ true → has_record t f ≡ true → j ≡ k
  pub placed : (k : ℕ) (s : Server) (f : List ℕ) → slice_get c.servers k ≡ Some s → made c.journal f ≡ Some Dir → has_record s f ≡ true
      → is_kept s f ≡ false → dir_here s.records f ≡ dir_here (held_by c) f
  pub listed : (k : ℕ) (s : Server) (f d : List ℕ) → slice_get c.servers k ≡ Some s → made c.journal f ≡ Some Dir
      → has_child s.records d f ≡ true → is_kept s f ≡ false → dir_here (held_by c) f ≡ Some d

-- ## Together

pub record PathsHold (c : Cluster) : Type 0 where
  -- each server stands at the place of its number
  pub numbered : (k : ℕ) (s : Server) → slice_get c.servers k ≡ Some s → s.me ≡ k
  -- each lease has a number of its own, which its server gave
  pub given : (s : Server) → In s c.servers → AreGiven s.me s.paths_given s.paths.issued
  pub single : (s : Server) → In s c.servers → (l : PathLease) → In l s.paths.issued → find (has_no l.no) s.paths.issued ≡ Some l
  -- what is on its way or had was given out, and each lease is in one place
  pub says : (f : InFlight) → In f c.in_flight → SaysPath c f.from f.to f.message
  pub held : (k : ℕ) (s : Server) → slice_get c.servers k ≡ Some s → (h : Having) → In h s.paths.held
      → IsOut c (lease_of h).peer (record (lease_of h) { peer = k })
  pub once : (number : PathNo) → holders number c.servers c.in_flight ≤ 1
  -- what was given out is true
  pub truth : (s : Server) → In s c.servers → (l : PathLease) → In l s.paths.issued → IsTruePath (held_by c) c.journal s l

-- ## Every other kind of step

-- the file is on a path that a server gave out
pub record IsOnPath (servers : List Server) (file : List ℕ) : Type 0 where
  pub server : Server
  pub here : In server servers
  pub lease : PathLease
  pub issued : In lease server.paths.issued
  pub among : In file lease.path

-- the server's leases stay as they are; it keeps no more files but such as none of its paths goes over; no message that brings a path is
-- taken or sent, and what is sent of paths is true then; what was made stays made; and for files that paths go over all stays as it is:
-- where they stand, and which of them this server has, as far as its own paths go
pub record LeavesPaths (k : ℕ) (e : ServerEvent) (s : Server) (x : Stepped) (c later : Cluster) : Type 0 where
  pub me : x.server.me ≡ s.me
  pub issued : x.server.paths.issued ≡ s.paths.issued
  pub held : x.server.paths.held ≡ s.paths.held
  pub kept : (f : List ℕ) → is_kept x.server f ≡ true → (is_kept s f ≡ true) ⊎ (through f s.paths.issued ≡ None)
  pub given : x.server.paths_given ≡ s.paths_given
  pub sent : (f : InFlight) → In f (in_flight_from k x.out.send)
      → SaysPath later f.from f.to f.message × ((number : PathNo) → has_path number f.message ≡ false)
  pub taken : (number : PathNo) → filter (λ (f : InFlight). has_path number f.message) (without_arrived k e c.in_flight)
      ≡ filter (λ (f : InFlight). has_path number f.message) c.in_flight
  pub journal : (f : List ℕ) → made c.journal f ≡ Some Dir → made later.journal f ≡ Some Dir
  pub up : (f : List ℕ) → IsOnPath c.servers f → dir_here (held_by later) f ≡ dir_here (held_by c) f
  pub here : (l : PathLease) (f : List ℕ) → In l s.paths.issued → In f l.path → has_record x.server f ≡ has_record s f
