-- Where each file is: with one server, or on its way to one.
use Rattle.std.specs.Prelude.{◌≡◌, ℕ, ◌+◌, ◌<◌, Bool, true, List, filter, length, slice_get, Some, None, is_some}
use Rattle.std.specs.FinMap.{get}
use Rattle.fs_ident.specs.In.{In}
use Rattle.fs_field.specs.Field.{file_of}
use Rattle.fs_field.specs.Table.{is_ordered}
use Rattle.fs_field.specs.declared.row.Row.{Row}
use Rattle.fs_field.specs.declared.vote.Vote.{Vote}
use Rattle.fs_field.specs.declared.vote.Vote.TheVariants as vote
use Rattle.fs_map.specs.Lists.{places_of}
use Rattle.fs_map.specs.Map.{IsMap, gives, server_of}
use Rattle.fs_msg.specs.declared.item.Item.{Item}
use Rattle.fs_msg.specs.declared.peer_msg.PeerMsg.{PeerMsg}
use Rattle.fs_msg.specs.declared.peer_msg.PeerMsg.TheVariants as peer
use Rattle.fs_parcel.specs.Parcel.{is_formed, is_of_given}
use Rattle.fs_record.specs.Moving.{AreEachRecords}
use Rattle.fs_record.specs.declared.led_end.Why.{Why}
use Rattle.fs_record.specs.declared.led_end.Why.TheVariants as why
use Rattle.fs_record.specs.declared.parcel.Parcel.{Parcel}
use Rattle.fs_server.specs.Server.{is_mine}
use Rattle.fs_server.specs.declared.state.Server.{Server}
use Rattle.fs_serial.specs.Cluster.{Cluster, InFlight, parcels_of}
use Rattle.fs_serial.specs.Fresh.{IsMade}
use Rattle.fs_serial.specs.Joined.{rows_of_all}

-- ## One place

-- the parcel gives the identifier
abbrev pub gives_it : List ℕ → Parcel → Bool
gives_it id p = gives p.prefix p.piece.given id

-- how many servers manage the identifier, and how many parcels give it
abbrev pub places_for : List ℕ → List Server → List Parcel → ℕ
places_for id servers parcels = length (filter (λ (s : Server). is_mine s id) servers) + length (filter (gives_it id) parcels)

-- exactly one server manages each, or exactly one parcel gives it
abbrev pub OnePlace : List Server → List Parcel → Type 0
OnePlace servers parcels = (id : List ℕ) → places_for id servers parcels ≡ 1

-- ## At its place

-- the server's map is one; it lists only what was made; and what the server has is on files that it manages
pub record IsHome (journal : List Item) (s : Server) : Type 0 where
  pub map : IsMap s.map
  pub listed : (place : List ℕ) → In place (places_of s.map) → IsMade journal place
  pub rows : (r : Row) → In r s.rows → is_mine s (file_of r.field) ≡ true
  pub records : (id : List ℕ) → is_some (get s.records id) ≡ true → is_mine s id ≡ true
  pub ordered : is_ordered s.rows ≡ true

-- the parcel is such as honest servers send
pub record IsSent (journal : List Item) (p : Parcel) : Type 0 where
  pub formed : is_formed p ≡ true
  pub given : is_of_given p ≡ true
  pub listed : (place : List ℕ) → In place (places_of p.piece.given) → IsMade journal place
  pub each : AreEachRecords p.records
  pub ordered : is_ordered p.rows ≡ true
  -- what a transaction keeps does not move
  pub unlocked : (r : Row) → In r p.rows → r.lock ≡ None

-- a vote that the file is elsewhere names one of so many servers
abbrev pub VoteNames : ℕ → Vote → Type 0
VoteNames servers (vote.Moved prefix to) = to < servers
VoteNames servers v = Unit {0}

-- so does the cause for which a path is denied, where the directory is elsewhere
abbrev pub WhyNames : ℕ → Why → Type 0
WhyNames servers (why.Moved prefix to) = to < servers
WhyNames servers w = Unit {0}

abbrev pub MessageNames : ℕ → PeerMsg → Type 0
MessageNames servers (peer.Vote m) = VoteNames servers m.vote
MessageNames servers (peer.PathNo file w) = WhyNames servers w
MessageNames servers m = Unit {0}

-- the message goes from one of so many servers to one of them, and names no others
pub record IsUnderway (servers : ℕ) (f : InFlight) : Type 0 where
  pub from : f.from < servers
  pub to : f.to < servers
  pub names : MessageNames servers f.message

-- everything is at its place, each message goes to a server that there is, and no two rows have one number
pub record PlacesHold (c : Cluster) : Type 0 where
  pub one : OnePlace c.servers (parcels_of c.in_flight)
  pub homes : (s : Server) → In s c.servers → IsHome c.journal s
  pub sent : (p : Parcel) → In p (parcels_of c.in_flight) → IsSent c.journal p
  pub goes : (f : InFlight) → In f c.in_flight → IsUnderway (length c.servers) f
  pub ordered : is_ordered (rows_of_all c.servers (parcels_of c.in_flight)) ≡ true
  pub numbered : (k : ℕ) (s : Server) → slice_get c.servers k ≡ Some s → s.me ≡ k
  -- each map names servers that there are
  pub named : (s : Server) → In s c.servers → (id : List ℕ) → server_of s.map id < length c.servers
