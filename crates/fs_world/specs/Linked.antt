-- What holds of the links between servers and clients, whatever was lost, repeated or reordered: they carry the very
-- messages that are on their way, and these can be read.
use Rattle.std.specs.Prelude.{◌≡◌, ◌≢◌, ℕ, ◌<◌, ◌^◌, ◌≤◌, true, false, List, map, length, slice_get, Option, Some, None}
use Rattle.std.specs.List.{AllByRecursion, list_all}
use Rattle.std.specs.FinMap.{get}
use Rattle.fs_ident.specs.In.{In}
use Rattle.fs_ident.specs.declared.actor.Peer.{Peer}
use Rattle.fs_ident.specs.declared.actor.Session.{Session}
use Rattle.fs_field.specs.declared.row.Row.{Row}
use Rattle.fs_field.specs.declared.vote.Vote.{Vote}
use Rattle.fs_map.specs.Map.{Owners}
use Rattle.fs_msg.specs.Ranges.{FitsMessage}
use Rattle.fs_msg.specs.Readable.{is_readable}
use Rattle.fs_msg.specs.Spelling.{message}
use Rattle.fs_msg.specs.declared.answer.Answer.{Answer}
use Rattle.fs_msg.specs.declared.answer.Answer.TheVariants.{Granted, Renewed, Released, Shipped, Led}
use Rattle.fs_msg.specs.declared.client_msg.ClientMsg.{ClientMsg}
use Rattle.fs_msg.specs.declared.end.End.{End}
use Rattle.fs_msg.specs.declared.end.End.TheVariants.{Moved}
use Rattle.fs_msg.specs.declared.limits.TheConstants.{SERVERS}
use Rattle.fs_msg.specs.declared.msg.Msg.{Msg}
use Rattle.fs_msg.specs.declared.msg.Msg.TheVariants as msg
use Rattle.fs_record.specs.Moving.{AreEachRecords}
use Rattle.fs_record.specs.Records.{AreRecords}
use Rattle.fs_record.specs.declared.led_end.LedEnd.{LedEnd}
use Rattle.fs_record.specs.declared.led_end.LedEnd.TheVariants as led
use Rattle.fs_record.specs.declared.led_end.Why.TheVariants as why
use Rattle.fs_record.specs.declared.parcel.Parcel.{Parcel}
use Rattle.fs_path.specs.Leases.{PathLease}
use Rattle.fs_path.specs.Tables.{PathTables, lease_of}
use Rattle.fs_path.specs.declared.having.Having.{Having}
use Rattle.fs_serial.specs.Places.{VoteNames, WhyNames}
use Rattle.fs_serial.specs.declared.in_flight.InFlight.{InFlight}
use Rattle.fs_server.specs.declared.state.Server.{Server as Core}
use Rattle.fs_txn.specs.declared.leading.Ending.{Ending}
use Rattle.fs_txn.specs.declared.leading.Leading.{Leading}
use Rattle.fs_window.specs.OnTheWay.{Carries, IsPacketOf}
use Rattle.fs_window.specs.Packet.{IsPacket, packet_text}
use Rattle.fs_window.specs.Peers.{same_peer}
use Rattle.fs_window.specs.Post.{AreLinks, Links, link_with, new_link}
use Rattle.fs_window.specs.declared.link.Link.{Link}
use Rattle.fs_window.specs.declared.packet.Packet.{Packet}
use Rattle.fs_window.specs.declared.sent.Sent.{Sent}
use Rattle.fs_wire.specs.Readable.{is_readable_effect, is_readable_session}
use Rattle.fs_world.specs.Within.{IsInRange}
pub use Rattle.fs_world.specs.Carried.{AreFirstOf, between, downs_of, flying_between, post_of, state_post, ups_of}
use Rattle.fs_world.specs.Readable.{HandlesOpen, LogReadable, RecordsOpen}
use Rattle.fs_world.specs.Served.{SessionStates, link_width}
use Rattle.fs_world.specs.declared.form.Form.{Form}
use Rattle.fs_world.specs.declared.form.Form.TheVariants as form
use Rattle.fs_world.specs.declared.servers.session_state.SessionState.{SessionState}
use Rattle.fs_world.specs.declared.servers.world.Served.{Served}
use Rattle.fs_msg.specs.declared.peer_msg.PeerMsg.{PeerMsg}
use Rattle.fs_msg.specs.declared.peer_msg.PeerMsg.TheVariants as peer

-- ## The links of two actors

-- these messages are on their way from one end of a link to the other, a segment at a time, and each is in range
pub record IsWay (from to : Link) (messages : List Msg) : Type 0 where
  pub carries : Carries from to (map message messages)
  pub fits : AllByRecursion IsInRange messages

-- the bytes are those of a packet that one end made for the other
pub record IsSentOver (from to : Link) (bytes : List ℕ) : Type 0 where
  pub packet : Packet
  pub spelled : IsPacket packet
  pub text : bytes ≡ packet_text packet
  pub of : IsPacketOf from.window to.window packet

-- the packets from one actor to another are of the link between them
abbrev pub AreSentOver : Peer → Peer → Link → Link → List Sent → Type 0
AreSentOver a b from to packets = (x : Sent) → In x packets → x.from ≡ a → x.to ≡ b → IsSentOver from to x.bytes

-- one direction of the links of two actors
pub record IsPair (a b : Peer) (here there : Link) (messages : List Msg) (sent : List Sent) : Type 0 where
  pub way : IsWay here there messages
  pub packets : AreSentOver a b here there sent

-- ## All links

pub record IsPost (a : Peer) (post : Links) : Type 0 where
  pub me : post.me ≡ a
  pub width : post.width ≡ link_width
  pub links : AreLinks post
  -- nothing goes to itself
  pub own : link_with post a ≡ new_link link_width

-- the actor is there
abbrev pub IsThere : Served → Peer → Type 0
IsThere w a = (post : Links) × (post_of w a ≡ Some post)

pub record GoesBetween (w : Served) (x : Sent) : Type 0 where
  pub from : IsThere w x.from
  pub to : IsThere w x.to
  pub apart : same_peer x.from x.to ≡ false

-- the links of all actors carry what is on its way, and nothing was sent to, or heard of, an actor that is not there
pub record AreTied (w : Served) : Type 0 where
  pub posts : (a : Peer) (post : Links) → post_of w a ≡ Some post → IsPost a post
  pub pairs : (a b : Peer) (p q : Links) → same_peer a b ≡ false → post_of w a ≡ Some p → post_of w b ≡ Some q
      → IsPair a b (link_with p b) (link_with q a) (between w a b) w.packets.sent
  pub alone : (a b : Peer) (p : Links) → post_of w a ≡ Some p → post_of w b ≡ None → link_with p b ≡ new_link link_width
  pub between : (x : Sent) → In x w.packets.sent → GoesBetween w x

-- ## What is told of servers

-- each server that the map names is there
abbrev pub AreNamed : ℕ → Owners → Type 0
AreNamed servers map = (e : List ℕ × ℕ) → In e map → e.1 < servers

abbrev pub IsNamedEnd : ℕ → End → Type 0
IsNamedEnd servers (Moved prefix to) = to < servers
IsNamedEnd servers e = Unit {0}

abbrev pub IsNamedLed : ℕ → LedEnd → Type 0
IsNamedLed servers (led.Again (why.Moved prefix to)) = to < servers
IsNamedLed servers e = Unit {0}

abbrev pub IsNamedAnswer : ℕ → Answer → Type 0
IsNamedAnswer servers (Granted grants fresh e) = IsNamedEnd servers e
IsNamedAnswer servers (Renewed rows e) = IsNamedEnd servers e
IsNamedAnswer servers (Released count e) = IsNamedEnd servers e
IsNamedAnswer servers (Shipped count e) = IsNamedEnd servers e
IsNamedAnswer servers (Led e) = IsNamedLed servers e
IsNamedAnswer servers a = Unit {0}

-- ## All of it

abbrev pub HasJoined : SessionStates → Session → Type 0
HasJoined sessions s = (state : SessionState) × (get sessions s.0 ≡ Some state)

-- each row is of a session that has joined
abbrev pub AreOfJoined : SessionStates → List Row → Type 0
AreOfJoined sessions rows = (row : Row) → In row rows → HasJoined sessions row.session

-- a transaction of which votes are awaited is of a session that has joined; its parts are asked of servers that there are, and its votes
-- name no others
pub record IsLeadingOf (servers : ℕ) (sessions : SessionStates) (l : Leading) : Type 0 where
  pub session : HasJoined sessions l.leader.session
  pub at : (k : ℕ) → In k l.at → k < servers
  pub votes : (v : Vote) → In (Some v) l.leader.votes → VoteNames servers v

-- so is one that is decided, and its end names no others
pub record IsEndingOf (servers : ℕ) (sessions : SessionStates) (x : Ending) : Type 0 where
  pub session : HasJoined sessions x.session
  pub end : IsNamedLed servers x.end

-- another one of so many servers
abbrev pub IsOther : ℕ → ℕ → ℕ → Type 0
IsOther servers k peer = (peer < servers) × (k ≢ peer)

-- each path lease is between the server and another one
abbrev pub HasOthers : ℕ → ℕ → PathTables → Type 0
HasOthers servers k t = ((l : PathLease) → In l t.issued → IsOther servers k l.peer)
    × ((h : Having) → In h t.held → IsOther servers k (lease_of h).peer)

-- a server knows only of servers that there are, has rows of sessions that have joined and leads operations of such, its handles can be
-- told, and its path leases are with other servers
pub record IsServed (servers : ℕ) (sessions : SessionStates) (k : ℕ) (s : Core) : Type 0 where
  pub me : s.me ≡ k
  pub named : AreNamed servers s.map
  pub records : AreRecords s.records
  pub handles : HandlesOpen s.records
  pub rows : AreOfJoined sessions s.rows
  pub leading : (l : Leading) → In l s.leading → IsLeadingOf servers sessions l
  pub ending : (x : Ending) → In x s.ending → IsEndingOf servers sessions x
  pub peers : HasOthers servers k s.paths

-- a session asks servers that there are, and is told of such
pub record IsSoundState (servers : ℕ) (s : Session) (state : SessionState) : Type 0 where
  pub number : is_readable_session s ≡ true
  pub session : state.client.session ≡ s
  pub log : LogReadable state.client
  pub hints : AreNamed servers state.client.hints
  pub up : (m : ℕ × ClientMsg) → In m state.up → m.0 < servers
  pub down : (m : ℕ × Answer) → In m state.down → (m.0 < servers) × IsNamedAnswer servers m.1

-- a parcel has whole records, handles that can be told, and rows of sessions that have joined
pub record IsParcelOf (sessions : SessionStates) (p : Parcel) : Type 0 where
  pub each : AreEachRecords p.records
  pub handles : RecordsOpen p.records
  pub rows : AreOfJoined sessions p.rows

-- what a server is told by another one can be told: such a parcel, or a part of a session that has joined, a vote or a cause that names
-- servers that there are, and effects that can be read; all else can be
abbrev pub Brings : ℕ → SessionStates → PeerMsg → Type 0
Brings servers sessions (peer.Parcel p) = IsParcelOf sessions p
Brings servers sessions (peer.Prepare m) = HasJoined sessions m.session
Brings servers sessions (peer.Vote m) = VoteNames servers m.vote
Brings servers sessions (peer.Decide m) = list_all is_readable_effect m.effects ≡ true
Brings servers sessions (peer.PathNo file w) = WhyNames servers w
Brings servers sessions m = Unit {0}

-- a message goes from one server to another, and can be told
pub record IsCarried (servers : ℕ) (sessions : SessionStates) (f : InFlight) : Type 0 where
  pub from : f.from < servers
  pub to : f.to < servers
  pub apart : f.from ≢ f.to
  pub brings : Brings servers sessions f.message

pub record IsLinked (w : Served) : Type 0 where
  pub posts : length w.posts ≡ length w.servers
  pub some : 1 ≤ length w.servers
  pub few : length w.servers ≤ SERVERS
  pub ties : AreTied w
  pub servers : (k : ℕ) (s : Core) → slice_get w.servers k ≡ Some s → IsServed (length w.servers) w.sessions k s
  pub sessions : (s : Session) (state : SessionState) → get w.sessions s.0 ≡ Some state → IsSoundState (length w.servers) s state
  pub in_flight : (f : InFlight) → In f w.in_flight → IsCarried (length w.servers) w.sessions f

-- ## What a core sends

-- a message that was written down: there was room for its bytes, and it is read again where they can be
pub record IsWritten (m : Msg) : Type 0 where
  pub short : length (message m) < 2 ^ 64
  pub fits : is_readable m ≡ true → FitsMessage m

abbrev pub FitsUp : Option (ℕ × ClientMsg) → Type 0
FitsUp None = Unit {0}
FitsUp (Some m) = IsWritten (msg.Client m.1)

abbrev pub FitsDown : List (Peer × Msg) → Type 0
FitsDown messages = AllByRecursion (λ (x : Peer × Msg). IsWritten x.1) messages

-- what holds of every world
abbrev pub IsWhole : Form → Type 0
IsWhole (form.Direct w) = Unit {0}
IsWhole (form.Served w) = IsLinked w
