-- What a server sends of path leases goes to other servers, and its leases are with others.
use Rattle.std.proofs.Common.{◌≡◌, ◌<◌, ◌==◌, ℕ, false, List, Some, arith}
use Rattle.fs_ident.specs.declared.actor.Peer.{Peer}
use Rattle.fs_field.specs.declared.used.Part.{Part}
use Rattle.fs_field.specs.declared.vote.Vote.{Vote}
use Rattle.fs_map.specs.Map.{server_of}
use Rattle.fs_msg.specs.declared.msg.Msg.{Msg}
use Rattle.fs_msg.specs.declared.peer_msg.PeerMsg.{PeerMsg}
use Rattle.fs_msg.specs.declared.peer_msg.PeerMsg.TheVariants as peer
use Rattle.fs_msg.specs.declared.server_note.ServerNote.{ServerNote}
use Rattle.fs_parcel.specs.declared.error.MoveError.{MoveError}
use Rattle.fs_path.specs.Tables.{PathTables}
use Rattle.fs_serial.specs.PathLaws.{IsPathMessage}
use Rattle.fs_serial.specs.Places.{MessageNames}
use Rattle.fs_serial.proofs.Moves.KeptPaths.{SamePaths, between_still}
use Rattle.fs_serial.proofs.Moves.PathSteps.{ArePathSends, IsPathNote, each_message, path_stepped, refused}
use Rattle.fs_serial.proofs.Moves.PathsBetween.{CanBeSent, GoBetween, message_goes, recalls_for_go, refused_goes, up_goes}
use Rattle.fs_server.specs.Follows.{recalls_for}
use Rattle.fs_server.specs.Moves.{move_at, peer_step}
use Rattle.fs_server.specs.PathSteps.{asks_up}
use Rattle.fs_server.specs.Server.{Stepped}
use Rattle.fs_server.specs.declared.state.Server.{Server as Core}
use Rattle.fs_world.specs.Linked.{Brings, HasOthers, IsOther, IsServed}
use Rattle.fs_world.specs.Served.{SessionStates}
use Rattle.fs_world.proofs.NamedMaps.{server_named}
use Rattle.fs_world.proofs.NamedSends.{AreSent, IsSent, IsStepped, differ}
use Rattle.fs_world.proofs.OpenHandles.{each_both}

-- path leases that are given out and held as before are with others still
pub others_still : (servers k : ℕ) (old new : PathTables) → SamePaths old new → HasOthers servers k old → HasOthers servers k new
others_still servers k old new same h = between_still (IsOther servers k) old new same h

module _ (servers : ℕ) (sessions : SessionStates) (k : ℕ) (some : k < servers) where
  abbrev Fine : Core → Type 0
  Fine s = IsServed servers sessions k s

  abbrev Goes : Stepped → Type 0
  Goes x = IsStepped servers sessions k x

  brings_path : (m : PeerMsg) → IsPathMessage m → MessageNames servers m → Brings servers sessions m
  brings_path (peer.PathAsk file dir) is names = tt
  brings_path (peer.PathGrant number file path) is names = tt
  brings_path (peer.PathNo file w) is names = names
  brings_path (peer.PathRecall number) is names = tt
  brings_path (peer.PathRelease number) is names = tt
  brings_path m is names = absurd is

  can : CanBeSent servers (IsOther servers k) (AreSent servers sessions k)
  can = record {
    none = tt;
    both = each_both (IsSent servers sessions k);
    one = λ to m other is names. (record { from = some; to = other.0; apart = other.1; brings = brings_path m is names }, tt);
  }

  pub recalls_sent : (v : Vote) (p : Part) (s : Core) → Fine s → AreSent servers sessions k (recalls_for v s p)
  recalls_sent v p s h = recalls_for_go servers (IsOther servers k) (AreSent servers sessions k) can v p s h.peers

  module _ (s : Core) (h : Fine s) where
    named : (id : List ℕ) → server_of s.map id < servers
    named id = server_named servers s.map id (omega (arith, some)) h.named

    other : (to : ℕ) → to < servers → (to == s.me) ≡ false → IsOther servers k to
    other to below e = (below, differ servers sessions k to s h e)

    pub up_sent : (file dir : List ℕ) → AreSent servers sessions k (asks_up file dir s)
    up_sent file dir = up_goes servers (IsOther servers k) (AreSent servers sessions k) can s named other h.peers file dir

    -- a step that changes what it has of paths alone
    abbrev IfBetween : Stepped → Type 0
    IfBetween x = GoBetween (IsOther servers k) (AreSent servers sessions k) x → Goes x

    then_goes : (n : ServerNote) (ms : List (Peer × Msg)) (paths : PathTables) (asking : List (List ℕ)) (given : ℕ) → IsPathNote n
        → ArePathSends ms → IfBetween (path_stepped n ms paths asking given s)
    then_goes n ms paths asking given noted sent so = record {
      server = record {
        me = h.me;
        named = h.named;
        records = h.records;
        handles = h.handles;
        rows = h.rows;
        leading = h.leading;
        ending = h.ending;
        peers = so.peers;
      };
      sends = so.words;
    }

    pub path_goes : (from : ℕ) (m : PeerMsg) → IsOther servers k from → MessageNames servers m → IsPathMessage m → Goes (peer_step from m s)
    path_goes from m from_other names is =
        each_message IfBetween s then_goes from m is
        (message_goes servers (IsOther servers k) (AreSent servers sessions k) can s named other h.peers from m from_other names is)

    pub stays_goes : (why : MoveError) (prefix : List ℕ) (to : ℕ) → Goes (move_at (Some why) prefix to s)
    stays_goes why prefix to =
        refused IfBetween s then_goes why prefix to
        (refused_goes servers (IsOther servers k) (AreSent servers sessions k) can s named other h.peers why prefix to)
