-- Messages of path leases go to servers that there are, and name no others; and the leases of a server that takes one, or asks paths back,
-- are between servers that there are then.
use Rattle.std.proofs.Common.{◌≡◌, ℕ, ◌<◌, ◌==◌, false, List, [], ◌∷◌, refl}
use Rattle.std.specs.Prelude.{Some}
use Rattle.fs_field.specs.declared.used.Part.{Part}
use Rattle.fs_field.specs.declared.vote.Vote.{Vote}
use Rattle.fs_map.specs.Map.{server_of}
use Rattle.fs_msg.specs.declared.peer_msg.PeerMsg.{PeerMsg}
use Rattle.fs_msg.specs.declared.peer_msg.PeerMsg.TheVariants as peer
use Rattle.fs_parcel.specs.declared.error.MoveError.{MoveError}
use Rattle.fs_server.specs.Follows.{recalls_for, to_server}
use Rattle.fs_server.specs.Moves.{move_at, peer_step}
use Rattle.fs_server.specs.PathSteps.{asks_up}
use Rattle.fs_server.specs.Server.{Stepped}
use Rattle.fs_server.specs.declared.state.Server.{Server}
use Rattle.fs_serial.specs.PathLaws.{IsPathMessage}
use Rattle.fs_serial.specs.Places.{MessageNames}
use Rattle.fs_serial.specs.Seen.{HasPeers}
use Rattle.fs_serial.proofs.Moves.PathsBetween.{CanBeSent, GoBetween, message_goes, recalls_for_go, refused_goes, up_goes}
use Rattle.fs_serial.proofs.Transactions.PlacesAfter.{AreWords, both_words, no_words, one_word}

-- what is sent goes to servers that there are, and the leases are between such
abbrev pub AreNamed : ℕ → Stepped → Type 0
AreNamed servers x = GoBetween (λ n. n < servers) (AreWords servers) x

module _ (servers : ℕ) where
  abbrev IsBelow : ℕ → Type 0
  IsBelow n = n < servers

  one_named : (to : ℕ) (m : PeerMsg) → to < servers → IsPathMessage m → MessageNames servers m → AreWords servers (to_server to m ∷ [])
  one_named to (peer.PathAsk file dir) below is names =
      one_word servers to (peer.PathAsk file dir) (record { there = below; names = tt; word = refl })
  one_named to (peer.PathGrant number file path) below is names =
      one_word servers to (peer.PathGrant number file path) (record { there = below; names = tt; word = refl })
  one_named to (peer.PathNo file w) below is names =
      one_word servers to (peer.PathNo file w) (record { there = below; names = names; word = refl })
  one_named to (peer.PathRecall number) below is names =
      one_word servers to (peer.PathRecall number) (record { there = below; names = tt; word = refl })
  one_named to (peer.PathRelease number) below is names =
      one_word servers to (peer.PathRelease number) (record { there = below; names = tt; word = refl })
  one_named to m below is names = absurd is

  can : CanBeSent servers IsBelow (AreWords servers)
  can = record { none = no_words servers; both = both_words servers; one = one_named }

  module _ (s : Server) (named : (id : List ℕ) → server_of s.map id < servers) (peers : HasPeers servers s.paths) where
    other : (to : ℕ) → to < servers → (to == s.me) ≡ false → to < servers
    other to below e = below

    -- where path leases are in the way of a part
    pub recalls_for_named : (v : Vote) (p : Part) → AreWords servers (recalls_for v s p)
    recalls_for_named v p = recalls_for_go servers IsBelow (AreWords servers) can v p s peers

    -- where a path is asked for
    pub up_named : (file dir : List ℕ) → AreWords servers (asks_up file dir s)
    up_named file dir = up_goes servers IsBelow (AreWords servers) can s named other peers file dir

    pub message_named : (from : ℕ) (m : PeerMsg) → from < servers → MessageNames servers m → IsPathMessage m
        → AreNamed servers (peer_step from m s)
    message_named from m below names is =
        message_goes servers IsBelow (AreWords servers) can s named other peers from m below names is

    pub refused_named : (why : MoveError) (prefix : List ℕ) (to : ℕ) → AreNamed servers (move_at (Some why) prefix to s)
    refused_named why prefix to = refused_goes servers IsBelow (AreWords servers) can s named other peers why prefix to
