-- Who stands where.
use Rattle.std.specs.Prelude.{Bool, ◌&&◌, ◌==◌, List, [], ◌∷◌, map, Option, Some, None, nat_eq, if◌then◌else◌}
use Rattle.std.specs.Cmp.Lexicographic.{pointwise}
use Rattle.fs_ident.specs.declared.actor.Peer.{Peer}
use Rattle.fs_io.specs.declared.addr.Addr.{Addr}
use Rattle.fs_turns.specs.Run.{Due}
use Rattle.fs_window.specs.Peers.{same_peer}
use Rattle.fs_window.specs.declared.sent.Sent.{Sent}

-- actors, each with its address
abbrev pub Peers : Type 0
Peers = List (Peer × Addr)

abbrev pub same_addr : Addr → Addr → Bool
same_addr a b = pointwise nat_eq a.ip b.ip && (a.port == b.port)

-- the address of the actor, if it has one here
abbrev pub addr_of : Peers → Peer → Option Addr
addr_of [] who = None
addr_of (p ∷ ps) who = if same_peer p.0 who then Some p.1 else addr_of ps who

-- the actor at the address, if one is there
abbrev pub peer_at : Peers → Addr → Option Peer
peer_at [] at = None
peer_at (p ∷ ps) at = if same_addr p.1 at then Some p.0 else peer_at ps at

-- where it is another than this one
abbrev pub if_other : Peer → Option Peer → Option Peer
if_other me None = None
if_other me (Some who) = if same_peer who me then None else Some who

-- the actor at the address, if one is there that is not the node's own
abbrev pub other_at : Peer → Peers → Addr → Option Peer
other_at me peers at = if_other me (peer_at peers at)

-- packets, each with the address of its addressee
abbrev pub due_of : Peers → List Sent → List Due
due_of peers packets = map (λ (s : Sent). (addr_of peers s.to, s.bytes)) packets
