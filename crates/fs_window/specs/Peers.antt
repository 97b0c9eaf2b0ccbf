-- The order of actors, and where each stands among entries in that order.
use Rattle.std.specs.Prelude.{◌≡◌, ℕ, Bool, not, ◌<◌, ◌≤◌, List, length, Some, None, slice_index_or, slice_set}
use Rattle.std.specs.List.{insert, remove}
use Rattle.std.specs.Ordering.{nat_cmp, is_eq}
use Rattle.std.specs.FinMap.Entries.{find, put, where_key, is_sorted}
use Rattle.std.specs.declared.cmp.Ordering.{Ordering}
use Rattle.std.specs.declared.cmp.Ordering.TheVariants.{Less, Greater}
use Rattle.fs_ident.specs.declared.actor.Peer.{Peer}
use Rattle.fs_ident.specs.declared.actor.Peer.TheVariants.{Server, Client}

-- servers before clients, each by number
abbrev pub peer_cmp : Peer → Peer → Ordering
peer_cmp (Server a) (Server b) = nat_cmp a b
peer_cmp (Server a) (Client b) = Less
peer_cmp (Client a) (Server b) = Greater
peer_cmp (Client a) (Client b) = nat_cmp a.0 b.0

abbrev pub same_peer : Peer → Peer → Bool
same_peer a b = is_eq (peer_cmp a b)

-- values of actors
abbrev pub ByPeer : Type 0 → Type 0
ByPeer V = List (Peer × V)

-- the actors rise strictly
abbrev pub are_peers_in_order : {V : Type 0} → ByPeer V → Bool
are_peers_in_order entries = is_sorted peer_cmp entries

-- the entry of the actor is at the place
pub record IsPlaceOf {V : Type 0} (entries : ByPeer V) (peer : Peer) (at : ℕ) : Type 0 where
  pub within : at < length entries
  pub key : (d : Peer × V) → (slice_index_or entries at d).0 ≡ peer
  pub value : (d : Peer × V) → find peer_cmp peer entries ≡ Some (slice_index_or entries at d).1
  pub rest : where_key peer_cmp (λ other. not (same_peer peer other)) entries ≡ remove entries at
  pub replaced : (v : V) → put peer_cmp peer v entries ≡ slice_set entries at (peer, v)

-- the actor has no entry, and one at the place is in order
pub record IsGapFor {V : Type 0} (entries : ByPeer V) (peer : Peer) (at : ℕ) : Type 0 where
  pub within : at ≤ length entries
  pub absent : find peer_cmp peer entries ≡ None
  pub more : (v : V) → put peer_cmp peer v entries ≡ insert entries at (peer, v)
