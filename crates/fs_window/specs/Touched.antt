-- The links that were touched, by their places among the links of an actor.
use Rattle.std.specs.Prelude.{◌≡◌, ℕ, ◌+◌, ◌<◌, ◌≤◌, Bool, true, false, List, [], ◌∷◌, length, Some, slice_get, nat_lt, ◌==◌, if◌then◌else◌}
use Rattle.fs_ident.specs.declared.actor.Peer.{Peer}
use Rattle.fs_window.specs.declared.link.Link.{Link}
use Rattle.fs_window.specs.declared.touched.Touched.{Touched}
use Rattle.fs_window.specs.LinkEnd.{unsent}
use Rattle.fs_window.specs.Peers.{ByPeer}

-- no segment goes over this link for the first time
abbrev pub IsSettled : Peer × Link → Type 0
IsSettled e = unsent e.1.window ≡ []

-- the places rise, from this one on, and what stands between them is so
abbrev pub RestIs : {X : Type 0} → (X → Type 0) → ℕ → List ℕ → List X → Type 0
RestIs P from [] xs = (i : ℕ) (x : _) → from ≤ i → slice_get xs i ≡ Some x → P x
RestIs P from (at ∷ places) xs =
    (from ≤ at) × (at < length xs) × ((i : ℕ) (x : _) → from ≤ i → i < at → slice_get xs i ≡ Some x → P x) × RestIs P (at + 1) places xs

-- every link that was not touched is settled
abbrev pub OthersAreSettled : Touched → ByPeer Link → Type 0
OthersAreSettled t links = t.all ≡ false → RestIs IsSettled 0 t.places links

-- no link was touched
abbrev pub no_touch : Touched
no_touch = record { all = false; places = [] }

-- with one more place, if it is not there yet
abbrev pub with_place : ℕ → List ℕ → List ℕ
with_place at [] = at ∷ []
with_place at (p ∷ places) = if nat_lt at p then at ∷ p ∷ places else if at == p then p ∷ places else p ∷ with_place at places

-- whether the place is there
abbrev pub has_place : ℕ → List ℕ → Bool
has_place at [] = false
has_place at (p ∷ places) = if at == p then true else has_place at places
