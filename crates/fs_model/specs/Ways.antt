-- What is known of the way up: files, each with the place in this list of the directory that it is in, where that is known.
use Rattle.std.specs.Prelude.{◌≡◌, ◌≢◌, IfSome, ℕ, zero, suc, true, List, [], ◌∷◌, Option, Some, None, option_map, is_some, slice_get}
use Rattle.std.specs.Ordering.{nat_cmp}
use Rattle.std.specs.Cmp.Lexicographic.{slice_cmp}
use Rattle.std.specs.FinMap.{FinMap, get}
use Rattle.fs_model.specs.declared.ways.Way.{Way}
use Rattle.fs_model.specs.Ancestors.{directory_of}
use Rattle.fs_model.specs.Namespace.{NodeMap}

-- the file at a place
abbrev pub file_at : List Way → ℕ → Option (List ℕ)
file_at ways at = option_map (λ w. w.file) (slice_get ways at)

abbrev pub known_up : Option Way → Option ℕ
known_up None = None
known_up (Some w) = w.up

-- the place of its directory, where that is known
abbrev pub up_at : List Way → ℕ → Option ℕ
up_at ways at = known_up (slice_get ways at)

abbrev pub directory_from : NodeMap → Option (List ℕ) → Option (List ℕ)
directory_from m None = None
directory_from m (Some id) = directory_of (get m id)

-- a place that is known leads to the file's directory
pub record IsWayUp (m : NodeMap) (ways : List Way) (at up : ℕ) : Type 0 where
  pub listed : is_some (file_at ways up) ≡ true
  pub leads : file_at ways up ≡ directory_from m (file_at ways at)

-- what is known is so
abbrev pub AreTrue : NodeMap → List Way → Type 0
AreTrue m ways = (at up : ℕ) → up_at ways at ≡ Some up → IsWayUp m ways at up

-- each file has one place, which the map tells
pub record ArePlaced (places : FinMap (slice_cmp nat_cmp) ℕ) (ways : List Way) : Type 0 where
  pub listed : (id : List ℕ) (at : ℕ) → get places id ≡ Some at → file_at ways at ≡ Some id
  pub told : (id : List ℕ) (at : ℕ) → file_at ways at ≡ Some id → get places id ≡ Some at

-- no file has two places
abbrev pub AreSole : List Way → Type 0
AreSole ways = (id : List ℕ) (at other : ℕ) → file_at ways at ≡ Some id → file_at ways other ≡ Some id → at ≡ other

-- the files have their places
abbrev pub KeepsFiles : List Way → List Way → Type 0
KeepsFiles old new = (at : ℕ) (id : List ℕ) → file_at old at ≡ Some id → file_at new at ≡ Some id

-- and no more is known
pub record IsGrown (old new : List Way) : Type 0 where
  pub files : KeepsFiles old new
  pub ups : (at up : ℕ) → up_at new at ≡ Some up → up_at old at ≡ Some up

abbrev pub file_of_place : List Way → Option ℕ → Option (List ℕ)
file_of_place ways None = None
file_of_place ways (Some up) = file_at ways up

-- this is the place of the directory that the file at a place is in, or it is in none
pub record IsAbove (m : NodeMap) (ways : List Way) (at : ℕ) (up : Option ℕ) : Type 0 where
  pub listed : IfSome up (λ u. is_some (file_at ways u) ≡ true)
  pub leads : file_of_place ways up ≡ directory_from m (file_at ways at)

-- all but this file are in the directories in which they were
abbrev pub StayBut : List ℕ → NodeMap → NodeMap → Type 0
StayBut id old new = (k : List ℕ) → k ≢ id → directory_of (get new k) ≡ directory_of (get old k)

-- what is known that stays true where that one file is put elsewhere
abbrev pub StaysTrueBut : List ℕ → List Way → List Way → Type 0
StaysTrueBut id old new = (m n : NodeMap) → StayBut id m n → AreTrue m old → AreTrue n new

-- with this place for the directory of the file at a place
abbrev pub with_up : List Way → ℕ → Option ℕ → List Way
with_up [] at up = []
with_up (w ∷ ways) zero up = record w { up = up } ∷ ways
with_up (w ∷ ways) (suc at) up = w ∷ with_up ways at up
