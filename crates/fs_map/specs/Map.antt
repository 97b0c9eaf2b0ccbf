-- Which server manages which files.
use Rattle.std.specs.Prelude.{◌≡◌, ◌≢◌, ◌⊎◌, ◌<◌, length, ℕ, Bool, true, false, ◌==◌, ◌&&◌, nat_eq, List, [], ◌∷◌, Option, Some, None, option_map, unwrap_or, if◌then◌else◌}
use Rattle.std.specs.List.{starts_with}
use Rattle.fs_ident.specs.Ident.{parent}
use Rattle.fs_ident.specs.In.{In}
use Rattle.fs_ident.specs.Ordered.{Keyed, are_keys_in_order}

-- ## Prefixes that are listed

-- the identifier begins with the prefix
abbrev pub begins : List ℕ → List ℕ → Bool
begins prefix id = starts_with nat_eq id prefix

abbrev pub or_before : {X : Type 0} → Option X → Option X → Option X
or_before (Some later) earlier = Some later
or_before None earlier = earlier

-- the last of the entries with which the identifier begins: in order of prefix that is the longest
abbrev pub longest : {V : Type 0} → Keyed V → List ℕ → Option (List ℕ × V)
longest [] id = None
longest (e ∷ es) id = or_before (longest es id) (if begins e.0 id then Some e else None)

-- the entry is listed, the identifier begins with its prefix, and with no other one that is as long
pub record IsLongest {V : Type 0} (listed : Keyed V) (id : List ℕ) (e : List ℕ × V) : Type 0 where
  pub stands : In e listed
  pub begun : begins e.0 id ≡ true
  pub longer : (other : List ℕ × V) → In other listed → begins other.0 id ≡ true → (other ≡ e) ⊎ (length other.0 < length e.0)

-- what is told of the identifier
abbrev pub told_of : {V : Type 0} → Keyed V → List ℕ → Option V
told_of listed id = option_map (λ e. e.1) (longest listed id)

-- prefixes from the top one on, in order; each other tells something that the prefix above it does not
pub record IsReduced {V : Type 0} (top : List ℕ) (listed : Keyed V) : Type 0 where
  pub ordered : are_keys_in_order listed ≡ true
  pub first : (value : V) × (rest : Keyed V) × (listed ≡ (top, value) ∷ rest)
  pub below : (e : List ℕ × V) → In e listed → begins top e.0 ≡ true
  pub telling : (e : List ℕ × V) → In e listed → (above : List ℕ) → parent e.0 ≡ Some above → begins top above ≡ true
      → told_of listed above ≢ Some e.1

-- ## A map

-- prefixes and their servers
abbrev pub Owners : Type 0
Owners = Keyed ℕ

-- every identifier has one server
abbrev pub IsMap : Owners → Type 0
IsMap owners = IsReduced [] owners

-- the server that manages the identifier
abbrev pub server_of : Owners → List ℕ → ℕ
server_of owners id = unwrap_or (told_of owners id) 0

-- everything is at the first server
abbrev pub first_map : Owners
first_map = ([], 0) ∷ []

-- ## What is given away

-- which identifiers from a prefix on are given
abbrev pub IsPiece : List ℕ → Keyed Bool → Type 0
IsPiece prefix given = IsReduced prefix given

abbrev pub gives : List ℕ → Keyed Bool → List ℕ → Bool
gives prefix given id = begins prefix id && (unwrap_or (told_of given id) false)

-- the identifier is below the prefix, and the server's
abbrev pub is_given : Owners → ℕ → List ℕ → List ℕ → Bool
is_given owners me prefix id = begins prefix id && (server_of owners id == me)

-- ## Changes, one identifier at a time

-- what the server has below the prefix goes to another
abbrev pub after_give : Owners → ℕ → List ℕ → ℕ → List ℕ → ℕ
after_give owners me prefix to id = if is_given owners me prefix id then to else server_of owners id

-- what is given comes to the server
abbrev pub after_take : Owners → ℕ → List ℕ → Keyed Bool → List ℕ → ℕ
after_take owners me prefix given id = if gives prefix given id then me else server_of owners id

-- all below the prefix is said to be at that server
abbrev pub after_hint : Owners → List ℕ → ℕ → List ℕ → ℕ
after_hint owners prefix to id = if begins prefix id then to else server_of owners id

-- the map tells these servers
abbrev pub Tells : Owners → (List ℕ → ℕ) → Type 0
Tells owners servers = (id : List ℕ) → server_of owners id ≡ servers id

-- a map, and what a change makes of it
pub record MapChange : Type 0 where
  pub before : Owners
  pub after : Owners
