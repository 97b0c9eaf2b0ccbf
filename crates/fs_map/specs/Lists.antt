-- The one list of a changed map, and of what is given away.
use Rattle.std.specs.Prelude.{ℕ, Bool, true, false, ◌&&◌, ◌||◌, ◌==◌, not, nat_eq, List, [], ◌∷◌, ◌++◌, map, Option, Some, None}
use Rattle.std.specs.Bool.{beq}
use Rattle.std.specs.List.{list_any, list_all}
use Rattle.std.specs.Ordering.{nat_cmp}
use Rattle.std.specs.Cmp.Lexicographic.{slice_cmp}
use Rattle.std.specs.FinMap.Entries.{put}
use Rattle.fs_ident.specs.Ident.{parent, same}
use Rattle.fs_ident.specs.Ordered.{Keyed, are_keys_in_order}
use Rattle.fs_map.specs.Map.{Owners, after_take, begins, gives, server_of, told_of}
use Rattle.fs_map.specs.Change.{turned}

-- ## Lists by what they tell

abbrev pub places_of : {V : Type 0} → Keyed V → List (List ℕ)
places_of listed = map (λ e. e.0) listed

-- the place is listed in its order where it has a value, which replaces the one that it had
abbrev pub with_turn : {V : Type 0} → List ℕ → Option V → Keyed V → Keyed V
with_turn place None listed = listed
with_turn place (Some value) listed = put (slice_cmp nat_cmp) place value listed

-- those of the places below the top at which the function is not as it is above, in order
abbrev pub turns : {V : Type 0} → (V → V → Bool) → (List ℕ → V) → List ℕ → List (List ℕ) → Keyed V
turns alike f top [] = []
turns alike f top (p ∷ ps) = with_turn p (turned alike f top p) (turns alike f top ps)

-- ## What is given away

-- which identifiers from the prefix on are the server's: the prefix is
abbrev pub piece_of : Owners → ℕ → List ℕ → Keyed Bool
piece_of owners me prefix = (prefix, true) ∷ turns beq (λ id. server_of owners id == me) prefix (places_of owners)

-- ## The map after a change

-- what is given comes to the server
abbrev pub map_after_take : Owners → ℕ → List ℕ → Keyed Bool → Owners
map_after_take owners me prefix given =
    ([], after_take owners me prefix given []) ∷ turns nat_eq (after_take owners me prefix given) [] (places_of owners ++ places_of given)

-- what the server has below the prefix goes to another
abbrev pub map_after_give : Owners → ℕ → List ℕ → ℕ → Owners
map_after_give owners me prefix to = map_after_take owners to prefix (piece_of owners me prefix)

-- all below the prefix is said to be at that server
abbrev pub map_after_hint : Owners → List ℕ → ℕ → Owners
map_after_hint owners prefix to = map_after_take owners to prefix ((prefix, true) ∷ [])

-- ## Tests

-- this was told, if anything was
abbrev pub is_value : Option Bool → Bool → Bool
is_value None value = false
is_value (Some other) value = beq other value

-- the identifier tells that too
abbrev pub tells_alike : Keyed Bool → Option (List ℕ) → Bool → Bool
tells_alike listed None value = false
tells_alike listed (Some above) value = is_value (told_of listed above) value

-- the place is the top one, or it is below it and tells what the one above does not
abbrev pub tells_anew : List ℕ → Keyed Bool → List ℕ × Bool → Bool
tells_anew top listed e = begins top e.0 && (same e.0 top || not (tells_alike listed (parent e.0) e.1))

abbrev pub begins_at : List ℕ → Keyed Bool → Bool
begins_at prefix [] = false
begins_at prefix (e ∷ es) = same e.0 prefix

-- the list tells in the shortest way which identifiers from the prefix on are given
abbrev pub is_piece : List ℕ → Keyed Bool → Bool
is_piece prefix given = begins_at prefix given && (are_keys_in_order given && list_all (tells_anew prefix given) given)

-- some identifier that is given is the server's: a place of either list is, where any is
abbrev pub owns_given : Owners → ℕ → List ℕ → Keyed Bool → Bool
owns_given owners me prefix given =
    list_any (λ id. gives prefix given id && (server_of owners id == me)) (places_of owners ++ places_of given)
