-- The part of a map's list that a change touches.
use Rattle.std.specs.Prelude.{◌≡◌, ℕ, Bool, true, false, ◌≤◌, List, [], ◌∷◌, ◌++◌, ◌-◌, length, take, drop, slice_range, nat_eq, if◌then◌else◌}
use Rattle.std.specs.List.{splice}
use Rattle.std.specs.Ordering.{nat_cmp}
use Rattle.std.specs.Cmp.Lexicographic.{slice_cmp}
use Rattle.std.specs.declared.cmp.Ordering.TheVariants.{Less}
use Rattle.fs_ident.specs.In.{In}
use Rattle.fs_ident.specs.Ordered.{Keyed, are_keys_in_order}
use Rattle.fs_map.specs.Map.{Owners, after_take, begins}
use Rattle.fs_map.specs.Change.{at, front}
use Rattle.fs_map.specs.Lists.{places_of, turns}

-- the places that begin with the prefix stand between those before it and those behind
pub record IsSplit {V : Type 0} (prefix : List ℕ) (before part behind : Keyed V) : Type 0 where
  pub earlier : (e : List ℕ × V) → In e before → slice_cmp nat_cmp e.0 prefix ≡ Less
  pub inside : (e : List ℕ × V) → In e part → begins prefix e.0 ≡ true
  pub later : (e : List ℕ × V) → In e behind → (slice_cmp nat_cmp prefix e.0 ≡ Less) × (begins prefix e.0 ≡ false)

-- and these are their bounds
pub record IsSpan {V : Type 0} (listed : Keyed V) (prefix : List ℕ) (start end : ℕ) : Type 0 where
  pub ordered : start ≤ end
  pub within : end ≤ length listed
  pub split : IsSplit prefix (take start listed) (slice_range listed start end) (drop end listed)

-- what is listed from the prefix on is in the part
pub record IsPartOf (prefix : List ℕ) (part owners : Owners) : Type 0 where
  pub order : are_keys_in_order part ≡ true
  pub same : (id : List ℕ) → begins prefix id ≡ true → at id part ≡ at id owners

-- the list of the changed servers from the prefix on
abbrev pub part_after : Owners → ℕ → List ℕ → Keyed Bool → Owners
part_after owners me prefix given =
    (prefix, after_take owners me prefix given prefix) ∷ turns nat_eq (after_take owners me prefix given) prefix
    (places_of owners ++ places_of given)

-- the place above the prefix is at the same server
abbrev pub is_as_above : Owners → ℕ → List ℕ → Keyed Bool → List ℕ → Bool
is_as_above owners me prefix given [] = false
is_as_above owners me prefix given (n ∷ ns) =
    nat_eq (after_take owners me prefix given (front n ns)) (after_take owners me prefix given (n ∷ ns))

-- what stands in the map's list: where the place above the prefix is at the same server the prefix is not listed
abbrev pub new_part : Owners → ℕ → List ℕ → Keyed Bool → Owners
new_part owners me prefix given =
    if is_as_above owners me prefix given prefix
    then turns nat_eq (after_take owners me prefix given) prefix (places_of owners ++ places_of given)
    else part_after owners me prefix given

-- ## In the place of the part

-- of the list so many items are kept, and among these is the part; what is to come into its place stands behind them
pub record AreBounds {X : Type 0} (xs : List X) (start end kept : ℕ) : Type 0 where
  pub ordered : start ≤ end
  pub within : end ≤ kept
  pub behind : kept ≤ length xs

-- the items that are kept, with what stands behind them in the place of the part
abbrev pub with_part_replaced : {X : Type 0} → List X → ℕ → ℕ → ℕ → List X
with_part_replaced xs start end kept = splice (take kept xs) start end (drop kept xs)

-- the last items first, then those between, then the first ones
abbrev pub with_ends_exchanged : {X : Type 0} → List X → ℕ → ℕ → List X
with_ends_exchanged xs gone added =
    drop (length xs - added) xs ++ (drop gone (take (length xs - added) xs) ++ take gone xs)
