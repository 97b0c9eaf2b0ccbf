-- Where a function of identifiers differs from what it is above, and the lists of which a changed map is made.
use Rattle.std.specs.Prelude.{◌≡◌, ℕ, Bool, true, ◌&&◌, not, ◌<◌, ◌+◌, List, [], ◌∷◌, Option, Some, None, length, take, if◌then◌else◌}
use Rattle.std.specs.Ordering.{nat_cmp}
use Rattle.std.specs.Cmp.Lexicographic.{slice_cmp}
use Rattle.std.specs.FinMap.Entries.{find, below_all}
use Rattle.std.specs.declared.cmp.Ordering.TheVariants.{Less}
use Rattle.fs_ident.specs.Ordered.{Keyed, are_keys_in_order}
use Rattle.fs_map.specs.Map.{begins}

-- the value of the prefix
abbrev pub at : {V : Type 0} → List ℕ → Keyed V → Option V
at key listed = find (slice_cmp nat_cmp) key listed

-- the prefix comes before all of these
abbrev pub before_all : {V : Type 0} → List ℕ → Keyed V → Bool
before_all key listed = below_all (slice_cmp nat_cmp) key listed

-- the identifier without its last number
abbrev pub front : ℕ → List ℕ → List ℕ
front n ns = take (length ns) (n ∷ ns)

-- the function's value at an identifier below the top, where it differs from the one above
abbrev pub turned : {V : Type 0} → (V → V → Bool) → (List ℕ → V) → List ℕ → List ℕ → Option V
turned same f top [] = None
turned same f top (n ∷ ns) = if begins top (front n ns) && not (same (f (front n ns)) (f (n ∷ ns))) then Some (f (n ∷ ns)) else None

-- the place is the first of both lists, and these are left
pub record IsNext {A B : Type 0} (old : Keyed A) (new : Keyed B) (place : List ℕ) (old_rest : Keyed A) (new_rest : Keyed B) : Type 0 where
  pub passed : (id : List ℕ) → before_all id old ≡ true → before_all id new ≡ true → (slice_cmp nat_cmp id place ≡ Less)
      × (before_all id old_rest ≡ true) × (before_all id new_rest ≡ true)
  pub old_after : before_all place old_rest ≡ true
  pub new_after : before_all place new_rest ≡ true
  pub old_left : (id : List ℕ) → (id ≡ place → ⊥) → at id old_rest ≡ None → at id old ≡ None
  pub new_left : (id : List ℕ) → (id ≡ place → ⊥) → at id new_rest ≡ None → at id new ≡ None
  pub old_order : are_keys_in_order old_rest ≡ true
  pub new_order : are_keys_in_order new_rest ≡ true
  pub fewer : length old_rest + length new_rest < length old + length new
