-- Two tables of rows, of which one list in order is made.
use Rattle.std.specs.Prelude.{◌≡◌, Bool, true, false, List, [], ◌∷◌, reverse, Option, Some, None}
use Rattle.fs_field.specs.Table.{is_ordered, no_before}
use Rattle.fs_field.specs.declared.row.Row.{Row}
use Rattle.fs_parcel.specs.Rows.{in_one_list}

-- all rows of two tables in falling order of number, in order
abbrev pub both_of : List Row → List Row → List Row
both_of plain modes = in_one_list (reverse plain) (reverse modes)

-- the numbers fall in both tables, and no two rows have one number
pub record AreFalling (plain modes : List Row) : Type 0 where
  pub plain_falls : is_ordered (reverse plain) ≡ true
  pub modes_falls : is_ordered (reverse modes) ≡ true
  pub all : is_ordered (both_of plain modes) ≡ true

-- the first row of the first table comes before that of the second, if there is one
abbrev pub is_first : List Row → List Row → Bool
is_first [] modes = false
is_first (x ∷ xs) [] = true
is_first (x ∷ xs) (y ∷ ys) = no_before x.no y.no

-- the row is the first of all these, and the others are left; without one there is none
abbrev pub IsFirstOf : Option Row → List Row → List Row → Type 0
IsFirstOf None all rest = all ≡ []
IsFirstOf (Some row) all rest = all ≡ row ∷ rest

-- the row is taken out of two tables, and these are left
pub record IsLeastTaken (row : Option Row) (plain modes new_plain new_modes : List Row) : Type 0 where
  pub falling : AreFalling new_plain new_modes
  pub next : IsFirstOf row (both_of plain modes) (both_of new_plain new_modes)
