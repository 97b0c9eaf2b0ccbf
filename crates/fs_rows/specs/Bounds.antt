-- What a table knows of all its rows, so as not to look at each.
use Rattle.std.specs.Prelude.{◌≡◌, ◌≤◌, ℕ, Bool, false, not, nat_lt, ◌&&◌, List, [], ◌∷◌, is_some, if◌then◌else◌}
use Rattle.fs_ident.specs.In.{In}
use Rattle.fs_field.specs.declared.row.Row.{Row}

-- the lesser of this and the row's end, where no transaction keeps the row
abbrev pub end_or : ℕ → Row → ℕ
end_or least row = if not (is_some row.lock) && nat_lt row.until least then row.until else least

-- the least of this and the ends of the rows that no transaction keeps
abbrev pub least_end : ℕ → List Row → ℕ
least_end least [] = least
least_end least (r ∷ rs) = least_end (end_or least r) rs

-- no row that no transaction keeps ends sooner
abbrev pub EndNoSooner : ℕ → List Row → Type 0
EndNoSooner least rows = (row : Row) → In row rows → is_some row.lock ≡ false → least ≤ row.until

-- a transaction keeps a row only where this says so
abbrev pub AreLocksKnown : Bool → List Row → Type 0
AreLocksKnown locked rows = locked ≡ false → (row : Row) → In row rows → is_some row.lock ≡ false

-- both
pub record AreBounds (least : ℕ) (locked : Bool) (rows : List Row) : Type 0 where
  pub ends : EndNoSooner least rows
  pub locks : AreLocksKnown locked rows
