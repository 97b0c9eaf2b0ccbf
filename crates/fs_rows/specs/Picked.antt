-- What is told of rows by their numbers, in order.
use Rattle.std.specs.Prelude.{◌≡◌, ◌&&◌, Bool, true, List, [], ◌∷◌}
use Rattle.std.specs.List.{find, list_all, cons_option}
use Rattle.fs_ident.specs.declared.actor.LeaseNo.{LeaseNo}
use Rattle.fs_field.specs.declared.row.Row.{Row}
use Rattle.fs_field.specs.Table.{has_no, no_before}
use Rattle.fs_rows.specs.Index.{has_number}

-- each number is lesser than those behind it
abbrev pub is_rising : List LeaseNo → Bool
is_rising [] = true
is_rising (n ∷ ns) = list_all (λ m. no_before n m) ns && is_rising ns

-- of these numbers each once, in order
pub record AreRising (numbers told : List LeaseNo) : Type 0 where
  pub rising : is_rising told ≡ true
  pub same : (number : LeaseNo) → has_number number told ≡ has_number number numbers

-- of each number the row that has it, where it passes
abbrev pub picked : (Row → Bool) → List Row → List LeaseNo → List Row
picked test rows [] = []
picked test rows (n ∷ ns) = cons_option (find (λ r. has_no n r && test r) rows) (picked test rows ns)
