-- The last number of an identifier.
use Rattle.std.proofs.Common.{◌≡◌, ℕ, List, [], ◌∷◌, ◌++◌, refl}
use Rattle.std.specs.Prelude.{Some}
use Rattle.fs_field.specs.Table.{last_number}

pub last_number-append : (front : List ℕ) (k : ℕ) → last_number (front ++ k ∷ []) ≡ Some k
last_number-append [] k = refl
last_number-append (n ∷ []) k = refl
last_number-append (n ∷ m ∷ ms) k = last_number-append (m ∷ ms) k
