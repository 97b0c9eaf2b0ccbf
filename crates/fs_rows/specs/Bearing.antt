-- Which numbers the files of rows bear.
use Rattle.std.specs.Prelude.{◌≡◌, ◌==◌, ℕ, List}
use Rattle.std.specs.List.{list_any}
use Rattle.std.specs.List.Sorted.{IsStrictlyIncreasing}

-- of these numbers each once, ascending
pub record AreInOrderOnce (numbers told : List ℕ) : Type 0 where
  pub rising : IsStrictlyIncreasing told
  pub same : (k : ℕ) → list_any (λ b. b == k) told ≡ list_any (λ b. b == k) numbers
