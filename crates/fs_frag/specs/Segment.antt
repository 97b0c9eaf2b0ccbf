-- Segments: what one packet can carry.
use Rattle.std.specs.Prelude.{ℕ, ◌≤◌, List, length}

-- from 1 to 1,024 bytes
pub record IsSegment (bytes : List ℕ) : Type 0 where
  pub some : 1 ≤ length bytes
  pub few : length bytes ≤ 1024
