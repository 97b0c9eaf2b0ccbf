-- How identifiers are packed: bit by bit, the highest bit of a byte first.
use Rattle.std.specs.Prelude.{◌≡◌, ℕ, zero, suc, ◌+◌, ◌-◌, ◌/◌, ◌%◌, ◌^◌, ◌≤◌, ◌==◌, Bool, false, List, [], ◌∷◌, ◌++◌, length, replicate, take, drop, flat_map, if◌then◌else◌}
use Rattle.std.specs.Int.{w32, leading_zeros}
use Rattle.fs_ident.specs.Ident.{IsId}

-- the lowest binary digits of a number, so many of them, the highest first
unfoldable pub binary : ℕ → ℕ → List Bool
binary zero n = []
binary (suc width) n = (n / 2 ^ width % 2 == 1) ∷ binary width n

-- the power to which two is raised in the greatest power of two within a number from 1 to 4294967295
unfoldable pub log2 : ℕ → ℕ
log2 n = 31 - leading_zeros w32 n

-- the Elias gamma code: as many zeros as digits follow the first one, then the digits
unfoldable pub gamma : ℕ → List Bool
gamma n = replicate (log2 n) false ++ binary (log2 n + 1) n

-- the codes of numbers one behind the other
abbrev pub gammas : List ℕ → List Bool
gammas ns = flat_map gamma ns

-- zero bits up to a whole byte
unfoldable pub padded : List Bool → List Bool
padded bits = bits ++ replicate ((8 - length bits % 8) % 8) false

-- the codes of a depth and one, and of numbers
abbrev pub codes_of : ℕ → List ℕ → List Bool
codes_of depth numbers = gamma (depth + 1) ++ gammas numbers

-- the bits of a packed identifier: the codes of its depth and one and of its numbers, and the padding behind them
unfoldable pub packed_bits : List ℕ → List Bool
packed_bits id = padded (codes_of (length id) id)

-- the number with these binary digits
unfoldable pub number_of : List Bool → ℕ
number_of [] = 0
number_of (bit ∷ bits) = (if bit then 2 ^ length bits else 0) + number_of bits

-- the first bytes that bits make, so many of them
unfoldable pub bytes_of : ℕ → List Bool → List ℕ
bytes_of zero bits = []
bytes_of (suc count) bits = number_of (take 8 bits) ∷ bytes_of count (drop 8 bits)

-- the bits of bytes
unfoldable pub bits_of : List ℕ → List Bool
bits_of bytes = flat_map (binary 8) bytes

-- the bytes of a packed identifier
unfoldable pub packed : List ℕ → List ℕ
packed id = bytes_of (length (packed_bits id) / 8) (packed_bits id)

-- the bits begin a packed identifier
pub record BeginsPacked (bits : List Bool) : Type 0 where
  pub id : List ℕ
  pub valid : IsId id
  pub rest : List Bool
  pub begins : packed_bits id ≡ bits ++ rest

-- a prefix of so many bits begins a packed identifier, and no longer one does
pub record IsLongestPacked (bytes : List ℕ) (at : ℕ) : Type 0 where
  pub within : at ≤ length (bits_of bytes)
  pub begins : BeginsPacked (take at (bits_of bytes))
  pub longest : (k : ℕ) → k ≤ length (bits_of bytes) → BeginsPacked (take k (bits_of bytes)) → k ≤ at

-- no front of the bytes is a packed identifier
abbrev pub IsNoPacked : List ℕ → Type 0
IsNoPacked bytes = (id rest : List ℕ) → IsId id → bytes ≡ packed id ++ rest → ⊥
