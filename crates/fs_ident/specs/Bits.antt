-- Reading codes from bits, as far as they go.
use Rattle.std.specs.Prelude.{◌≡◌, ℕ, zero, suc, ◌+◌, ◌-◌, ◌*◌, ◌%◌, ◌<◌, ◌≤◌, ◌^◌, Bool, true, false, List, [], ◌∷◌, ◌++◌, length, replicate, take, drop}
use Rattle.std.specs.List.{All}
use Rattle.fs_ident.specs.Ident.{IsNumber}
use Rattle.fs_ident.specs.Packed.{binary, gamma, codes_of, bits_of}
use Rattle.fs_ident.specs.declared.bit_writer.BitWriter.{BitWriter}

-- so many of the first bits, with zeros behind the last one
unfoldable pub front : ℕ → List Bool → List Bool
front zero bits = []
front (suc count) [] = false ∷ front count []
front (suc count) (bit ∷ bits) = bit ∷ front count bits

-- the first 32 bits begin with so many zeros
pub record BeginsZeros (bits : List Bool) (zeros : ℕ) : Type 0 where
  pub few : zeros ≤ 32
  pub before : front zeros bits ≡ replicate zeros false
  pub behind : zeros < 32 → front (zeros + 1) bits ≡ replicate zeros false ++ true ∷ []

-- the bits, with zeros behind the last one, begin with the code of a number of so many digits behind the first
pub record BeginsCode (bits : List Bool) (zeros n : ℕ) : Type 0 where
  pub low : 2 ^ zeros ≤ n
  pub high : n < 2 ^ (zeros + 1)
  pub code : front (zeros + (zeros + 1)) bits ≡ gamma n

-- the bits begin with the code of a number up to the greatest, so many bits wide
pub record IsCode (greatest : ℕ) (bits : List Bool) (n width : ℕ) : Type 0 where
  pub positive : 1 ≤ n
  pub fits : n ≤ greatest
  pub wide : length (gamma n) ≡ width
  pub code : bits ≡ gamma n ++ drop width bits

-- so many bits begin the code of a number up to the greatest without ending it, and one bit more begins none
pub record CodeStops (greatest : ℕ) (bits : List Bool) (at : ℕ) : Type 0 where
  pub within : at ≤ length bits
  pub n : ℕ
  pub positive : 1 ≤ n
  pub fits : n ≤ greatest
  pub rest : List Bool
  pub more : 0 < length rest
  pub begins : gamma n ≡ take at bits ++ rest
  pub longest : at < length bits → (m : ℕ) → 1 ≤ m → m ≤ greatest → (y z : List Bool) → gamma m ++ y ≡ take (at + 1) bits ++ z → ⊥

-- the bits begin with the codes of a depth and one and of numbers, so many bits wide
pub record HasRead (bits : List Bool) (depth : ℕ) (numbers : List ℕ) (at : ℕ) : Type 0 where
  pub few : depth ≤ 32
  pub each : All IsNumber numbers
  pub wide : length (codes_of depth numbers) ≡ at
  pub near : at ≤ 63 * (length numbers + 1)
  pub codes : bits ≡ codes_of depth numbers ++ drop at bits

-- how many bits are wanting up to a whole byte
abbrev pub wanting : ℕ → ℕ
wanting count = (8 - count % 8) % 8

-- behind so many bits there are zeros up to the end of so many bytes
pub record EndsPadded (bits : List Bool) (at used : ℕ) : Type 0 where
  pub whole : 8 * used ≡ at + wanting at
  pub zeros : take (wanting at) (drop at bits) ≡ replicate (wanting at) false

-- of the bits behind so many, up to a whole byte, the first one stands there
pub record PaddingStops (bits : List Bool) (at place : ℕ) : Type 0 where
  pub zeros : ℕ
  pub few : zeros < wanting at
  pub place_is : place ≡ at + zeros
  pub within : place < length bits
  pub padding : take (zeros + 1) (drop at bits) ≡ replicate zeros false ++ true ∷ []

-- the bits that were put in
unfoldable pub written : BitWriter → List Bool
written w = bits_of (take w.whole w.room) ++ binary w.pending w.word

-- how many bits were put in
abbrev pub count_of : BitWriter → ℕ
count_of w = 8 * w.whole + w.pending

-- fewer than eight bits wait for their byte
pub record IsReady (w : BitWriter) : Type 0 where
  pub each : All (λ b. b < 256) (take w.whole w.room)
  pub few : w.pending < 8
  pub low : w.word < 2 ^ w.pending
  pub fits : count_of w ≤ 2080
