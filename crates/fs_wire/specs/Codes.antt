-- How a packed identifier is read from bits, code by code, or at which bit it goes wrong.
use Rattle.std.specs.Prelude.{ℕ, zero, suc, ◌+◌, ◌-◌, ◌*◌, ◌/◌, ◌%◌, Bool, false, List, [], ◌∷◌, ◌++◌, length, take, drop, replicate, min, Result, Ok, Err, nat_lt, if◌then◌else◌}
use Rattle.std.specs.Int.{w32, leading_zeros}
use Rattle.fs_ident.specs.Packed.{number_of}

-- so many of the first bits, with zeros behind the last one
abbrev pub first : ℕ → List Bool → List Bool
first count bits = take count bits ++ replicate (count - length bits) false

-- how many zeros stand before a one, among the first 32 bits
abbrev pub zeros_before : List Bool → ℕ
zeros_before bits = leading_zeros w32 (number_of (first 32 bits))

-- how wide a code is that begins with these bits: behind its zeros and a one there are as many digits as zeros
abbrev pub width_of : List Bool → ℕ
width_of bits = 2 * zeros_before bits + 1

-- the number whose code it is
abbrev pub coded : List Bool → ℕ
coded bits = number_of (first (width_of bits) bits)

-- the number and the width of its code, where all its bits are there; else how many are
abbrev pub whole_code : List Bool → Result (ℕ × ℕ) ℕ
whole_code bits = if nat_lt (length bits) (width_of bits) then Err (length bits) else Ok (coded bits, width_of bits)

-- the code in front, of a number up to the greatest, which has so many digits behind its first one: the number and the width of its code;
-- else how many bits still begin such a code
unfoldable pub code_in : ℕ → ℕ → List Bool → Result (ℕ × ℕ) ℕ
code_in digits greatest bits =
    if nat_lt digits (zeros_before bits) then Err (min digits (length bits))
    else if nat_lt greatest (coded bits) then Err (digits + 1 + zeros_before (drop (digits + 1) bits)) else whole_code bits

-- the step behind, where nothing went wrong
abbrev pub go_on : {A B : Type 0} → Result A ℕ → (A → Result B ℕ) → Result B ℕ
go_on (Ok x) more = more x
go_on (Err at) more = Err at

-- a fault so many bits further
abbrev pub further : {A : Type 0} → ℕ → Result A ℕ → Result A ℕ
further at (Ok x) = Ok x
further at (Err bit) = Err (at + bit)

-- the codes of so many numbers from a bit on: the numbers, and the bit behind them; else the bit where they go wrong
unfoldable pub numbers_in : ℕ → ℕ → List Bool → Result (List ℕ × ℕ) ℕ
numbers_in zero at bits = Ok ([], at)
numbers_in (suc count) at bits =
    go_on (further at (code_in 31 4294967295 (drop at bits))) (λ c. go_on (numbers_in count (at + c.1) bits) (λ x. Ok (c.0 ∷ x.0, x.1)))

-- how many bits are wanting up to a whole byte
abbrev pub wanting : ℕ → ℕ
wanting at = (8 - at % 8) % 8

-- the zeros from a bit on up to a whole byte: how many bytes there are then; else the first bit that is a one
unfoldable pub padding_in : ℕ → List Bool → Result ℕ ℕ
padding_in at bits =
    if nat_lt (zeros_before (drop at bits)) (wanting at) then Err (at + zeros_before (drop at bits)) else Ok ((at + wanting at) / 8)

-- the identifier and how many bytes it takes; else the bit where it goes wrong
unfoldable pub identifier_in : List Bool → Result (List ℕ × ℕ) ℕ
identifier_in bits =
    go_on (code_in 5 33 bits) (λ depth. go_on (numbers_in (depth.0 - 1) depth.1 bits) (λ id.
    go_on (padding_in id.1 bits) (λ used. Ok (id.0, used))))
