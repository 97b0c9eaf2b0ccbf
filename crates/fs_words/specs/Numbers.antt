-- Numbers of the command line: decimal digits in their one form, without a leading zero.
use Rattle.std.specs.Prelude.{ℕ, ◌+◌, ◌*◌, ◌-◌, ◌==◌, ◌&&◌, nat_le, List, [], ◌∷◌, Option, Some, None, option_and_then, if◌then◌else◌}

-- a number with one more digit at its end, where this is one and the number is at most `most`
abbrev pub with_digit : ℕ → ℕ → ℕ → Option ℕ
with_digit most n b = if nat_le 48 b && nat_le b 57 && nat_le (n * 10 + (b - 48)) most then Some (n * 10 + (b - 48)) else None

-- the same with these digits
abbrev pub with_digits : ℕ → ℕ → List ℕ → Option ℕ
with_digits most n [] = Some n
with_digits most n (b ∷ bs) = option_and_then (λ m. with_digits most m bs) (with_digit most n b)

-- the number that is written like this, where it is at most `most`
abbrev pub number_in : ℕ → List ℕ → Option ℕ
number_in most [] = None
number_in most (b ∷ []) = with_digits most 0 (b ∷ [])
number_in most (b ∷ (c ∷ bs)) = if b == 48 then None else with_digits most 0 (b ∷ (c ∷ bs))

abbrev pub at_least : ℕ → ℕ → Option ℕ
at_least least n = if nat_le least n then Some n else None

-- the number, where it is within both bounds
abbrev pub number_between : ℕ → ℕ → List ℕ → Option ℕ
number_between least most text = option_and_then (at_least least) (number_in most text)
