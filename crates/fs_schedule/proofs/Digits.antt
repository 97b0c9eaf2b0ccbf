-- Laws of the digits of numbers with a limit.
use Rattle.std.proofs.Common.{◌≡◌, ◌≢◌, ℕ, zero, suc, ◌<◌, ◌≤◌, ◌+◌, ◌-◌, ◌*◌, ◌^◌, true, List, [], ◌∷◌, ◌++◌, length, get_or, take, refl, ap, arith, sym, ◌∙◌, subst}
use Rattle.std.specs.Prelude.{min}
use Rattle.std.specs.Char.{digit_value}
use Rattle.std.specs.Fmt.{decimal}
use Rattle.std.specs.Str.Parse.{AllDigits, IsNumeral, digits_value, digits_value_after, without_leading_plus}
use Rattle.std.proofs.lemmas.Bool.Decides.{nat_tests}
use Rattle.std.proofs.lemmas.Fmt.{decimal_digit, first_decimal, decimal-digits_value}
use Rattle.std.proofs.lemmas.List.{take_more}
use Rattle.std.proofs.lemmas.Str.Parse.{digit_at, digit_from_value, numerals_by_value, tells_digits}
use Rattle.fs_schedule.specs.Spelling.{IsNumberOf}
use Rattle.fs_schedule.specs.Reading.{begins_well, capped, IsToldNumber}

-- ## Numbers in their one form

first_well : (ds : List ℕ) → 48 < get_or ds 0 0 → begins_well ds ≡ true
first_well [] h = refl
first_well (d ∷ []) h = grind (arith, nat_tests)
first_well (d ∷ (e ∷ ds)) h = grind (arith, nat_tests)

pub decimal_begins_well : (n : ℕ) → n < 2 ^ 64 → begins_well (decimal n) ≡ true
decimal_begins_well zero h = ap begins_well (decimal_digit 0 (omega arith))
decimal_begins_well (suc n) h = first_well (decimal (suc n)) (first_decimal (suc n) (omega arith) h)

no_plus : (ds : List ℕ) → begins_well ds ≡ true → without_leading_plus ds ≡ ds
no_plus [] h = grind arith
no_plus (d ∷ []) h = grind (arith, nat_tests)
no_plus (d ∷ (e ∷ ds)) h = grind (arith, nat_tests)

no_zero : (ds : List ℕ) → 0 < length ds → begins_well ds ≡ true → get_or ds 0 0 ≡ 48 → length ds ≡ 1
no_zero [] some h z = absurd (omega arith)
no_zero (d ∷ []) some h z = refl
no_zero (d ∷ (e ∷ ds)) some h z = grind (arith, nat_tests)

-- the digits of a number that begin well are its one form
pub well_is_decimal : (ds : List ℕ) → begins_well ds ≡ true → IsNumeral 10 (without_leading_plus ds) → digits_value 10 (without_leading_plus ds) < 2 ^ 64 → decimal (digits_value 10 (without_leading_plus ds)) ≡ ds
well_is_decimal ds h numeral small =
    let plain : without_leading_plus ds ≡ ds = no_plus ds h in
    let P : List ℕ → Type 0 = λ xs. IsNumeral 10 xs in
    let is : IsNumeral 10 ds = subst P plain numeral in
    let below : digits_value 10 ds < 2 ^ 64 = rw (sym plain) small in
    ap (λ xs. decimal (digits_value 10 xs)) plain ∙ decimal-digits_value (numerals_by_value _ tells_digits) ds is.1 is.0 (no_zero ds is.0 h) below

-- ## Numbers with a limit

-- the digits so far, and what they tell
pub record IsTold (most : ℕ) (digits : List ℕ) (n : ℕ) : Type 0 where
  pub all : AllDigits 10 digits
  pub number : n ≡ capped most (digits_value 10 digits)

value_push : (ds : List ℕ) (n c : ℕ) → digits_value_after 10 n (ds ++ c ∷ []) ≡ digits_value_after 10 n ds * 10 + digit_value c
value_push [] n c = refl
value_push (d ∷ ds) n c = value_push ds (n * 10 + digit_value d) c

all_push : (ds : List ℕ) (c : ℕ) → AllDigits 10 ds → digit_value c < 10 → AllDigits 10 (ds ++ c ∷ [])
all_push [] c h k = (k, tt)
all_push (d ∷ ds) c h k = (h.0, all_push ds c h.1 k)

digit_is : (d : ℕ) → d < 10 → digit_value (48 + d) ≡ d
digit_is d low = grind (arith, nat_tests)

pub told_more : (most : ℕ) (digits : List ℕ) (at n m b d : ℕ) → at < length digits → b ≡ get_or digits at 0 → (d < 10) × (b ≡ 48 + d) → m ≡ min (n * 10 + d) (most + 1) → IsTold most (take at digits) n → IsTold most (take (at + 1) digits) m
told_more most digits at n m b d lt e digit q h =
    let is : digit_value b ≡ d = ap digit_value digit.1 ∙ digit_is d digit.0 in
    let value : digits_value 10 (take at digits ++ b ∷ []) ≡ digits_value 10 (take at digits) * 10 + digit_value b = value_push (take at digits) 0 b in
    let P : List ℕ → Type 0 = λ ds. IsTold most ds m in
    let number : n ≡ min (digits_value 10 (take at digits)) (most + 1) = h.number in
    subst P (sym (take_more digits at 0 lt ∙ ap (λ (c : ℕ). take at digits ++ c ∷ []) (sym e))) (record { all = all_push (take at digits) b h.all (omega (arith, digit.0)); number = omega arith })

bad_digit : (digits : List ℕ) (at : ℕ) → at < length digits → AllDigits 10 digits → (48 ≤ get_or digits at 0) × (get_or digits at 0 ≤ 57)
bad_digit digits at lt h =
    let d = digit_at digits at h lt in
    (omega (arith, d.0), omega (arith, d.1))

pub not_told : (most : ℕ) (digits : List ℕ) (at n : ℕ) → at < length digits → ((d : ℕ) → d < 10 → get_or digits at 0 ≡ 48 + d → ⊥) → IsToldNumber most n digits → ⊥
not_told most digits at n lt none h =
    let d = bad_digit digits at lt h.1.valid.1 in
    none (get_or digits at 0 - 48) (omega (arith, d.1)) (omega (arith, d.0))

-- digits have one value
pub one_number : (digits : List ℕ) (m n : ℕ) → IsNumberOf digits m → IsNumberOf digits n → m ≡ n
one_number digits m n h k = sym h.value ∙ k.value

value_least : (ds : List ℕ) (n : ℕ) → n ≤ digits_value_after 10 n ds
value_least [] n = omega arith
value_least (d ∷ ds) n = let more : n * 10 + digit_value d ≤ digits_value_after 10 (n * 10 + digit_value d) ds = value_least ds (n * 10 + digit_value d) in omega arith

-- a number without a leading zero is no zero
pub number_positive : (digits : List ℕ) (n : ℕ) → IsNumberOf digits n → 1 ≤ n
number_positive [] n h = omega (arith, h.valid.0)
number_positive (d ∷ ds) n h =
    let first : d ≢ 48 = h.first in
    let digit = digit_from_value d h.valid.1.0 in
    let some : 1 ≤ digit_value d = grind (arith, nat_tests, digit.0, digit.1) in
    let least : 0 * 10 + digit_value d ≤ digits_value_after 10 (0 * 10 + digit_value d) ds = value_least ds (0 * 10 + digit_value d) in
    let value : digits_value_after 10 (0 * 10 + digit_value d) ds ≡ n = h.value in
    omega arith
