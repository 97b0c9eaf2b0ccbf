-- Numbers of the command line are decimals.
use Rattle.std.proofs.Common.{◌≡◌, ◌≢◌, ℕ, zero, suc, ◌+◌, ◌*◌, ◌-◌, ◌<◌, ◌≤◌, ◌^◌, List, [], ◌∷◌, length, get_or, refl, ap, sym, ◌∙◌, arith}
use Rattle.std.specs.Prelude.{Option, Some, None, ◌==◌, if◌then◌else◌, option_and_then}
use Rattle.std.specs.Char.{digit_value}
use Rattle.std.specs.Fmt.{decimal}
use Rattle.std.specs.Str.Parse.{AllDigits, digits_value, digits_value_after}
use Rattle.std.proofs.lemmas.Bool.Decides.{nat_tests}
use Rattle.std.proofs.lemmas.Fmt.{decimal_digit, decimal-digits_value, decimal_is_IsNumeral, first_decimal}
use Rattle.std.proofs.lemmas.Str.Parse.{digit_from_value, numerals_by_value, tells_digits}
use Rattle.fs_words.specs.Numbers.{number_in, with_digit, with_digits}

-- ## Digits

digit_less : (b : ℕ) → 48 ≤ b → b ≤ 57 → digit_value b ≡ b - 48
digit_less b low high = grind (arith, nat_tests)

grows : (n : ℕ) (ds : List ℕ) → n ≤ digits_value_after 10 n ds
grows n [] = omega arith
grows n (d ∷ ds) = omega (arith, grows (n * 10 + digit_value d) ds)

one_digit : (most n b : ℕ) → 48 ≤ b → b ≤ 57 → n * 10 + (b - 48) ≤ most → with_digit most n b ≡ Some (n * 10 + (b - 48))
one_digit most n b low high small = grind (arith, nat_tests)

-- what is read of one digit
record IsDigit (most n b k : ℕ) : Type 0 where
  low : 48 ≤ b
  high : b ≤ 57
  value : k ≡ n * 10 + (b - 48)
  small : k ≤ most

digit_only : (most n b k : ℕ) → with_digit most n b ≡ Some k → IsDigit most n b k
digit_only most n b k h = record {
  low = grind (arith, nat_tests);
  high = grind (arith, nat_tests);
  value = grind (arith, nat_tests);
  small = grind (arith, nat_tests);
}

bound : (o : Option ℕ) (f : ℕ → Option ℕ) (m : ℕ) → option_and_then f o ≡ Some m → (k : ℕ) × (o ≡ Some k) × (f k ≡ Some m)
bound None f m h = absurd (cc h)
bound (Some k) f m h = (k, refl, h)

-- ## Reading digits

digits_read : (most n : ℕ) (ds : List ℕ) → AllDigits 10 ds → digits_value_after 10 n ds ≤ most → with_digits most n ds ≡ Some (digits_value_after 10 n ds)
digits_read most n [] a h = refl
digits_read most n (d ∷ ds) a h =
    let r = digit_from_value d a.0 in
    let same : digit_value d ≡ d - 48 = digit_less d r.0 r.1 in
    let small : n * 10 + (d - 48) ≤ most = omega (arith, same, grows (n * 10 + digit_value d) ds, h) in
    ap (λ (o : Option ℕ). option_and_then (λ m. with_digits most m ds) o) (one_digit most n d r.0 r.1 small)
    ∙ ap (λ (k : ℕ). with_digits most (n * 10 + k) ds) (sym same) ∙ digits_read most (n * 10 + digit_value d) ds a.1 h

-- the digits tell the number
record AreDigits (most n m : ℕ) (ds : List ℕ) : Type 0 where
  all : AllDigits 10 ds
  value : digits_value_after 10 n ds ≡ m
  small : m ≤ most

read_digits : (most n m : ℕ) (ds : List ℕ) → n ≤ most → with_digits most n ds ≡ Some m → AreDigits most n m ds
read_digits most n m [] le h = let e : n ≡ m = cc h in record { all = tt; value = e; small = omega (arith, e, le) }
read_digits most n m (d ∷ ds) le h =
    let b = bound (with_digit most n d) (λ k. with_digits most k ds) m h in
    let one = digit_only most n d b.0 b.1 in
    let rest = read_digits most b.0 m ds one.small b.2 in
    let same : digit_value d ≡ d - 48 = digit_less d one.low one.high in
    record {
      all = (omega (arith, same, one.high, one.low), rest.all);
      value = ap (λ (k : ℕ). digits_value_after 10 k ds) (ap (λ (k : ℕ). n * 10 + k) same ∙ sym one.value) ∙ rest.value;
      small = rest.small;
    }

-- ## Numbers

not_zero : (b n : ℕ) (o : Option ℕ) → (if b == 48 then None else o) ≡ Some n → (b ≢ 48) × (o ≡ Some n)
not_zero b n o h = grind (arith, nat_tests)

one_form : (most n : ℕ) (ds : List ℕ) → most < 2 ^ 64 → 0 < length ds → (get_or ds 0 0 ≡ 48 → length ds ≡ 1) → with_digits most 0 ds ≡ Some n → (ds ≡ decimal n) × (n ≤ most)
one_form most n ds limit some lead h =
    let r = read_digits most 0 n ds (omega arith) h in
    let small : digits_value 10 ds < 2 ^ 64 = omega (arith, r.value, r.small, limit) in
    (sym (decimal-digits_value (numerals_by_value _ tells_digits) ds r.all some lead small) ∙ ap decimal r.value, r.small)

pub number_is_decimal : (most n : ℕ) (text : List ℕ) → most < 2 ^ 64 → number_in most text ≡ Some n → (text ≡ decimal n) × (n ≤ most)
number_is_decimal most n [] limit h = absurd (cc h)
number_is_decimal most n (b ∷ []) limit h = one_form most n (b ∷ []) limit (omega arith) (λ _. refl) h
number_is_decimal most n (b ∷ (c ∷ bs)) limit h =
    let r = not_zero b n (with_digits most 0 (b ∷ (c ∷ bs))) h in
    one_form most n (b ∷ (c ∷ bs)) limit (omega arith) (λ e. absurd (r.0 e)) r.1

passes : (b : ℕ) (o : Option ℕ) → b ≢ 48 → (if b == 48 then None else o) ≡ o
passes b o h = grind (arith, nat_tests)

all_read : (most n : ℕ) (ds : List ℕ) → 0 < length ds → AllDigits 10 ds → digits_value 10 ds ≡ n → n ≤ most → (get_or ds 0 0 ≡ 48 → length ds ≡ 1) → number_in most ds ≡ Some n
all_read most n [] some all value small lead = absurd (omega (arith, some))
all_read most n (b ∷ []) some all value small lead = digits_read most 0 (b ∷ []) all (omega (arith, value, small)) ∙ ap Some value
all_read most n (b ∷ (c ∷ bs)) some all value small lead =
    let read : with_digits most 0 (b ∷ (c ∷ bs)) ≡ Some n = digits_read most 0 (b ∷ (c ∷ bs)) all (omega (arith, value, small)) ∙ ap Some value in
    let other : b ≢ 48 = λ e. absurd (omega (arith, lead e)) in
    passes b (with_digits most 0 (b ∷ (c ∷ bs))) other ∙ read

begins_well : (n : ℕ) → n < 2 ^ 64 → get_or (decimal n) 0 0 ≡ 48 → length (decimal n) ≡ 1
begins_well zero small h = ap length (decimal_digit 0 (omega arith))
begins_well (suc n) small h = absurd (omega (arith, first_decimal (suc n) (omega arith) small, h))

pub decimal_is_number : (most n : ℕ) → most < 2 ^ 64 → n ≤ most → number_in most (decimal n) ≡ Some n
decimal_is_number most n limit small =
    let below : n < 2 ^ 64 = omega (arith, limit, small) in
    let k = decimal_is_IsNumeral n below in
    all_read most n (decimal n) k.0.0 k.0.1 k.1 small (begins_well n below)
