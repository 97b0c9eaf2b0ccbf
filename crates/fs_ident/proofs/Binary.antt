-- Binary digits of numbers.
use Rattle.std.proofs.Common.{◌≡◌, ℕ, zero, suc, ◌+◌, ◌*◌, ◌/◌, ◌%◌, ◌^◌, ◌<◌, ◌==◌, Bool, true, false, List, [], ◌∷◌, ◌++◌, length, replicate, refl, sym, ◌∙◌, ap, arith}
use Rattle.std.specs.Prelude.{if◌then◌else◌}
use Rattle.std.proofs.lemmas.Nat.{pow_pos, shr-shr, field_of, mod-pow-add, div-mul-add, mod-mul-add}
use Rattle.std.proofs.Math.Nat.{pow-suc}
use Rattle.fs_ident.specs.Packed.{binary, number_of}

pub length-binary : (w n : ℕ) → length (binary w n) ≡ w
unfolding binary
length-binary zero n = refl
length-binary (suc w) n = ap suc (length-binary w n)

pub binary-append : (a b n : ℕ) → binary (a + b) n ≡ binary a (n / 2 ^ b) ++ binary b n
unfolding binary
binary-append zero b n = ap (λ (k : ℕ). binary k n) (omega arith)
binary-append (suc a) b n =
    let e : suc a + b ≡ suc (a + b) = omega arith in
    let place : n / 2 ^ (a + b) ≡ n / 2 ^ b / 2 ^ a = ap (λ (k : ℕ). n / 2 ^ k) (omega arith) ∙ sym (shr-shr n b a) in
    ap (λ (k : ℕ). binary k n) e ∙ ap (λ (m : ℕ). (m % 2 == 1) ∷ binary (a + b) n) place ∙ ap (λ (bs : List Bool). (n / 2 ^ b / 2 ^ a % 2 == 1) ∷ bs) (binary-append a b n)

-- the lowest digit of the lowest digits
low_odd : (m j : ℕ) → m % 2 ^ suc j % 2 ≡ m % 2
low_odd m j =
    let e : m % 2 ^ (j + 1) ≡ (m / 2 ^ 1 % 2 ^ j) * 2 ^ 1 + m % 2 ^ 1 = mod-pow-add m j 1 in
    let s : suc j ≡ j + 1 = omega arith in
    ap (λ (k : ℕ). m % 2 ^ k % 2) s ∙ omega (arith, e)

-- only the lowest digits count
pub binary-mod : (w j n : ℕ) → binary w (n % 2 ^ (j + w)) ≡ binary w n
unfolding binary
binary-mod zero j n = refl
binary-mod (suc w) j n =
    let s : j + suc w ≡ suc j + w = omega arith in
    let digit : n % 2 ^ (suc j + w) / 2 ^ w % 2 ≡ n / 2 ^ w % 2 = ap (λ (m : ℕ). m % 2) (field_of n (suc j) w) ∙ low_odd (n / 2 ^ w) j in
    ap (λ (k : ℕ). binary (suc w) (n % 2 ^ k)) s
    ∙ ap (λ (d : ℕ). (d == 1) ∷ binary w (n % 2 ^ (suc j + w))) digit
    ∙ ap (λ (bs : List Bool). (n / 2 ^ w % 2 == 1) ∷ bs) (binary-mod w (suc j) n)

pub binary_low : (w n : ℕ) → binary w (n % 2 ^ w) ≡ binary w n
binary_low w n = ap (λ (k : ℕ). binary w (n % 2 ^ k)) (omega arith) ∙ binary-mod w 0 n

pub binary_zero : (w : ℕ) → binary w 0 ≡ replicate w false
unfolding binary
binary_zero zero = refl
binary_zero (suc w) =
    let e : 0 / 2 ^ w % 2 ≡ 0 = omega (arith, pow_pos w) in
    ap (λ (d : ℕ). (d == 1) ∷ binary w 0) e ∙ ap (λ (bs : List Bool). false ∷ bs) (binary_zero w)

pub length-number_of : (bits : List Bool) → number_of bits < 2 ^ length bits
unfolding number_of
length-number_of [] = omega arith
length-number_of (true ∷ bits) = omega (arith, length-number_of bits, pow-suc 2 (length bits))
length-number_of (false ∷ bits) = omega (arith, length-number_of bits, pow-suc 2 (length bits))

-- a digit is worth its power
digit_worth : (d p r : ℕ) → d < 2 → (if d == 1 then p else 0) + r ≡ d * p + r
digit_worth zero p r lt = omega arith
digit_worth (suc zero) p r lt = omega arith
digit_worth (suc (suc d)) p r lt = absurd (omega arith)

-- the number of its digits
pub number_of-binary : (w n : ℕ) → number_of (binary w n) ≡ n % 2 ^ w
unfolding binary number_of
number_of-binary zero n = omega arith
number_of-binary (suc w) n =
    let split : n % 2 ^ (1 + w) ≡ (n / 2 ^ w % 2 ^ 1) * 2 ^ w + n % 2 ^ w = mod-pow-add n 1 w in
    ap (λ (k : ℕ). (if n / 2 ^ w % 2 == 1 then 2 ^ k else 0) + number_of (binary w n)) (length-binary w n)
    ∙ digit_worth (n / 2 ^ w % 2) (2 ^ w) (number_of (binary w n)) (omega arith)
    ∙ ap (λ (r : ℕ). n / 2 ^ w % 2 * 2 ^ w + r) (number_of-binary w n)
    ∙ sym split
    ∙ ap (λ (k : ℕ). n % 2 ^ k) (omega arith)

-- one digit above others
top_digit : (x k r : ℕ) → x < 2 → r < 2 ^ k → binary (suc k) (x * 2 ^ k + r) ≡ (x == 1) ∷ binary k r
unfolding binary
top_digit x k r bit lt =
    let over : (x * 2 ^ k + r) / 2 ^ k ≡ x = div-mul-add x (2 ^ k) r lt in
    let under : (x * 2 ^ k + r) % 2 ^ k ≡ r = mod-mul-add x (2 ^ k) r lt in
    let digit : (x * 2 ^ k + r) / 2 ^ k % 2 ≡ x = ap (λ (m : ℕ). m % 2) over ∙ omega arith in
    ap (λ (d : ℕ). (d == 1) ∷ binary k (x * 2 ^ k + r)) digit
    ∙ ap (λ (bs : List Bool). (x == 1) ∷ bs) (sym (binary_low k (x * 2 ^ k + r)) ∙ ap (binary k) under)

binary_none : binary 0 0 ≡ []
unfolding binary
binary_none = refl

pub binary-number_of : (bits : List Bool) → binary (length bits) (number_of bits) ≡ bits
unfolding number_of
binary-number_of [] = binary_none
binary-number_of (true ∷ bits) =
    ap (λ (m : ℕ). binary (suc (length bits)) (m + number_of bits)) (omega arith)
    ∙ top_digit 1 (length bits) (number_of bits) (omega arith) (length-number_of bits)
    ∙ ap (λ (bs : List Bool). true ∷ bs) (binary-number_of bits)
binary-number_of (false ∷ bits) =
    ap (λ (m : ℕ). binary (suc (length bits)) (m + number_of bits)) (omega arith)
    ∙ top_digit 0 (length bits) (number_of bits) (omega arith) (length-number_of bits)
    ∙ ap (λ (bs : List Bool). false ∷ bs) (binary-number_of bits)

-- a byte more
pub binary_byte : (w m b : ℕ) → b < 256 → binary (w + 8) (m * 256 + b) ≡ binary w m ++ binary 8 b
binary_byte w m b lt =
    let over : (m * 256 + b) / 2 ^ 8 ≡ m = omega arith in
    let under : (m * 256 + b) % 2 ^ 8 ≡ b = omega arith in
    binary-append w 8 (m * 256 + b)
    ∙ ap (λ (k : ℕ). binary w k ++ binary 8 (m * 256 + b)) over
    ∙ ap (λ (bs : List Bool). binary w m ++ bs) (sym (binary_low 8 (m * 256 + b)) ∙ ap (binary 8) under)
