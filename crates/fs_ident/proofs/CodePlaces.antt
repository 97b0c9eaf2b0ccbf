-- Where reading a code stops.
use Rattle.std.proofs.Common.{◌≡◌, ℕ, ◌+◌, ◌-◌, ◌*◌, ◌/◌, ◌%◌, ◌^◌, ◌<◌, ◌≤◌, min, Bool, true, false, List, [], ◌∷◌, ◌++◌, length, take, drop, replicate, refl, sym, ◌∙◌, ap, subst, append_assoc, arith, inl, inr, length-append, length-drop}
use Rattle.std.specs.Int.Count.{count_leading_zeros}
use Rattle.std.proofs.lemmas.Bool.Decides.{leb_tells}
use Rattle.std.proofs.lemmas.List.{take-append-drop, take_all, length-replicate, replicate-append-replicate}
use Rattle.std.proofs.lemmas.Nat.{pow_pos, pow_below}
use Rattle.std.proofs.Math.Pow.{pow_mono}
use Rattle.fs_ident.specs.Ident.{IsNumber}
use Rattle.fs_ident.specs.Packed.{binary, log2, gamma, number_of}
use Rattle.fs_ident.specs.Bits.{front, BeginsZeros, BeginsCode, IsCode, CodeStops}
use Rattle.fs_ident.proofs.Binary.{length-binary, binary-append, number_of-binary}
use Rattle.fs_ident.proofs.Fronts.{front-add, front_within, front_past, front_part, fewer_zeros, one_within}
use Rattle.fs_ident.proofs.Codes.{log2_is, log2_low, length-gamma, gamma_is, same_zeros, zeros_clash}

twice : (z : ℕ) → 2 * z + 1 ≡ z + (z + 1)
twice z = omega arith

-- a code that goes on behind the end
pub ends_early : (bits : List Bool) (zeros n held greatest : ℕ) → zeros < 32 → BeginsCode bits zeros n → n ≤ greatest → held ≡ min (2 * zeros + 1) (length bits) → held < 2 * zeros + 1 → CodeStops greatest bits held
ends_early bits zeros n held greatest few begins fits e short =
    let all : held ≡ length bits = omega arith in
    let pos : 0 < 2 ^ zeros = pow_pos zeros in
    let past : front (zeros + (zeros + 1)) bits ≡ bits ++ replicate ((zeros + (zeros + 1)) - length bits) false = front_past (zeros + (zeros + 1)) bits (omega arith) in
    let whole : take held bits ≡ bits = take_all held bits (omega arith) in
    record {
      within = omega arith;
      n = n;
      positive = omega (arith, begins.low);
      fits = fits;
      rest = replicate ((zeros + (zeros + 1)) - length bits) false;
      more = omega (arith, length-replicate ((zeros + (zeros + 1)) - length bits) false);
      begins = sym begins.code ∙ past ∙ ap (λ (bs : List Bool). bs ++ replicate ((zeros + (zeros + 1)) - length bits) false) (sym whole);
      longest = λ lt m low high y z same. omega arith;
    }

-- a code that stands there whole
pub stands_whole : (bits : List Bool) (zeros n held greatest : ℕ) → zeros < 32 → BeginsCode bits zeros n → n ≤ greatest → held ≡ min (2 * zeros + 1) (length bits) → 2 * zeros + 1 ≤ held → IsCode greatest bits n (2 * zeros + 1)
stands_whole bits zeros n held greatest few begins fits e long =
    let pos : 0 < 2 ^ zeros = pow_pos zeros in
    let log : log2 n ≡ zeros = log2_is n zeros few begins.low begins.high in
    let here : gamma n ≡ take (2 * zeros + 1) bits = sym begins.code ∙ front_within (zeros + (zeros + 1)) bits (omega arith) ∙ ap (λ (k : ℕ). take k bits) (sym (twice zeros)) in
    record {
      positive = omega (arith, begins.low);
      fits = fits;
      wide = length-gamma n ∙ ap (λ (k : ℕ). k + (k + 1)) log ∙ sym (twice zeros);
      code = sym (take-append-drop (2 * zeros + 1) bits) ∙ ap (λ (bs : List Bool). bs ++ drop (2 * zeros + 1) bits) (sym here);
    }

-- the power that a number up to a bound reaches
below_power : (m k : ℕ) → IsNumber m → m < 2 ^ (k + 1) → log2 m ≤ k
below_power m k number lt = elim (leb_tells (log2 m) k) [ inl p ↦ p.1 | inr q ↦ absurd (above q.1) ]
  where
    above : k < log2 m → ⊥
    above gt =
        let powers : 2 ^ (k + 1) ≤ 2 ^ log2 m = pow_mono (omega arith) in
        omega (arith, (log2_low m number).0)

-- more zeros than any code begins with
pub too_many_zeros : (bits : List Bool) (zeros limit greatest held : ℕ) → BeginsZeros bits zeros → limit < zeros → limit < 32 → 2 ^ limit ≤ greatest → greatest < 2 ^ (limit + 1) → held ≡ min limit (length bits) → CodeStops greatest bits held
too_many_zeros bits zeros limit greatest held begins many few low high e =
    let more : zeros ≡ (limit + 1) + (zeros - (limit + 1)) = omega arith in
    let run : front (limit + 1) bits ≡ replicate (limit + 1) false = fewer_zeros (limit + 1) (zeros - (limit + 1)) bits (subst (λ (k : ℕ). front k bits ≡ replicate k false) more begins.before) in
    let limit_is : limit + 1 ≡ held + ((limit + 1) - held) = omega arith in
    let held_run : front held bits ≡ replicate held false = fewer_zeros held ((limit + 1) - held) bits (subst (λ (k : ℕ). front k bits ≡ replicate k false) limit_is run) in
    let taken : take held bits ≡ replicate held false = sym (front_within held bits (omega arith)) ∙ held_run in
    let bound : 2 ^ (limit + 1) ≤ 2 ^ 32 = pow_mono {j = 32} (omega arith) in
    let least : IsNumber (2 ^ limit) = record { positive = pow_pos limit; fits = omega arith } in
    let below : 2 ^ limit < 2 ^ (limit + 1) = pow_below limit (limit + 1) (omega arith) in
    let log : log2 (2 ^ limit) ≡ limit = log2_is (2 ^ limit) limit few (omega arith) below in
    let parts : limit ≡ held + (limit - held) = omega arith in
    record {
      within = omega arith;
      n = 2 ^ limit;
      positive = pow_pos limit;
      fits = low;
      rest = replicate (limit - held) false ++ (true ∷ binary limit (2 ^ limit));
      more = omega (arith, length-append (replicate (limit - held) false) (true ∷ binary limit (2 ^ limit)));
      begins = gamma_is (2 ^ limit) least
          ∙ ap (λ (k : ℕ). replicate k false ++ (true ∷ binary k (2 ^ limit))) log
          ∙ ap (λ (k : ℕ). replicate k false ++ (true ∷ binary limit (2 ^ limit))) parts
          ∙ ap (λ (bs : List Bool). bs ++ (true ∷ binary limit (2 ^ limit))) (sym (replicate-append-replicate held (limit - held) false))
          ∙ append_assoc (replicate held false) (replicate (limit - held) false) (true ∷ binary limit (2 ^ limit))
          ∙ ap (λ (bs : List Bool). bs ++ (replicate (limit - held) false ++ (true ∷ binary limit (2 ^ limit)))) (sym taken);
      longest = λ lt m positive fits y z same.
          let whole : take (held + 1) bits ≡ replicate (limit + 1) false = ap (λ (k : ℕ). take (k + 1) bits) (at_limit lt) ∙ sym (front_within (limit + 1) bits (omega arith)) ∙ run in
          let number : IsNumber m = record { positive = positive; fits = omega arith } in
          let code : replicate (log2 m) false ++ (true ∷ (binary (log2 m) m ++ y)) ≡ replicate (limit + 1) false ++ z = sym (append_assoc (replicate (log2 m) false) (true ∷ binary (log2 m) m) y) ∙ ap (λ (bs : List Bool). bs ++ y) (sym (gamma_is m number)) ∙ same ∙ ap (λ (bs : List Bool). bs ++ z) whole in
          let reach : log2 m ≤ limit = below_power m limit number (omega arith) in
          zeros_clash (log2 m) (limit + 1) (binary (log2 m) m ++ y) z (omega arith) code;
    }
  where
    at_limit : held < length bits → held ≡ limit
    at_limit lt = omega arith

gamma_32 : gamma 32 ≡ (replicate 5 false ++ true ∷ []) ++ replicate 5 false
unfolding gamma log2 binary count_leading_zeros
gamma_32 = refl

half_of_32 : binary 4 16 ≡ replicate 4 false
unfolding binary
half_of_32 = refl

number_of_zeros : number_of (replicate 4 false) ≡ 0
unfolding number_of
number_of_zeros = refl

only_five : (zeros n : ℕ) → zeros ≤ 5 → 33 < n → n < 2 ^ (zeros + 1) → zeros ≡ 5
only_five zeros n few deep lt = elim (leb_tells zeros 4) [ inl p ↦ absurd (fewer p.1) | inr q ↦ omega (arith, q.1) ]
  where
    fewer : zeros ≤ 4 → ⊥
    fewer le =
        let powers : 2 ^ (zeros + 1) ≤ 2 ^ 5 = pow_mono {j = 5} (omega arith) in
        omega arith

-- of the five bits behind, one of the first four is one
first_one : (bits : List Bool) (n k : ℕ) → 33 < n → n < 64 → BeginsZeros (drop 6 bits) k → front 5 (drop 6 bits) ≡ binary 5 n → k < 4
first_one bits n k deep high run digits = elim (leb_tells 4 k) [ inl p ↦ absurd (none p.1) | inr q ↦ q.1 ]
  where
    none : 4 ≤ k → ⊥
    none le =
        let more : k ≡ 4 + (k - 4) = omega arith in
        let zeros : front 4 (drop 6 bits) ≡ replicate 4 false = fewer_zeros 4 (k - 4) (drop 6 bits) (subst (λ (j : ℕ). front j (drop 6 bits) ≡ replicate j false) more run.before) in
        let halves = front_part 4 1 (drop 6 bits) (binary 4 (n / 2 ^ 1)) (binary 1 n) (length-binary 4 (n / 2 ^ 1)) (digits ∙ binary-append 4 1 n) in
        let value : (n / 2 ^ 1) % 2 ^ 4 ≡ 0 = sym (number_of-binary 4 (n / 2 ^ 1)) ∙ ap number_of (sym halves.0 ∙ zeros) ∙ number_of_zeros in
        omega arith

-- no number up to 33 has a one among these four bits
no_code : (m k : ℕ) → 1 ≤ m → m ≤ 33 → k < 4 → (y z : List Bool) → gamma m ++ y ≡ ((replicate 5 false ++ true ∷ []) ++ (replicate k false ++ true ∷ [])) ++ z → ⊥
no_code m k positive fits small y z same =
    let number : IsNumber m = record { positive = positive; fits = omega arith } in
    let code : replicate (log2 m) false ++ (true ∷ (binary (log2 m) m ++ y)) ≡ replicate 5 false ++ (true ∷ (replicate k false ++ (true ∷ z))) =
    sym (append_assoc (replicate (log2 m) false) (true ∷ binary (log2 m) m) y) ∙ ap (λ (bs : List Bool). bs ++ y) (sym (gamma_is m number)) ∙ same ∙ ap (λ (bs : List Bool). false ∷ false ∷ false ∷ false ∷ false ∷ true ∷ bs) (append_assoc (replicate k false) (true ∷ []) z) in
    let zeros = same_zeros (log2 m) 5 (binary (log2 m) m ++ y) (replicate k false ++ (true ∷ z)) code in
    let low : 2 ^ 5 ≤ m = subst (λ (j : ℕ). 2 ^ j ≤ m) zeros.0 (log2_low m number).0 in
    let half : m / 2 ^ 1 ≡ 16 = omega arith in
    let digits : binary 5 m ≡ replicate 4 false ++ binary 1 m = binary-append 4 1 m ∙ ap (λ (h : ℕ). binary 4 h ++ binary 1 m) half ∙ ap (λ (bs : List Bool). bs ++ binary 1 m) half_of_32 in
    let behind : replicate k false ++ (true ∷ z) ≡ replicate 4 false ++ (binary 1 m ++ y) = sym zeros.1 ∙ ap (λ (j : ℕ). binary j m ++ y) zeros.0 ∙ ap (λ (bs : List Bool). bs ++ y) digits ∙ append_assoc (replicate 4 false) (binary 1 m) y in
    zeros_clash k 4 z (binary 1 m ++ y) small behind

-- six bits, the first of them one, make more than 33
pub too_deep : (bits : List Bool) (zeros n k : ℕ) → zeros ≤ 5 → BeginsCode bits zeros n → 33 < n → BeginsZeros (drop 6 bits) k → CodeStops 33 bits (6 + k)
too_deep bits zeros n k few begins deep run =
    let five : zeros ≡ 5 = only_five zeros n few deep begins.high in
    let high : n < 64 = subst (λ (z : ℕ). n < 2 ^ (z + 1)) five begins.high in
    let log : log2 n ≡ 5 = log2_is n 5 (omega arith) (omega arith) (omega arith) in
    let number : IsNumber n = record { positive = omega arith; fits = omega arith } in
    let code : front (6 + 5) bits ≡ (replicate 5 false ++ true ∷ []) ++ binary 5 n = ap (λ (z : ℕ). front (z + (z + 1)) bits) (sym five) ∙ begins.code ∙ gamma_is n number ∙ ap (λ (z : ℕ). replicate z false ++ (true ∷ binary z n)) log in
    let parts = front_part 6 5 bits (replicate 5 false ++ true ∷ []) (binary 5 n) refl code in
    let small : k < 4 = first_one bits n k deep high run parts.1 in
    let one : front (k + 1) (drop 6 bits) ≡ replicate k false ++ true ∷ [] = run.behind (omega arith) in
    let inside : k < length (drop 6 bits) = one_within k (drop 6 bits) (replicate k false) (length-replicate k false) one in
    let within : 6 + k < length bits = omega (arith, length-drop 6 bits) in
    let taken : take (6 + k) bits ≡ (replicate 5 false ++ true ∷ []) ++ replicate k false = sym (front_within (6 + k) bits (omega arith)) ∙ front-add 6 k bits ∙ ap (λ (bs : List Bool). bs ++ front k (drop 6 bits)) parts.0 ∙ ap (λ (bs : List Bool). (replicate 5 false ++ true ∷ []) ++ bs) run.before in
    let next : 6 + k + 1 ≡ 6 + (k + 1) = omega arith in
    let longer : take (6 + k + 1) bits ≡ (replicate 5 false ++ true ∷ []) ++ (replicate k false ++ true ∷ []) = ap (λ (j : ℕ). take j bits) next ∙ sym (front_within (6 + (k + 1)) bits (omega arith)) ∙ front-add 6 (k + 1) bits ∙ ap (λ (bs : List Bool). bs ++ front (k + 1) (drop 6 bits)) parts.0 ∙ ap (λ (bs : List Bool). (replicate 5 false ++ true ∷ []) ++ bs) one in
    let five_is : 5 ≡ k + (5 - k) = omega arith in
    record {
      within = omega arith;
      n = 32;
      positive = omega arith;
      fits = omega arith;
      rest = replicate (5 - k) false;
      more = omega (arith, length-replicate (5 - k) false);
      begins = gamma_32
          ∙ ap (λ (j : ℕ). (replicate 5 false ++ true ∷ []) ++ replicate j false) five_is
          ∙ ap (λ (bs : List Bool). (replicate 5 false ++ true ∷ []) ++ bs) (sym (replicate-append-replicate k (5 - k) false))
          ∙ sym (append_assoc (replicate 5 false ++ true ∷ []) (replicate k false) (replicate (5 - k) false))
          ∙ ap (λ (bs : List Bool). bs ++ replicate (5 - k) false) (sym taken);
      longest = λ lt m positive fits y z same. no_code m k positive fits small y z (same ∙ ap (λ (bs : List Bool). bs ++ z) longer);
    }
