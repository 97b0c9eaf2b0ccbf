-- Codes of numbers: none begins another.
use Rattle.std.proofs.Common.{◌≡◌, ℕ, zero, suc, ◌+◌, ◌-◌, ◌*◌, ◌/◌, ◌%◌, ◌^◌, ◌<◌, ◌≤◌, ◌==◌, Bool, true, false, List, [], ◌∷◌, ◌++◌, length, drop, replicate, refl, sym, ◌∙◌, ap, subst, append_assoc, arith, length-append}
use Rattle.std.specs.Int.{w32, leading_zeros}
use Rattle.std.specs.Int.Count.{leading_unique}
use Rattle.std.specs.List.{All}
use Rattle.std.proofs.lemmas.Nat.{leading_top, div-mul-add, mod-mul-add}
use Rattle.std.proofs.lemmas.List.{length-replicate}
use Rattle.std.proofs.lemmas.List.Elements.{All-head, All-tail}
use Rattle.std.proofs.Math.Nat.{pow-suc}
use Rattle.fs_ident.specs.Ident.{IsNumber}
use Rattle.fs_ident.specs.Packed.{binary, log2, gamma, gammas, number_of}
use Rattle.fs_ident.proofs.Binary.{length-binary, number_of-binary}
use Rattle.fs_ident.proofs.Fronts.{same_parts}

-- the power of two that a number reaches
pub log2_is : (n k : ℕ) → k < 32 → 2 ^ k ≤ n → n < 2 ^ (k + 1) → log2 n ≡ k
unfolding log2
log2_is n k lt low high =
    let double : 2 ^ (k + 1) ≡ 2 ^ k * 2 = ap (λ (m : ℕ). 2 ^ m) (omega arith) ∙ pow-suc 2 k in
    let zeros : (31 - k) ≡ leading_zeros w32 n = leading_unique 32 n (31 - k) (k + 1) (omega arith) high (omega arith) in
    omega arith

pub log2_low : (n : ℕ) → IsNumber n → (2 ^ log2 n ≤ n) × (n < 2 ^ (log2 n + 1)) × (log2 n < 32)
log2_low n number =
    let top = leading_top 32 n number.positive number.fits in
    let suc_is : suc top.0 ≡ top.0 + 1 = omega arith in
    let high : n < 2 ^ (top.0 + 1) = subst (λ (k : ℕ). n < 2 ^ k) suc_is top.3 in
    let small : top.0 < 32 = omega (arith, top.1) in
    let e : log2 n ≡ top.0 = log2_is n top.0 small top.2 high in
    (subst (λ (k : ℕ). 2 ^ k ≤ n) (sym e) top.2, subst (λ (k : ℕ). n < 2 ^ (k + 1)) (sym e) high, omega arith)

pub length-gamma : (n : ℕ) → length (gamma n) ≡ log2 n + (log2 n + 1)
unfolding gamma
length-gamma n = length-append (replicate (log2 n) false) (binary (log2 n + 1) n) ∙ omega (arith, length-replicate (log2 n) false, length-binary (log2 n + 1) n)

-- the digits of a number begin with a one
pub digits_begin : (k n : ℕ) → 2 ^ k ≤ n → n < 2 ^ (k + 1) → binary (k + 1) n ≡ true ∷ binary k n
unfolding binary
digits_begin k n low high =
    let double : 2 ^ (k + 1) ≡ 2 ^ k * 2 = ap (λ (m : ℕ). 2 ^ m) (omega arith) ∙ pow-suc 2 k in
    let split : n ≡ 1 * 2 ^ k + (n - 2 ^ k) = omega arith in
    let one : n / 2 ^ k ≡ 1 = ap (λ (m : ℕ). m / 2 ^ k) split ∙ div-mul-add 1 (2 ^ k) (n - 2 ^ k) (omega arith) in
    let last : k + 1 ≡ suc k = omega arith in
    ap (λ (w : ℕ). binary w n) last ∙ ap (λ (q : ℕ). (q % 2 == 1) ∷ binary k n) one

pub gamma_is : (n : ℕ) → IsNumber n → gamma n ≡ replicate (log2 n) false ++ (true ∷ binary (log2 n) n)
unfolding gamma
gamma_is n number = ap (λ (bs : List Bool). replicate (log2 n) false ++ bs) (digits_begin (log2 n) n (log2_low n number).0 (log2_low n number).1)

-- as many zeros stand before the first one
pub same_zeros : (p q : ℕ) (a b : List Bool) → replicate p false ++ (true ∷ a) ≡ replicate q false ++ (true ∷ b) → (p ≡ q) × (a ≡ b)
same_zeros zero zero a b e = (refl, cc e)
same_zeros zero (suc q) a b e = absurd (cc e)
same_zeros (suc p) zero a b e = absurd (cc e)
same_zeros (suc p) (suc q) a b e =
    let tail : replicate p false ++ (true ∷ a) ≡ replicate q false ++ (true ∷ b) = cc e in
    let rest = same_zeros p q a b tail in
    (ap suc rest.0, rest.1)

same_digits : (k m n : ℕ) → m < 2 ^ (k + 1) → n < 2 ^ (k + 1) → binary (k + 1) m ≡ binary (k + 1) n → m ≡ n
same_digits k m n lm ln e =
    sym (small m (2 ^ (k + 1)) lm) ∙ sym (number_of-binary (k + 1) m) ∙ ap number_of e ∙ number_of-binary (k + 1) n ∙ small n (2 ^ (k + 1)) ln
  where
    small : (x p : ℕ) → x < p → x % p ≡ x
    small x p lt =
        let same : x ≡ 0 * p + x = omega arith in
        ap (λ (y : ℕ). y % p) same ∙ mod-mul-add 0 p x lt

-- no code of a number begins another's
pub same_codes : (m n : ℕ) (a b : List Bool) → IsNumber m → IsNumber n → gamma m ++ a ≡ gamma n ++ b → (m ≡ n) × (a ≡ b)
same_codes m n a b vm vn e =
    let left : gamma m ++ a ≡ replicate (log2 m) false ++ (true ∷ (binary (log2 m) m ++ a)) = ap (λ (bs : List Bool). bs ++ a) (gamma_is m vm) ∙ append_assoc (replicate (log2 m) false) (true ∷ binary (log2 m) m) a in
    let right : gamma n ++ b ≡ replicate (log2 n) false ++ (true ∷ (binary (log2 n) n ++ b)) = ap (λ (bs : List Bool). bs ++ b) (gamma_is n vn) ∙ append_assoc (replicate (log2 n) false) (true ∷ binary (log2 n) n) b in
    let zeros = same_zeros (log2 m) (log2 n) (binary (log2 m) m ++ a) (binary (log2 n) n ++ b) (sym left ∙ e ∙ right) in
    let tails : binary (log2 m) m ++ a ≡ binary (log2 m) n ++ b = zeros.1 ∙ ap (λ (k : ℕ). binary k n ++ b) (sym zeros.0) in
    let parts = same_parts (binary (log2 m) m) (binary (log2 m) n) a b (length-binary (log2 m) m ∙ sym (length-binary (log2 m) n)) tails in
    let high : n < 2 ^ (log2 m + 1) = subst (λ (k : ℕ). n < 2 ^ (k + 1)) (sym zeros.0) (log2_low n vn).1 in
    let low : 2 ^ log2 m ≤ n = subst (λ (k : ℕ). 2 ^ k ≤ n) (sym zeros.0) (log2_low n vn).0 in (
      same_digits (log2 m) m n (log2_low m vm).1 high (digits_begin (log2 m) m (log2_low m vm).0 (log2_low m vm).1 ∙ ap (λ (bs : List Bool). true ∷ bs) parts.0 ∙ sym (digits_begin (log2 m) n low high)),
      parts.1,
    )

-- codes one behind the other begin with these codes
pub same_codes_in_front : (ms ns : List ℕ) (a b : List Bool) → All IsNumber ms → All IsNumber ns → length ms ≤ length ns → gammas ms ++ a ≡ gammas ns ++ b → (ns ≡ ms ++ drop (length ms) ns) × (a ≡ gammas (drop (length ms) ns) ++ b)
same_codes_in_front [] ns a b vm vn le e = (refl, e)
same_codes_in_front (m ∷ ms) [] a b vm vn le e = absurd (omega arith)
same_codes_in_front (m ∷ ms) (n ∷ ns) a b vm vn le e =
    let first = same_codes m n (gammas ms ++ a) (gammas ns ++ b) (All-head IsNumber m ms vm) (All-head IsNumber n ns vn) (sym (append_assoc (gamma m) (gammas ms) a) ∙ e ∙ append_assoc (gamma n) (gammas ns) b) in
    let rest = same_codes_in_front ms ns a b (All-tail IsNumber m ms vm) (All-tail IsNumber n ns vn) (omega arith) first.1 in
    (ap (λ (l : List ℕ). n ∷ l) rest.0 ∙ ap (λ (x : ℕ). x ∷ (ms ++ drop (length ms) ns)) (sym first.0), rest.1)

-- a run of zeros before a one is no longer
pub zeros_clash : (p q : ℕ) (a b : List Bool) → p < q → replicate p false ++ (true ∷ a) ≡ replicate q false ++ b → ⊥
zeros_clash p zero a b lt e = omega arith
zeros_clash zero (suc q) a b lt e = cc e
zeros_clash (suc p) (suc q) a b lt e =
    let tail : replicate p false ++ (true ∷ a) ≡ replicate q false ++ b = cc e in
    zeros_clash p q a b (omega arith) tail
