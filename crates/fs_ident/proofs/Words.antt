-- The bits of bytes, read by words.
use Rattle.std.proofs.Common.{◌≡◌, ℕ, zero, suc, ◌+◌, ◌-◌, ◌*◌, ◌/◌, ◌%◌, ◌^◌, ◌<◌, ◌≤◌, ◌==◌, Bool, true, false, List, [], ◌∷◌, ◌++◌, length, get_or, drop, replicate, refl, sym, ◌∙◌, ap, subst, append_assoc, arith, inl, inr, length-append, length-drop}
use Rattle.std.specs.Int.{w32, w64, from_be_bytes, leading_zeros}
use Rattle.std.proofs.lemmas.Bool.Decides.{leb_tells}
use Rattle.std.proofs.lemmas.List.{drop-drop, drop_at, get_or-drop, append-nil, length-replicate}
use Rattle.std.proofs.lemmas.Nat.{leading_length, div-mul-add, shr_below}
use Rattle.std.proofs.Math.Nat.{pow-suc}
use Rattle.fs_ident.specs.Packed.{binary, bits_of, gamma, log2}
use Rattle.fs_ident.specs.Bits.{front, BeginsZeros, BeginsCode, wanting, EndsPadded, PaddingStops}
use Rattle.fs_ident.proofs.Binary.{length-binary, binary-append, binary_byte, binary_low, binary_zero}
use Rattle.fs_ident.proofs.Fronts.{length-front, front-add, front_nothing, front_at, front_none, front_part, front_within, fewer_zeros, same_parts}
use Rattle.fs_ident.proofs.Codes.{digits_begin, log2_is}

small_over : (n p : ℕ) → n < p → n / p ≡ 0
small_over n p lt =
    let same : n ≡ 0 * p + n = omega arith in
    ap (λ (m : ℕ). m / p) same ∙ div-mul-add 0 p n lt

pub length-bits_of : (bytes : List ℕ) → length (bits_of bytes) ≡ 8 * length bytes
unfolding bits_of
length-bits_of [] = refl
length-bits_of (b ∷ bytes) = length-append (binary 8 b) (bits_of bytes) ∙ omega (arith, length-binary 8 b, length-bits_of bytes)

pub drop-bits_of : (k : ℕ) (bytes : List ℕ) → drop (8 * k) (bits_of bytes) ≡ bits_of (drop k bytes)
unfolding bits_of
drop-bits_of zero bytes = refl
drop-bits_of (suc k) [] = no_drop (8 * suc k)
  where
    no_drop : (k : ℕ) → drop {A = Bool} k [] ≡ []
    no_drop zero = refl
    no_drop (suc k) = refl
drop-bits_of (suc k) (b ∷ bytes) =
    ap (λ (n : ℕ). drop n (binary 8 b ++ bits_of bytes)) (omega arith)
    ∙ sym (drop-drop (8 * k) 8 (binary 8 b ++ bits_of bytes))
    ∙ ap (drop (8 * k)) (drop_at (binary 8 b) (bits_of bytes) 8 (length-binary 8 b))
    ∙ drop-bits_of k bytes

-- the first byte's bits
front_byte : (k : ℕ) (bytes : List ℕ) → front (8 + k) (bits_of bytes) ≡ binary 8 (get_or bytes 0 0) ++ front k (bits_of (drop 1 bytes))
unfolding bits_of
front_byte k [] = front-add 8 k [] ∙ ap (λ (bs : List Bool). bs ++ front k []) (front_nothing 8 ∙ sym (binary_zero 8))
front_byte k (b ∷ bytes) =
    front-add 8 k (binary 8 b ++ bits_of bytes)
    ∙ ap (λ (bs : List Bool). bs ++ front k (drop 8 (binary 8 b ++ bits_of bytes))) (front_at (binary 8 b) (bits_of bytes) 8 (length-binary 8 b))
    ∙ ap (λ (bs : List Bool). binary 8 b ++ front k bs) (drop_at (binary 8 b) (bits_of bytes) 8 (length-binary 8 b))

-- the bits of a byte further on
byte_step : (k first : ℕ) (bytes : List ℕ) (b i : ℕ) → b ≡ get_or bytes (first + i) 0 → front (8 + k) (bits_of (drop (first + i) bytes)) ≡ binary 8 b ++ front k (bits_of (drop (first + (i + 1)) bytes))
byte_step k first bytes b i e =
    let byte : get_or (drop (first + i) bytes) 0 0 ≡ b = get_or-drop (first + i) bytes 0 0 ∙ ap (λ (n : ℕ). get_or bytes n 0) (omega arith) ∙ sym e in
    let rest : drop 1 (drop (first + i) bytes) ≡ drop (first + (i + 1)) bytes = drop-drop 1 (first + i) bytes ∙ ap (λ (n : ℕ). drop n bytes) (omega arith) in
    front_byte k (drop (first + i) bytes)
    ∙ ap (λ (n : ℕ). binary 8 n ++ front k (bits_of (drop 1 (drop (first + i) bytes)))) byte
    ∙ ap (λ (bs : List ℕ). binary 8 b ++ front k (bits_of bs)) rest

-- the number that eight bytes make has their bits
pub eight_bits : (b0 b1 b2 b3 b4 b5 b6 b7 : ℕ) → b0 < 256 → b1 < 256 → b2 < 256 → b3 < 256 → b4 < 256 → b5 < 256 → b6 < 256 → b7 < 256
    → binary 64 (from_be_bytes w64 (b0 ∷ b1 ∷ b2 ∷ b3 ∷ b4 ∷ b5 ∷ b6 ∷ b7 ∷ [])) ≡ binary 8 b0 ++ (binary 8 b1 ++ (binary 8 b2 ++ (binary 8 b3 ++ (binary 8 b4 ++ (binary 8 b5 ++ (binary 8 b6 ++ binary 8 b7))))))
eight_bits b0 b1 b2 b3 b4 b5 b6 b7 l0 l1 l2 l3 l4 l5 l6 l7 =
    let m1 = b0 * 256 + b1 in
    let m2 = m1 * 256 + b2 in
    let m3 = m2 * 256 + b3 in
    let m4 = m3 * 256 + b4 in
    let m5 = m4 * 256 + b5 in
    let m6 = m5 * 256 + b6 in
    let value : from_be_bytes w64 (b0 ∷ b1 ∷ b2 ∷ b3 ∷ b4 ∷ b5 ∷ b6 ∷ b7 ∷ []) ≡ m6 * 256 + b7 = omega arith in
    ap (binary 64) value
    ∙ binary_byte 56 m6 b7 l7
    ∙ ap (λ (bs : List Bool). bs ++ binary 8 b7) (binary_byte 48 m5 b6 l6)
    ∙ ap (λ (bs : List Bool). (bs ++ binary 8 b6) ++ binary 8 b7) (binary_byte 40 m4 b5 l5)
    ∙ ap (λ (bs : List Bool). ((bs ++ binary 8 b5) ++ binary 8 b6) ++ binary 8 b7) (binary_byte 32 m3 b4 l4)
    ∙ ap (λ (bs : List Bool). (((bs ++ binary 8 b4) ++ binary 8 b5) ++ binary 8 b6) ++ binary 8 b7) (binary_byte 24 m2 b3 l3)
    ∙ ap (λ (bs : List Bool). ((((bs ++ binary 8 b3) ++ binary 8 b4) ++ binary 8 b5) ++ binary 8 b6) ++ binary 8 b7) (binary_byte 16 m1 b2 l2)
    ∙ ap (λ (bs : List Bool). (((((bs ++ binary 8 b2) ++ binary 8 b3) ++ binary 8 b4) ++ binary 8 b5) ++ binary 8 b6) ++ binary 8 b7) (binary_byte 8 b0 b1 l1)
    ∙ simp append_assoc

-- eight bytes from there on
eight_front : (bytes : List ℕ) (first b0 b1 b2 b3 b4 b5 b6 b7 : ℕ)
    → b0 ≡ get_or bytes (first + 0) 0 → b1 ≡ get_or bytes (first + 1) 0 → b2 ≡ get_or bytes (first + 2) 0 → b3 ≡ get_or bytes (first + 3) 0
    → b4 ≡ get_or bytes (first + 4) 0 → b5 ≡ get_or bytes (first + 5) 0 → b6 ≡ get_or bytes (first + 6) 0 → b7 ≡ get_or bytes (first + 7) 0
    → front 64 (bits_of (drop (first + 0) bytes)) ≡ binary 8 b0 ++ (binary 8 b1 ++ (binary 8 b2 ++ (binary 8 b3 ++ (binary 8 b4 ++ (binary 8 b5 ++ (binary 8 b6 ++ binary 8 b7))))))
eight_front bytes first b0 b1 b2 b3 b4 b5 b6 b7 e0 e1 e2 e3 e4 e5 e6 e7 =
    let last : front 8 (bits_of (drop (first + 7) bytes)) ≡ binary 8 b7 = byte_step 0 first bytes b7 7 e7 ∙ ap (λ (bs : List Bool). binary 8 b7 ++ bs) (front_none (bits_of (drop (first + 8) bytes))) ∙ append-nil (binary 8 b7) in
    byte_step 56 first bytes b0 0 e0
    ∙ ap (λ (bs : List Bool). binary 8 b0 ++ bs) (byte_step 48 first bytes b1 1 e1
    ∙ ap (λ (bs : List Bool). binary 8 b1 ++ bs) (byte_step 40 first bytes b2 2 e2
    ∙ ap (λ (bs : List Bool). binary 8 b2 ++ bs) (byte_step 32 first bytes b3 3 e3
    ∙ ap (λ (bs : List Bool). binary 8 b3 ++ bs) (byte_step 24 first bytes b4 4 e4
    ∙ ap (λ (bs : List Bool). binary 8 b4 ++ bs) (byte_step 16 first bytes b5 5 e5
    ∙ ap (λ (bs : List Bool). binary 8 b5 ++ bs) (byte_step 8 first bytes b6 6 e6
    ∙ ap (λ (bs : List Bool). binary 8 b6 ++ bs) last))))))

pub eight_is : (bytes : List ℕ) (first n b0 b1 b2 b3 b4 b5 b6 b7 : ℕ) → b0 < 256 → b1 < 256 → b2 < 256 → b3 < 256 → b4 < 256 → b5 < 256 → b6 < 256 → b7 < 256
    → b0 ≡ get_or bytes first 0 → b1 ≡ get_or bytes (first + 1) 0 → b2 ≡ get_or bytes (first + 2) 0 → b3 ≡ get_or bytes (first + 3) 0
    → b4 ≡ get_or bytes (first + 4) 0 → b5 ≡ get_or bytes (first + 5) 0 → b6 ≡ get_or bytes (first + 6) 0 → b7 ≡ get_or bytes (first + 7) 0
    → n ≡ from_be_bytes w64 (b0 ∷ b1 ∷ b2 ∷ b3 ∷ b4 ∷ b5 ∷ b6 ∷ b7 ∷ []) → binary 64 n ≡ front 64 (drop (8 * first) (bits_of bytes))
eight_is bytes first n b0 b1 b2 b3 b4 b5 b6 b7 l0 l1 l2 l3 l4 l5 l6 l7 e0 e1 e2 e3 e4 e5 e6 e7 e =
    ap (binary 64) e
    ∙ eight_bits b0 b1 b2 b3 b4 b5 b6 b7 l0 l1 l2 l3 l4 l5 l6 l7
    ∙ sym (eight_front bytes first b0 b1 b2 b3 b4 b5 b6 b7 (e0 ∙ ap (λ (k : ℕ). get_or bytes k 0) (omega arith)) e1 e2 e3 e4 e5 e6 e7)
    ∙ ap (λ (k : ℕ). front 64 (bits_of (drop k bytes))) (omega arith)
    ∙ ap (front 64) (sym (drop-bits_of first bytes))

-- a word is 32 of 64 bits
pub word_is : (bits : List Bool) (at n word : ℕ) → binary 64 n ≡ front 64 (drop (8 * (at / 8)) bits) → word ≡ n / 2 ^ (32 - at % 8) % 2 ^ 32 → binary 32 word ≡ front 32 (drop at bits)
word_is bits at n word e w =
    let s = at % 8 in
    let c = 32 - at % 8 in
    let x = drop (8 * (at / 8)) bits in
    let all : 64 ≡ s + (32 + c) = omega arith in
    let left : binary 64 n ≡ binary s (n / 2 ^ (32 + c)) ++ (binary 32 (n / 2 ^ c) ++ binary c n) = ap (λ (k : ℕ). binary k n) all ∙ binary-append s (32 + c) n ∙ ap (λ (bs : List Bool). binary s (n / 2 ^ (32 + c)) ++ bs) (binary-append 32 c n) in
    let right : front 64 x ≡ front s x ++ (front 32 (drop s x) ++ front c (drop 32 (drop s x))) = ap (λ (k : ℕ). front k x) all ∙ front-add s (32 + c) x ∙ ap (λ (bs : List Bool). front s x ++ bs) (front-add 32 c (drop s x)) in
    let first = same_parts (binary s (n / 2 ^ (32 + c))) (front s x) (binary 32 (n / 2 ^ c) ++ binary c n) (front 32 (drop s x) ++ front c (drop 32 (drop s x))) (length-binary s (n / 2 ^ (32 + c)) ∙ sym (length-front s x)) (sym left ∙ e ∙ right) in
    let second = same_parts (binary 32 (n / 2 ^ c)) (front 32 (drop s x)) (binary c n) (front c (drop 32 (drop s x))) (length-binary 32 (n / 2 ^ c) ∙ sym (length-front 32 (drop s x))) first.1 in
    let place : drop s x ≡ drop at bits = drop-drop s (8 * (at / 8)) bits ∙ ap (λ (k : ℕ). drop k bits) (omega arith) in
    ap (binary 32) w ∙ binary_low 32 (n / 2 ^ c) ∙ second.0 ∙ ap (front 32) place

one_behind : (bits : List Bool) (word zeros m : ℕ) → 1 ≤ m → word < 2 ^ m → 2 ^ m ≤ 2 * word + 1 → front zeros bits ≡ replicate zeros false → front m (drop zeros bits) ≡ binary m word → front (zeros + 1) bits ≡ replicate zeros false ++ true ∷ []
one_behind bits word zeros m positive high low before behind =
    let j = m - 1 in
    let last : m ≡ (m - 1) + 1 = omega arith in
    let double : 2 ^ m ≡ 2 ^ (m - 1) * 2 = ap (λ (k : ℕ). 2 ^ k) (omega arith) ∙ pow-suc 2 (m - 1) in
    let least : 2 ^ (m - 1) ≤ word = omega (arith, double) in
    let most : word < 2 ^ ((m - 1) + 1) = subst (λ (k : ℕ). word < 2 ^ k) last high in
    let digits : binary m word ≡ true ∷ binary (m - 1) word = ap (λ (k : ℕ). binary k word) last ∙ digits_begin (m - 1) word least most in
    let first = front_part 1 (m - 1) (drop zeros bits) (true ∷ []) (binary (m - 1) word) refl (ap (λ (k : ℕ). front k (drop zeros bits)) (omega arith) ∙ behind ∙ digits) in
    front-add zeros 1 bits ∙ ap (λ (bs : List Bool). bs ++ front 1 (drop zeros bits)) before ∙ ap (λ (bs : List Bool). replicate zeros false ++ bs) first.0

-- the zeros that a word begins with
pub zeros_are : (bits : List Bool) (word zeros : ℕ) → word < 2 ^ 32 → zeros ≡ leading_zeros w32 word → binary 32 word ≡ front 32 bits → BeginsZeros bits zeros
zeros_are bits word zeros fits z e =
    let top = leading_length 32 word fits in
    let m = top.0 in
    let all : zeros + top.0 ≡ 32 = ap (λ (k : ℕ). k + top.0) z ∙ top.1 in
    let none : word / 2 ^ top.0 ≡ 0 = small_over word (2 ^ top.0) top.2 in
    let left : binary 32 word ≡ replicate zeros false ++ binary top.0 word = ap (λ (k : ℕ). binary k word) (sym all) ∙ binary-append zeros top.0 word ∙ ap (λ (k : ℕ). binary zeros k ++ binary top.0 word) none ∙ ap (λ (bs : List Bool). bs ++ binary top.0 word) (binary_zero zeros) in
    let parts = front_part zeros top.0 bits (replicate zeros false) (binary top.0 word) (length-replicate zeros false) (ap (λ (k : ℕ). front k bits) all ∙ sym e ∙ left) in
    record { few = omega (arith, all); before = parts.0; behind = λ lt. one_behind bits word zeros top.0 (omega (arith, all)) top.2 top.3 parts.0 parts.1 }

first_digit : (k n : ℕ) → binary (suc k) n ≡ (n / 2 ^ k % 2 == 1) ∷ binary k n
unfolding binary
first_digit k n = refl

pub gamma_at : (n k : ℕ) → log2 n ≡ k → gamma n ≡ replicate k false ++ binary (k + 1) n
unfolding gamma
gamma_at n k e = ap (λ (j : ℕ). replicate j false ++ binary (j + 1) n) e

reaches : (k n : ℕ) → (n / 2 ^ k % 2 == 1) ≡ true → 2 ^ k ≤ n
reaches k n t = elim (leb_tells (2 ^ k) n) [ inl p ↦ p.1 | inr q ↦ absurd (below q.1) ]
  where
    below : n < 2 ^ k → ⊥
    below lt =
        let none : n / 2 ^ k ≡ 0 = small_over n (2 ^ k) lt in
        let clash : ◌≡◌ {A = Bool} (0 % 2 == 1) true = ap (λ (m : ℕ). m % 2 == 1) (sym none) ∙ t in
        cc clash

-- the number behind the zeros
pub code_begins : (bits : List Bool) (zeros word n : ℕ) → zeros < 32 → BeginsZeros bits zeros → word < 2 ^ 32 → binary 32 word ≡ front 32 (drop zeros bits) → n ≡ word / 2 ^ (31 - zeros) → BeginsCode bits zeros n
code_begins bits zeros word n few begins fits e number =
    let c = 31 - zeros in
    let y = drop zeros bits in
    let all : (zeros + 1) + (31 - zeros) ≡ 32 = omega arith in
    let left : binary 32 word ≡ binary (zeros + 1) n ++ binary (31 - zeros) word = ap (λ (k : ℕ). binary k word) (sym all) ∙ binary-append (zeros + 1) (31 - zeros) word ∙ ap (λ (k : ℕ). binary (zeros + 1) k ++ binary (31 - zeros) word) (sym number) in
    let digits = front_part (zeros + 1) (31 - zeros) (drop zeros bits) (binary (zeros + 1) n) (binary (31 - zeros) word) (length-binary (zeros + 1) n) (ap (λ (k : ℕ). front k (drop zeros bits)) all ∙ sym e ∙ left) in
    let fits' : word < 2 ^ ((zeros + 1) + (31 - zeros)) = subst (λ (k : ℕ). word < 2 ^ k) (sym all) fits in
    let high : n < 2 ^ (zeros + 1) = subst (λ (k : ℕ). k < 2 ^ (zeros + 1)) (sym number) (shr_below word (zeros + 1) (31 - zeros) fits') in
    let one = front_part zeros 1 bits (replicate zeros false) (true ∷ []) (length-replicate zeros false) (begins.behind few) in
    let first = front_part 1 zeros (drop zeros bits) ((n / 2 ^ zeros % 2 == 1) ∷ []) (binary zeros n) refl (ap (λ (k : ℕ). front k (drop zeros bits)) (omega arith) ∙ digits.0 ∙ ap (λ (k : ℕ). binary k n) (omega arith) ∙ first_digit zeros n) in
    let set : ◌≡◌ {A = List Bool} ((n / 2 ^ zeros % 2 == 1) ∷ []) (true ∷ []) = sym first.0 ∙ one.1 in
    let test : (n / 2 ^ zeros % 2 == 1) ≡ true = cc set in
    let low : 2 ^ zeros ≤ n = reaches zeros n test in
    record {
      low = low;
      high = high;
      code = front-add zeros (zeros + 1) bits
          ∙ ap (λ (bs : List Bool). bs ++ front (zeros + 1) (drop zeros bits)) begins.before
          ∙ ap (λ (bs : List Bool). replicate zeros false ++ bs) digits.0
          ∙ sym (gamma_at n zeros (log2_is n zeros few low high));
    }

-- the padding holds a one
pub padding_has_one : (bits : List Bool) (at zeros count : ℕ) → length bits ≡ 8 * count → at ≤ length bits → BeginsZeros (drop at bits) zeros → zeros < wanting at → PaddingStops bits at (at + zeros)
padding_has_one bits at zeros count len le begins lt =
    let ends : front (zeros + 1) (drop at bits) ≡ replicate zeros false ++ true ∷ [] = begins.behind (omega arith) in
    let room : zeros + 1 ≤ length (drop at bits) = omega (arith, length-drop at bits) in
    record {
      zeros = zeros;
      few = lt;
      place_is = refl;
      within = omega (arith, length-drop at bits);
      padding = sym (front_within (zeros + 1) (drop at bits) room) ∙ ends;
    }

-- the padding holds none
pub padding_is_zeros : (bits : List Bool) (at zeros count : ℕ) → length bits ≡ 8 * count → at ≤ length bits → BeginsZeros (drop at bits) zeros → wanting at ≤ zeros → EndsPadded bits at ((at + wanting at) / 8)
padding_is_zeros bits at zeros count len le begins ge =
    let parts : zeros ≡ wanting at + (zeros - wanting at) = omega arith in
    let run : front (wanting at) (drop at bits) ≡ replicate (wanting at) false = fewer_zeros (wanting at) (zeros - wanting at) (drop at bits) (subst (λ (j : ℕ). front j (drop at bits) ≡ replicate j false) parts begins.before) in
    record {
      whole = omega arith;
      zeros = sym (front_within (wanting at) (drop at bits) (omega (arith, length-drop at bits))) ∙ run;
    }
