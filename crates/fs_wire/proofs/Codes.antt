-- What is read from bits is the one packed identifier that they begin with, or stops at the bit from which no identifier goes on.
use Rattle.std.proofs.Common.{◌≡◌, ℕ, zero, suc, ◌+◌, ◌-◌, ◌*◌, ◌/◌, ◌^◌, ◌<◌, ◌≤◌, min, Bool, true, false, cond, ltb, List, [], ◌∷◌, ◌++◌, length, take, drop, replicate, Result, Ok, Err, refl, sym, ◌∙◌, ap, subst, append_assoc, arith, inl, inr, length-append}
use Rattle.std.specs.Prelude.{MatchResult}
use Rattle.std.proofs.Math.Nat.{mod-eq_of_lt}
use Rattle.std.proofs.lemmas.Bool.{ltb-true, ltb-false}
use Rattle.std.proofs.lemmas.Bool.Decides.{leb_tells}
use Rattle.std.proofs.lemmas.List.{append-nil, take_all, take-take, take-append-drop, take-append-le, length-take-le, length-replicate, drop-drop}
use Rattle.std.proofs.Math.Pow.{pow_mono}
use Rattle.fs_ident.specs.Ident.{IsId}
use Rattle.fs_ident.specs.Packed.{binary, gamma, number_of, codes_of, packed_bits}
use Rattle.fs_ident.specs.Bits.{front, BeginsZeros, BeginsCode, IsCode, CodeStops, HasRead, EndsPadded, PaddingStops}
use Rattle.fs_ident.proofs.Binary.{number_of-binary, binary-number_of, length-number_of}
use Rattle.fs_ident.proofs.Fronts.{length-front, front_within, front_past, longer_part}
use Rattle.fs_ident.proofs.Codes.{log2_is}
use Rattle.fs_ident.proofs.Words.{zeros_are, code_begins, gamma_at, padding_has_one, padding_is_zeros}
use Rattle.fs_ident.proofs.CodePlaces.{ends_early, stands_whole, too_many_zeros, too_deep}
use Rattle.fs_ident.proofs.Packs.{Stop, packed_is, depth_stops, number_stops, padding_stops, begun, read_more, read_within, all_read, same_id, no_longer_id}
use Rattle.fs_wire.specs.Codes.{first, zeros_before, width_of, coded, whole_code, code_in, go_on, further, numbers_in, wanting, padding_in, identifier_in}

-- ---- the zeros and the digits in front

first_is : (count : ℕ) (bits : List Bool) → first count bits ≡ front count bits
first_is count bits = elim (leb_tells count (length bits)) [
  | inl p ↦ let none : count - length bits ≡ 0 = omega (arith, p.1) in
      ap (λ (k : ℕ). take count bits ++ replicate k false) none ∙ append-nil (take count bits) ∙ sym (front_within count bits p.1)
  | inr q ↦ let le : length bits ≤ count = omega (arith, q.1) in
      ap (λ (z : List Bool). z ++ replicate (count - length bits) false) (take_all count bits le) ∙ sym (front_past count bits le)
]

abbrev word : List Bool → ℕ
word bits = number_of (first 32 bits)

long : (bits : List Bool) → length (first 32 bits) ≡ 32
long bits = ap length (first_is 32 bits) ∙ length-front 32 bits

word_fits : (bits : List Bool) → word bits < 2 ^ 32
word_fits bits = subst (λ (k : ℕ). word bits < 2 ^ k) (long bits) (length-number_of (first 32 bits))

word_digits : (bits : List Bool) → binary 32 (word bits) ≡ front 32 bits
word_digits bits = ap (λ (k : ℕ). binary k (word bits)) (sym (long bits)) ∙ binary-number_of (first 32 bits) ∙ first_is 32 bits

zeros_begin : (bits : List Bool) → BeginsZeros bits (zeros_before bits)
zeros_begin bits = zeros_are bits (word bits) (zeros_before bits) (word_fits bits) refl (word_digits bits)

-- zeros in front change no number
number_of-zeros : (k : ℕ) (bits : List Bool) → number_of (replicate k false ++ bits) ≡ number_of bits
unfolding number_of
number_of-zeros zero bits = refl
number_of-zeros (suc k) bits = omega (arith, number_of-zeros k bits)

number_of-gamma : (n k : ℕ) → k < 32 → 2 ^ k ≤ n → n < 2 ^ (k + 1) → number_of (gamma n) ≡ n
number_of-gamma n k few low high =
    ap number_of (gamma_at n k (log2_is n k few low high)) ∙ number_of-zeros k (binary (k + 1) n) ∙ number_of-binary (k + 1) n ∙ mod-eq_of_lt high

coded_begins : (bits : List Bool) → zeros_before bits < 32 → BeginsCode bits (zeros_before bits) (coded bits)
coded_begins bits few =
    let k = zeros_before bits in
    let n = word (drop (zeros_before bits) bits) / 2 ^ (31 - zeros_before bits) in
    let begins : BeginsCode bits (zeros_before bits) (word (drop (zeros_before bits) bits) / 2 ^ (31 - zeros_before bits)) =
    code_begins bits (zeros_before bits) (word (drop (zeros_before bits) bits)) (word (drop (zeros_before bits) bits) / 2 ^ (31 - zeros_before bits)) few (zeros_begin bits) (word_fits (drop (zeros_before bits) bits)) (word_digits (drop (zeros_before bits) bits)) refl in
    let wide : width_of bits ≡ zeros_before bits + (zeros_before bits + 1) = omega arith in
    let same : coded bits ≡ word (drop (zeros_before bits) bits) / 2 ^ (31 - zeros_before bits) =
    ap number_of (first_is (width_of bits) bits ∙ ap (λ (w : ℕ). front w bits) wide ∙ begins.code) ∙ number_of-gamma (word (drop (zeros_before bits) bits) / 2 ^ (31 - zeros_before bits)) (zeros_before bits) few begins.low begins.high in
    subst (λ (m : ℕ). BeginsCode bits (zeros_before bits) m) (sym same) begins

-- ---- one code

abbrev CodeFound : ℕ → List Bool → Result (ℕ × ℕ) ℕ → Type 0
CodeFound greatest bits r = MatchResult r (λ x. IsCode greatest bits x.0 x.1) (λ at. CodeStops greatest bits at)

whole_found : (greatest : ℕ) (bits : List Bool) → zeros_before bits < 32 → coded bits ≤ greatest → CodeFound greatest bits (whole_code bits)
whole_found greatest bits few fits = by (ltb (length bits) (width_of bits)) refl
  where
    by : (b : Bool) → ltb (length bits) (width_of bits) ≡ b → CodeFound greatest bits (cond b (Err (length bits)) (Ok (coded bits, width_of bits)))
    by true e =
        let short : length bits < width_of bits = ltb-true (length bits) (width_of bits) e in
        ends_early bits (zeros_before bits) (coded bits) (length bits) greatest few (coded_begins bits few) fits (omega (arith, short)) short
    by false e =
        let long : width_of bits ≤ length bits = ltb-false (length bits) (width_of bits) e in
        stands_whole bits (zeros_before bits) (coded bits) (width_of bits) greatest few (coded_begins bits few) fits (omega (arith, long)) (omega arith)

depth_found : (bits : List Bool) → CodeFound 33 bits (code_in 5 33 bits)
unfolding code_in
depth_found bits = by (ltb 5 (zeros_before bits)) refl
  where
    deep : (b : Bool) → ltb 33 (coded bits) ≡ b → zeros_before bits ≤ 5 → CodeFound 33 bits (cond b (Err (5 + 1 + zeros_before (drop (5 + 1) bits))) (whole_code bits))
    deep true e few = too_deep bits (zeros_before bits) (coded bits) (zeros_before (drop 6 bits)) few (coded_begins bits (omega (arith, few))) (ltb-true 33 (coded bits) e) (zeros_begin (drop 6 bits))
    deep false e few = whole_found 33 bits (omega (arith, few)) (ltb-false 33 (coded bits) e)

    by : (b : Bool) → ltb 5 (zeros_before bits) ≡ b
        → CodeFound 33 bits (cond b (Err (min 5 (length bits))) (cond (ltb 33 (coded bits)) (Err (5 + 1 + zeros_before (drop (5 + 1) bits))) (whole_code bits)))
    by true e = too_many_zeros bits (zeros_before bits) 5 33 (min 5 (length bits)) (zeros_begin bits) (ltb-true 5 (zeros_before bits) e) (omega arith) (omega arith) (omega arith) refl
    by false e = deep (ltb 33 (coded bits)) refl (ltb-false 5 (zeros_before bits) e)

number_found : (bits : List Bool) → CodeFound 4294967295 bits (code_in 31 4294967295 bits)
unfolding code_in
number_found bits = by (ltb 31 (zeros_before bits)) refl
  where
    fits : zeros_before bits ≤ 31 → coded bits ≤ 4294967295
    fits few =
        let powers : 2 ^ (zeros_before bits + 1) ≤ 2 ^ 32 = pow_mono {j = 32} (omega (arith, few)) in
        let begins : BeginsCode bits (zeros_before bits) (coded bits) = coded_begins bits (omega (arith, few)) in
        omega (arith, begins.high, powers)

    great : (b : Bool) → ltb 4294967295 (coded bits) ≡ b → zeros_before bits ≤ 31 → CodeFound 4294967295 bits (cond b (Err (31 + 1 + zeros_before (drop (31 + 1) bits))) (whole_code bits))
    great true e few = absurd (omega (arith, fits few, ltb-true 4294967295 (coded bits) e))
    great false e few = whole_found 4294967295 bits (omega (arith, few)) (fits few)

    by : (b : Bool) → ltb 31 (zeros_before bits) ≡ b
        → CodeFound 4294967295 bits (cond b (Err (min 31 (length bits))) (cond (ltb 4294967295 (coded bits)) (Err (31 + 1 + zeros_before (drop (31 + 1) bits))) (whole_code bits)))
    by true e = too_many_zeros bits (zeros_before bits) 31 4294967295 (min 31 (length bits)) (zeros_begin bits) (ltb-true 31 (zeros_before bits) e) (omega arith) (omega arith) (omega arith) refl
    by false e = great (ltb 4294967295 (coded bits)) refl (ltb-false 31 (zeros_before bits) e)

-- ---- all numbers

record AllRead (bits : List Bool) (depth : ℕ) (numbers : List ℕ) (at : ℕ) : Type 0 where
  count : length numbers ≡ depth
  read : HasRead bits depth numbers at

numbers_found : (count : ℕ) (bits : List Bool) (depth : ℕ) (done : List ℕ) (at : ℕ) → HasRead bits depth done at → length done + count ≡ depth
    → MatchResult (numbers_in count at bits) (λ x. AllRead bits depth (done ++ x.0) x.1) (λ bit. Stop bits bit)
unfolding numbers_in
numbers_found zero bits depth done at read count =
    let same : done ≡ done ++ [] = sym (append-nil done) in
    record { count = ap length (append-nil done) ∙ omega (arith, count); read = subst (λ (ns : List ℕ). HasRead bits depth ns at) same read }
numbers_found (suc left) bits depth done at read count =
    by (code_in 31 4294967295 (drop at bits)) (number_found (drop at bits))
    (λ n width longer. numbers_found left bits depth (done ++ n ∷ []) (at + width) longer (omega (arith, length-append done (n ∷ []), count)))
  where
    grown : (n : ℕ) (ns : List ℕ) → (done ++ n ∷ []) ++ ns ≡ done ++ (n ∷ ns)
    grown n ns = append_assoc done (n ∷ []) ns

    others : (n : ℕ) (r : Result (List ℕ × ℕ) ℕ) → MatchResult r (λ x. AllRead bits depth ((done ++ n ∷ []) ++ x.0) x.1) (λ bit. Stop bits bit)
        → MatchResult {T = List ℕ × ℕ} (go_on r (λ x. Ok (n ∷ x.0, x.1))) (λ x. AllRead bits depth (done ++ x.0) x.1) (λ bit. Stop bits bit)
    others n (Ok x) found = subst (λ (ns : List ℕ). AllRead bits depth ns x.1) (grown n x.0) found
    others n (Err bit) found = found

    by : (r : Result (ℕ × ℕ) ℕ) → CodeFound 4294967295 (drop at bits) r
        → ((n width : ℕ) → HasRead bits depth (done ++ n ∷ []) (at + width) → MatchResult (numbers_in left (at + width) bits) (λ x. AllRead bits depth ((done ++ n ∷ []) ++ x.0) x.1) (λ bit. Stop bits bit))
        → MatchResult {T = List ℕ × ℕ} (go_on (further at r) (λ c. go_on (numbers_in left (at + c.1) bits) (λ x. Ok (c.0 ∷ x.0, x.1)))) (λ x. AllRead bits depth (done ++ x.0) x.1) (λ bit. Stop bits bit)
    by (Ok c) found more = others c.0 (numbers_in left (at + c.1) bits) (more c.0 c.1 (read_more bits depth done at c.0 c.1 read found))
    by (Err bit) found more = number_stops bits depth done at bit read (omega (arith, count)) found

-- ---- the padding

padding_found : (bits : List Bool) (at count : ℕ) → length bits ≡ 8 * count → at ≤ length bits → MatchResult (padding_in at bits) (λ used. EndsPadded bits at used) (λ bit. PaddingStops bits at bit)
unfolding padding_in
padding_found bits at count whole within = by (ltb (zeros_before (drop at bits)) (wanting at)) refl
  where
    by : (b : Bool) → ltb (zeros_before (drop at bits)) (wanting at) ≡ b → MatchResult (cond b (Err (at + zeros_before (drop at bits))) (Ok ((at + wanting at) / 8))) (λ used. EndsPadded bits at used) (λ bit. PaddingStops bits at bit)
    by true e = padding_has_one bits at (zeros_before (drop at bits)) count whole within (zeros_begin (drop at bits)) (ltb-true (zeros_before (drop at bits)) (wanting at) e)
    by false e = padding_is_zeros bits at (zeros_before (drop at bits)) count whole within (zeros_begin (drop at bits)) (ltb-false (zeros_before (drop at bits)) (wanting at) e)

-- ---- the whole identifier

-- the bits begin with the packed identifier, so many bytes of them
pub record IsFront (bits : List Bool) (id : List ℕ) (used : ℕ) : Type 0 where
  pub valid : IsId id
  pub wide : length (packed_bits id) ≡ 8 * used
  pub begins : bits ≡ packed_bits id ++ drop (8 * used) bits

abbrev pub Found : List Bool → Result (List ℕ × ℕ) ℕ → Type 0
Found bits r = MatchResult r (λ x. IsFront bits x.0 x.1) (λ at. Stop bits at)

front_found : (bits : List Bool) (depth at used : ℕ) (id : List ℕ) → AllRead bits depth id at → EndsPadded bits at used → IsFront bits id used
front_found bits depth at used id a s =
    let r : HasRead bits (length id) id at = all_read bits depth id at a.count a.read in
    let codes = codes_of (length id) id in
    let zeros = replicate (wanting at) false in
    let padded_is : packed_bits id ≡ codes_of (length id) id ++ replicate (wanting at) false = packed_is id ∙ ap (λ (k : ℕ). codes_of (length id) id ++ replicate (wanting k) false) r.wide in
    let count : length (packed_bits id) ≡ 8 * used =
    ap length padded_is ∙ length-append (codes_of (length id) id) (replicate (wanting at) false) ∙ ap (λ (k : ℕ). k + length (replicate (wanting at) false)) r.wide ∙ ap (λ (k : ℕ). at + k) (length-replicate (wanting at) false) ∙ sym s.whole in
    let place : at + wanting at ≡ 8 * used = sym s.whole in
    record {
      valid = record { few = r.few; each = r.each };
      wide = count;
      begins = r.codes
          ∙ ap (λ (bs : List Bool). codes_of (length id) id ++ bs) (sym (take-append-drop (wanting at) (drop at bits)) ∙ ap (λ (bs : List Bool). bs ++ drop (wanting at) (drop at bits)) s.zeros)
          ∙ sym (append_assoc (codes_of (length id) id) (replicate (wanting at) false) (drop (wanting at) (drop at bits)))
          ∙ ap (λ (bs : List Bool). bs ++ drop (wanting at) (drop at bits)) (sym padded_is)
          ∙ ap (λ (bs : List Bool). packed_bits id ++ bs) (drop-drop (wanting at) at bits ∙ ap (λ (k : ℕ). drop k bits) place);
    }

pub identifier_found : (bits : List Bool) (count : ℕ) → length bits ≡ 8 * count → Found bits (identifier_in bits)
unfolding identifier_in
identifier_found bits count whole = depths (code_in 5 33 bits) (depth_found bits)
  where
    ends : (depth : ℕ) (id : List ℕ) (at : ℕ) → AllRead bits depth id at → (r : Result ℕ ℕ) → MatchResult r (λ used. EndsPadded bits at used) (λ bit. PaddingStops bits at bit) → Found bits (go_on r (λ used. Ok (id, used)))
    ends depth id at a (Ok used) found = front_found bits depth at used id a found
    ends depth id at a (Err bit) found = padding_stops bits id at bit (all_read bits depth id at a.count a.read) found

    numbers : (depth : ℕ) (r : Result (List ℕ × ℕ) ℕ) → MatchResult r (λ x. AllRead bits depth ([] ++ x.0) x.1) (λ bit. Stop bits bit) → Found bits (go_on r (λ id. go_on (padding_in id.1 bits) (λ used. Ok (id.0, used))))
    numbers depth (Ok x) a = ends depth x.0 x.1 a (padding_in x.1 bits) (padding_found bits x.1 count whole (read_within bits depth x.0 x.1 a.read))
    numbers depth (Err bit) found = found

    depths : (r : Result (ℕ × ℕ) ℕ) → CodeFound 33 bits r → Found bits (go_on r (λ depth. go_on (numbers_in (depth.0 - 1) depth.1 bits) (λ id. go_on (padding_in id.1 bits) (λ used. Ok (id.0, used)))))
    depths (Ok c) found = numbers (c.0 - 1) (numbers_in (c.0 - 1) c.1 bits) (numbers_found (c.0 - 1) bits (c.0 - 1) [] c.1 (begun bits c.0 c.1 found) (omega arith))
    depths (Err bit) found = depth_stops bits bit found

-- ---- one answer

-- a front of what an identifier begins with
shorter : (bits : List Bool) (j k : ℕ) (id : List ℕ) (rest : List Bool) → j ≤ k → packed_bits id ≡ take k bits ++ rest → packed_bits id ≡ take j bits ++ (drop j (take k bits) ++ rest)
shorter bits j k id rest le e =
    e ∙ ap (λ (bs : List Bool). bs ++ rest) (sym (take-append-drop j (take k bits)) ∙ ap (λ (bs : List Bool). bs ++ drop j (take k bits)) (take-take j k bits le)) ∙ append_assoc (take j bits) (drop j (take k bits)) rest

at_most : (bits : List Bool) (a b : ℕ) → Stop bits a → Stop bits b → a ≤ b
at_most bits a b s t = elim (leb_tells a b) [
  | inl p ↦ p.1
  | inr q ↦ absurd (t.longest (omega (arith, q.1, s.within)) s.id s.valid (drop (b + 1) (take a bits) ++ s.rest) (shorter bits (b + 1) a s.id s.rest (omega (arith, q.1)) s.begins))
]

pub one_stop : (bits : List Bool) (a b : ℕ) → Stop bits a → Stop bits b → a ≡ b
one_stop bits a b s t = omega (arith, at_most bits a b s t, at_most bits b a t s)

-- bits that begin with a packed identifier do not stop
pub no_stop : (bits : List Bool) (at : ℕ) (id : List ℕ) (rest : List Bool) → Stop bits at → IsId id → bits ≡ packed_bits id ++ rest → ⊥
no_stop bits at id rest s valid e =
    let all : length bits ≡ length (packed_bits id) + length rest = ap length e ∙ length-append (packed_bits id) rest in
    elim (leb_tells (length (packed_bits id)) at) [
      | inl p ↦
          let taken : length (take at bits) ≡ at = length-take-le at bits s.within in
          let over = drop (length (packed_bits id)) (take at bits) in
          let parts = longer_part (packed_bits id) (take at bits) rest (drop at bits) (omega (arith, p.1, taken)) (sym e ∙ sym (take-append-drop at bits)) in
          let joined : packed_bits id ++ (drop (length (packed_bits id)) (take at bits) ++ s.rest) ≡ packed_bits s.id =
          sym (append_assoc (packed_bits id) (drop (length (packed_bits id)) (take at bits)) s.rest) ∙ ap (λ (bs : List Bool). bs ++ s.rest) (sym parts.0) ∙ sym s.begins in
          let none : length (drop (length (packed_bits id)) (take at bits) ++ s.rest) ≡ 0 = ap length (no_longer_id id s.id (drop (length (packed_bits id)) (take at bits) ++ s.rest) valid s.valid joined) in
          omega (arith, none, length-append (drop (length (packed_bits id)) (take at bits)) s.rest, s.more)
      | inr q ↦
          let front : take (at + 1) bits ≡ take (at + 1) (packed_bits id) = ap (take (at + 1)) e ∙ take-append-le (at + 1) (packed_bits id) rest (omega (arith, q.1)) in
          s.longest (omega (arith, q.1, all)) id valid (drop (at + 1) (packed_bits id)) (sym (take-append-drop (at + 1) (packed_bits id)) ∙ ap (λ (bs : List Bool). bs ++ drop (at + 1) (packed_bits id)) (sym front))
    ]

-- what is read of bits that begin with a packed identifier
pub reads_front : (bits : List Bool) (count : ℕ) (id : List ℕ) (rest : List Bool) → length bits ≡ 8 * count → IsId id → bits ≡ packed_bits id ++ rest → identifier_in bits ≡ Ok (id, length (packed_bits id) / 8)
reads_front bits count id rest whole valid e = by (identifier_in bits) (identifier_found bits count whole)
  where
    by : (r : Result (List ℕ × ℕ) ℕ) → Found bits r → r ≡ Ok (id, length (packed_bits id) / 8)
    by (Ok x) found =
        let same : x.0 ≡ id = same_id x.0 id (drop (8 * x.1) bits) rest found.valid valid (sym found.begins ∙ e) in
        let used : x.1 ≡ length (packed_bits id) / 8 = subst (λ (ns : List ℕ). x.1 ≡ length (packed_bits ns) / 8) same (omega (arith, found.wide)) in
        ap (λ (ns : List ℕ). Ok (ns, x.1)) same ∙ ap (λ (k : ℕ). Ok (id, k)) used
    by (Err at) found = absurd (no_stop bits at id rest found valid e)

-- what is read of bits that stop
pub reads_stop : (bits : List Bool) (count at : ℕ) → length bits ≡ 8 * count → Stop bits at → identifier_in bits ≡ Err at
reads_stop bits count at whole s = by (identifier_in bits) (identifier_found bits count whole)
  where
    by : (r : Result (List ℕ × ℕ) ℕ) → Found bits r → r ≡ Err at
    by (Ok x) found = absurd (no_stop bits at x.0 (drop (8 * x.1) bits) s found.valid found.begins)
    by (Err bit) found = ap (λ (k : ℕ). Err k) (one_stop bits bit at found s)
