-- Packed identifiers: none begins another, and where reading one stops.
use Rattle.std.proofs.Common.{◌≡◌, ℕ, zero, suc, ◌+◌, ◌-◌, ◌*◌, ◌/◌, ◌%◌, ◌^◌, ◌<◌, ◌≤◌, Bool, true, false, List, [], ◌∷◌, ◌++◌, length, get_or, take, drop, replicate, refl, sym, ◌∙◌, ap, subst, append_assoc, arith, inl, inr, length-append, length-drop, take-append-drop}
use Rattle.std.specs.List.{All}
use Rattle.std.proofs.lemmas.Bool.Decides.{leb_tells}
use Rattle.std.proofs.lemmas.List.{append-nil, append_cancel_left, length-replicate, length-take-le, replicate-append-replicate, take-append-le, take_all, take-take, take_at, drop_at, drop-drop}
use Rattle.std.proofs.lemmas.List.Concat.{flat_map-append}
use Rattle.std.proofs.lemmas.List.Elements.{All-nil, All-head, All-tail, All-append, All-cons, All-push, All-take, All-from_get_or, All-replicate}
use Rattle.fs_ident.specs.Ident.{IsNumber, IsId}
use Rattle.fs_ident.specs.Packed.{binary, log2, gamma, gammas, padded, codes_of, packed_bits, number_of, bytes_of, bits_of, packed, BeginsPacked, IsLongestPacked, IsNoPacked}
use Rattle.fs_ident.specs.Bits.{CodeStops, IsCode, HasRead, wanting, EndsPadded, PaddingStops}
use Rattle.fs_ident.proofs.Binary.{length-binary, number_of-binary, binary-number_of}
use Rattle.fs_ident.proofs.Fronts.{same_parts, longer_part}
use Rattle.fs_ident.proofs.Codes.{log2_low, length-gamma, same_codes, same_codes_in_front}
use Rattle.fs_ident.proofs.Words.{length-bits_of}

-- the padding behind the codes of an identifier
abbrev pub padding_of : List ℕ → List Bool
padding_of id = replicate (wanting (length (codes_of (length id) id))) false

pub packed_is : (id : List ℕ) → packed_bits id ≡ codes_of (length id) id ++ padding_of id
unfolding packed_bits padded
packed_is id = refl

depth_number : (d : ℕ) → d ≤ 32 → IsNumber (d + 1)
depth_number d le = record { positive = omega arith; fits = omega arith }

-- what is behind codes that an identifier begins with
pub record Decoded (depth : ℕ) (done id : List ℕ) (behind ahead : List Bool) : Type 0 where
  pub deep : length id ≡ depth
  pub first : id ≡ done ++ drop (length done) id
  pub next : behind ≡ gammas (drop (length done) id) ++ (padding_of id ++ ahead)

pub decoded : (depth : ℕ) (done id : List ℕ) (behind ahead : List Bool) → depth ≤ 32 → length done ≤ depth → All IsNumber done → IsId id → codes_of depth done ++ behind ≡ packed_bits id ++ ahead → Decoded depth done id behind ahead
decoded depth done id behind ahead few le each valid e =
    let left : gamma (depth + 1) ++ (gammas done ++ behind) ≡ packed_bits id ++ ahead = sym (append_assoc (gamma (depth + 1)) (gammas done) behind) ∙ e in
    let right : packed_bits id ++ ahead ≡ gamma (length id + 1) ++ (gammas id ++ (padding_of id ++ ahead)) =
    ap (λ (bs : List Bool). bs ++ ahead) (packed_is id) ∙ append_assoc (codes_of (length id) id) (padding_of id) ahead ∙ append_assoc (gamma (length id + 1)) (gammas id) (padding_of id ++ ahead) in
    let depths = same_codes (depth + 1) (length id + 1) (gammas done ++ behind) (gammas id ++ (padding_of id ++ ahead)) (depth_number depth few) (depth_number (length id) valid.few) (left ∙ right) in
    let same : length id ≡ depth = omega (arith, depths.0) in
    let rest = same_codes_in_front done id behind (padding_of id ++ ahead) each valid.each (omega arith) depths.1 in
    record { deep = same; first = rest.0; next = rest.1 }

empty : {A : Type 0} (xs : List A) → length xs ≡ 0 → xs ≡ []
empty [] e = refl
empty (x ∷ xs) e = absurd (omega arith)

nothing_left : {A : Type 0} (xs ys : List A) → length ys ≡ length xs → ys ≡ xs ++ drop (length xs) ys → xs ≡ ys
nothing_left xs ys l e =
    let none : drop (length xs) ys ≡ [] = empty (drop (length xs) ys) (omega (arith, length-drop (length xs) ys)) in
    sym (append-nil xs) ∙ ap (λ (zs : List _). xs ++ zs) (sym none) ∙ sym e

-- no packed identifier begins another
pub same_id : (a b : List ℕ) (x y : List Bool) → IsId a → IsId b → packed_bits a ++ x ≡ packed_bits b ++ y → a ≡ b
same_id a b x y va vb e =
    let codes : codes_of (length a) a ++ (padding_of a ++ x) ≡ packed_bits b ++ y = sym (append_assoc (codes_of (length a) a) (padding_of a) x) ∙ ap (λ (bs : List Bool). bs ++ x) (sym (packed_is a)) ∙ e in
    let d = decoded (length a) a b (padding_of a ++ x) y va.few (omega arith) va.each vb codes in
    nothing_left a b d.deep d.first

pub no_longer_id : (a b : List ℕ) (x : List Bool) → IsId a → IsId b → packed_bits a ++ x ≡ packed_bits b → x ≡ []
no_longer_id a b x va vb e =
    let same : a ≡ b = same_id a b x [] va vb (e ∙ sym (append-nil (packed_bits b))) in
    append_cancel_left (packed_bits a) x [] (e ∙ ap packed_bits (sym same) ∙ sym (append-nil (packed_bits a)))

whole_bytes : (n k : ℕ) → k ≡ n + wanting n → k ≡ 8 * (k / 8)
whole_bytes n k e = omega arith

pub length-packed_bits : (id : List ℕ) → length (packed_bits id) ≡ 8 * (length (packed_bits id) / 8)
length-packed_bits id =
    let n = length (codes_of (length id) id) in
    let e : length (packed_bits id) ≡ n + wanting n = ap length (packed_is id) ∙ length-append (codes_of (length id) id) (padding_of id) ∙ ap (λ (k : ℕ). n + k) (length-replicate (wanting n) false) in
    whole_bytes n (length (packed_bits id)) e

pub length-bytes_of : (k : ℕ) (bits : List Bool) → length (bytes_of k bits) ≡ k
unfolding bytes_of
length-bytes_of zero bits = refl
length-bytes_of (suc k) bits = ap suc (length-bytes_of k (drop 8 bits))

pub bits_of-bytes_of : (k : ℕ) (bits : List Bool) → length bits ≡ 8 * k → bits_of (bytes_of k bits) ≡ bits
unfolding bytes_of bits_of
bits_of-bytes_of zero bits l = sym (empty bits (omega arith))
bits_of-bytes_of (suc k) bits l =
    let eight : length (take 8 bits) ≡ 8 = length-take-le 8 bits (omega arith) in
    let byte : binary 8 (number_of (take 8 bits)) ≡ take 8 bits = ap (λ (w : ℕ). binary w (number_of (take 8 bits))) (sym eight) ∙ binary-number_of (take 8 bits) in
    ap (λ (bs : List Bool). bs ++ bits_of (bytes_of k (drop 8 bits))) byte
    ∙ ap (λ (bs : List Bool). take 8 bits ++ bs) (bits_of-bytes_of k (drop 8 bits) (omega (arith, length-drop 8 bits)))
    ∙ take-append-drop 8 bits

pub bytes_of-bits_of : (k : ℕ) (bytes : List ℕ) (more : List Bool) → length bytes ≡ k → All (λ b. b < 256) bytes → bytes_of k (bits_of bytes ++ more) ≡ bytes
unfolding bytes_of bits_of
bytes_of-bits_of zero bytes more l each = sym (empty bytes l)
bytes_of-bits_of (suc k) [] more l each = absurd (omega arith)
bytes_of-bits_of (suc k) (b ∷ bytes) more l each =
    let low : b < 256 = All-head (λ (x : ℕ). x < 256) b bytes each in
    let all : (binary 8 b ++ bits_of bytes) ++ more ≡ binary 8 b ++ (bits_of bytes ++ more) = append_assoc (binary 8 b) (bits_of bytes) more in
    let first : take 8 ((binary 8 b ++ bits_of bytes) ++ more) ≡ binary 8 b = ap (take 8) all ∙ take_at (binary 8 b) (bits_of bytes ++ more) 8 (length-binary 8 b) in
    let rest : drop 8 ((binary 8 b ++ bits_of bytes) ++ more) ≡ bits_of bytes ++ more = ap (drop 8) all ∙ drop_at (binary 8 b) (bits_of bytes ++ more) 8 (length-binary 8 b) in
    let small : b % 2 ^ 8 ≡ b = omega arith in
    let value : number_of (take 8 ((binary 8 b ++ bits_of bytes) ++ more)) ≡ b = ap number_of first ∙ number_of-binary 8 b ∙ small in
    ap (λ (n : ℕ). n ∷ bytes_of k (drop 8 ((binary 8 b ++ bits_of bytes) ++ more))) value
    ∙ ap (λ (bs : List Bool). b ∷ bytes_of k bs) rest
    ∙ ap (λ (l : List ℕ). b ∷ l) (bytes_of-bits_of k bytes more (omega arith) (All-tail (λ (x : ℕ). x < 256) b bytes each))

-- the bytes of a packed identifier have its bits
pub bits_of-packed : (id : List ℕ) → bits_of (packed id) ≡ packed_bits id
unfolding packed
bits_of-packed id = bits_of-bytes_of (length (packed_bits id) / 8) (packed_bits id) (length-packed_bits id)

pub bits_of-append : (xs ys : List ℕ) → bits_of (xs ++ ys) ≡ bits_of xs ++ bits_of ys
unfolding bits_of
bits_of-append xs ys = flat_map-append (binary 8) xs ys

-- so many bits go on to a packed identifier, one more to none
pub record Stop (bits : List Bool) (at : ℕ) : Type 0 where
  pub within : at ≤ length bits
  pub id : List ℕ
  pub valid : IsId id
  pub rest : List Bool
  pub more : 0 < length rest
  pub begins : packed_bits id ≡ take at bits ++ rest
  pub longest : at < length bits → (other : List ℕ) → IsId other → (z : List Bool) → packed_bits other ≡ take (at + 1) bits ++ z → ⊥

-- a front of a longer one
begins_shorter : (bits : List Bool) (j k : ℕ) (other : List ℕ) (rest : List Bool) → j ≤ k → packed_bits other ≡ take k bits ++ rest → packed_bits other ≡ take j bits ++ (drop j (take k bits) ++ rest)
begins_shorter bits j k other rest le e =
    e ∙ ap (λ (bs : List Bool). bs ++ rest) (sym (take-append-drop j (take k bits)) ∙ ap (λ (bs : List Bool). bs ++ drop j (take k bits)) (take-take j k bits le)) ∙ append_assoc (take j bits) (drop j (take k bits)) rest

no_packed : (bits : List Bool) (at : ℕ) → Stop bits at → (id : List ℕ) (rest : List Bool) → IsId id → bits ≡ packed_bits id ++ rest → ⊥
no_packed bits at s id rest valid e =
    let l = length (packed_bits id) in
    let whole : length bits ≡ length (packed_bits id) + length rest = ap length e ∙ length-append (packed_bits id) rest in
    elim (leb_tells (length (packed_bits id)) at) [
      | inl p ↦ let le : length (packed_bits id) ≤ at = p.1 in
          let taken : length (take at bits) ≡ at = length-take-le at bits s.within in
          let parts = longer_part (packed_bits id) (take at bits) rest (drop at bits) (omega arith) (sym e ∙ sym (take-append-drop at bits)) in
          let back = drop (length (packed_bits id)) (take at bits) in
          let joined : packed_bits id ++ (drop (length (packed_bits id)) (take at bits) ++ s.rest) ≡ packed_bits s.id = sym (append_assoc (packed_bits id) (drop (length (packed_bits id)) (take at bits)) s.rest) ∙ ap (λ (bs : List Bool). bs ++ s.rest) (sym parts.0) ∙ sym s.begins in
          let none : drop (length (packed_bits id)) (take at bits) ++ s.rest ≡ [] = no_longer_id id s.id (drop (length (packed_bits id)) (take at bits) ++ s.rest) valid s.valid joined in
          let count : length (drop (length (packed_bits id)) (take at bits) ++ s.rest) ≡ 0 = ap length none in
          let more : 0 < length s.rest = s.more in
          omega (arith, length-append (drop (length (packed_bits id)) (take at bits)) s.rest)
      | inr q ↦ let lt : at < length (packed_bits id) = q.1 in
          let front : take (at + 1) bits ≡ take (at + 1) (packed_bits id) = ap (take (at + 1)) e ∙ take-append-le (at + 1) (packed_bits id) rest (omega arith) in
          s.longest (omega arith) id valid (drop (at + 1) (packed_bits id)) (sym (take-append-drop (at + 1) (packed_bits id)) ∙ ap (λ (bs : List Bool). bs ++ drop (at + 1) (packed_bits id)) (sym front))
    ]

below : (bytes : List ℕ) (at : ℕ) → Stop (bits_of bytes) at → (k : ℕ) → k ≤ length (bits_of bytes) → BeginsPacked (take k (bits_of bytes)) → k ≤ at
below bytes at s k le b = elim (leb_tells k at) [
  | inl p ↦ p.1
  | inr q ↦ let lt : at < k = q.1 in
      absurd (s.longest (omega arith) b.id b.valid (drop (at + 1) (take k (bits_of bytes)) ++ b.rest) (begins_shorter (bits_of bytes) (at + 1) k b.id b.rest (omega arith) b.begins))
]

pub stop_is : (bytes : List ℕ) (at : ℕ) → Stop (bits_of bytes) at → IsNoPacked bytes × IsLongestPacked bytes at
stop_is bytes at s = (
  λ id rest valid e. no_packed (bits_of bytes) at s id (bits_of rest) valid (ap bits_of e ∙ bits_of-append (packed id) rest ∙ ap (λ (bs : List Bool). bs ++ bits_of rest) (bits_of-packed id)),
  record {
    within = s.within;
    begins = record { id = s.id; valid = s.valid; rest = s.rest; begins = s.begins };
    longest = λ k le b. below bytes at s k le b;
  },
)

-- numbers that are one
abbrev ones : ℕ → List ℕ
ones k = replicate k 1

length-ones : (k : ℕ) → length (ones k) ≡ k
length-ones k = length-replicate k 1

ones_number : IsNumber 1
ones_number = record { positive = omega arith; fits = omega arith }

ones_numbers : (k : ℕ) → All IsNumber (ones k)
ones_numbers k = All-replicate IsNumber k 1 ones_number

deep_number : (id : List ℕ) → IsId id → length id + 1 ≤ 33
deep_number id valid = omega (arith, valid.few)

-- a code of a depth that stops
depth_witness : (bits : List Bool) (at d : ℕ) (rest : List Bool) → at ≤ length bits → d ≤ 32 → 0 < length rest → gamma (d + 1) ≡ take at bits ++ rest
    → (at < length bits → (m : ℕ) → 1 ≤ m → m ≤ 33 → (y z : List Bool) → gamma m ++ y ≡ take (at + 1) bits ++ z → ⊥) → Stop bits at
depth_witness bits at d rest within few more begins longest =
    let id = ones d in
    let deep : length (ones d) ≡ d = length-ones d in
    let tail = gammas (ones d) ++ padding_of (ones d) in
    record {
      within = within;
      id = ones d;
      valid = record { few = omega arith; each = ones_numbers d };
      rest = rest ++ (gammas (ones d) ++ padding_of (ones d));
      more = omega (arith, length-append rest (gammas (ones d) ++ padding_of (ones d)));
      begins = packed_is (ones d)
          ∙ append_assoc (gamma (length (ones d) + 1)) (gammas (ones d)) (padding_of (ones d))
          ∙ ap (λ (k : ℕ). gamma (k + 1) ++ (gammas (ones d) ++ padding_of (ones d))) deep
          ∙ ap (λ (bs : List Bool). bs ++ (gammas (ones d) ++ padding_of (ones d))) begins
          ∙ append_assoc (take at bits) rest (gammas (ones d) ++ padding_of (ones d));
      longest = λ lt other valid z e. longest lt (length other + 1) (omega arith) (deep_number other valid) (gammas other ++ padding_of other) z (sym (packed_is other ∙ append_assoc (gamma (length other + 1)) (gammas other) (padding_of other)) ∙ e);
    }

pub depth_stops : (bits : List Bool) (at : ℕ) → CodeStops 33 bits at → Stop bits at
depth_stops bits at c =
    let low : 1 ≤ c.n = c.positive in
    let high : c.n ≤ 33 = c.fits in
    let same : c.n - 1 + 1 ≡ c.n = omega arith in
    depth_witness bits at (c.n - 1) c.rest c.within (omega arith) c.more (ap gamma same ∙ c.begins) c.longest

-- taken beyond a first part
pub take_beyond : {A : Type 0} (p q : List A) (n k : ℕ) → length p ≡ n → take (n + k) (p ++ q) ≡ p ++ take k q
take_beyond {A = A} [] q n k l = ap (λ (j : ℕ). take j q) (omega arith)
take_beyond (x ∷ p) q zero k l = absurd (omega arith)
take_beyond {A = A} (x ∷ p) q (suc n) k l =
    let e : suc n + k ≡ suc (n + k) = omega arith in
    ap (λ (j : ℕ). take j (x ∷ (p ++ q))) e ∙ ap (λ (t : List A). x ∷ t) (take_beyond p q n k (omega arith))

gammas-append : (xs ys : List ℕ) → gammas (xs ++ ys) ≡ gammas xs ++ gammas ys
gammas-append xs ys = flat_map-append gamma xs ys

All-after : (xs ys : List ℕ) → All IsNumber (xs ++ ys) → All IsNumber ys
All-after [] ys h = h
All-after (x ∷ xs) ys h = All-after xs ys (All-tail IsNumber x (xs ++ ys) h)

-- what codes are followed by, where an identifier begins with them and has more numbers
number_clash : (depth : ℕ) (done other : List ℕ) (bits z : List Bool) → depth ≤ 32 → length done < depth → All IsNumber done → IsId other → codes_of depth done ++ (bits ++ z) ≡ packed_bits other
    → ((m : ℕ) → 1 ≤ m → m ≤ 4294967295 → (y : List Bool) → gamma m ++ y ≡ bits ++ z → ⊥) → ⊥
number_clash depth done other bits z few short each valid e none =
    let d = decoded depth done other (bits ++ z) [] few (omega arith) each valid (e ∙ sym (append-nil (packed_bits other))) in
    let left : 0 < length (drop (length done) other) = omega (arith, length-drop (length done) other, d.deep) in
    let joined : All IsNumber (done ++ drop (length done) other) = subst (All IsNumber) d.first valid.each in
    next (drop (length done) other) left (All-after done (drop (length done) other) joined) d.next
  where
    next : (ns : List ℕ) → 0 < length ns → All IsNumber ns → bits ++ z ≡ gammas ns ++ (padding_of other ++ []) → ⊥
    next [] pos all same = omega arith
    next (m ∷ ns) pos all same =
        let number : IsNumber m = All-head IsNumber m ns all in
        let high : m < 2 ^ 32 = number.fits in
        none m number.positive (omega arith) (gammas ns ++ (padding_of other ++ [])) (sym (same ∙ append_assoc (gamma m) (gammas ns) (padding_of other ++ [])))

further : (at k : ℕ) → at + k + 1 ≡ at + (k + 1)
further at k = omega arith

-- a code of a number that stops
regroup : (a b t r o p : List Bool) → (a ++ (b ++ ((t ++ r) ++ o))) ++ p ≡ ((a ++ b) ++ t) ++ (r ++ (o ++ p))
regroup a b t r o p = simp append_assoc

number_witness : (bits : List Bool) (at depth : ℕ) (done : List ℕ) (k n : ℕ) (rest behind : List Bool) → depth ≤ 32 → length done < depth → All IsNumber done → length (codes_of depth done) ≡ at → bits ≡ codes_of depth done ++ behind
    → k ≤ length behind → IsNumber n → 0 < length rest → gamma n ≡ take k behind ++ rest
    → (k < length behind → (m : ℕ) → 1 ≤ m → m ≤ 4294967295 → (y z : List Bool) → gamma m ++ y ≡ take (k + 1) behind ++ z → ⊥) → Stop bits (at + k)
number_witness bits at depth done k n rest behind few short each len e inside number more begins longest =
    let after = ones (depth - (length done + 1)) in
    let id = done ++ (n ∷ ones (depth - (length done + 1))) in
    let deep : length (done ++ (n ∷ ones (depth - (length done + 1)))) ≡ depth = omega (arith, length-append done (n ∷ ones (depth - (length done + 1))), length-ones (depth - (length done + 1))) in
    let total : length bits ≡ at + length behind = ap length e ∙ length-append (codes_of depth done) behind ∙ ap (λ (j : ℕ). j + length behind) len in
    let taken : take (at + k) bits ≡ codes_of depth done ++ take k behind = ap (take (at + k)) e ∙ take_beyond (codes_of depth done) behind at k len in
    let longer : take (at + k + 1) bits ≡ codes_of depth done ++ take (k + 1) behind = ap (λ (j : ℕ). take j bits) (further at k) ∙ ap (take (at + (k + 1))) e ∙ take_beyond (codes_of depth done) behind at (k + 1) len in
    record {
      within = omega arith;
      id = done ++ (n ∷ ones (depth - (length done + 1)));
      valid = record { few = omega arith; each = All-append IsNumber done (n ∷ ones (depth - (length done + 1))) each (All-cons IsNumber n (ones (depth - (length done + 1))) number (ones_numbers (depth - (length done + 1)))) };
      rest = rest ++ (gammas (ones (depth - (length done + 1))) ++ padding_of (done ++ (n ∷ ones (depth - (length done + 1)))));
      more = omega (arith, length-append rest (gammas (ones (depth - (length done + 1))) ++ padding_of (done ++ (n ∷ ones (depth - (length done + 1))))));
      begins = packed_is (done ++ (n ∷ ones (depth - (length done + 1))))
          ∙ ap (λ (j : ℕ). codes_of j (done ++ (n ∷ ones (depth - (length done + 1)))) ++ padding_of (done ++ (n ∷ ones (depth - (length done + 1))))) deep
          ∙ ap (λ (bs : List Bool). (gamma (depth + 1) ++ bs) ++ padding_of (done ++ (n ∷ ones (depth - (length done + 1))))) (gammas-append done (n ∷ ones (depth - (length done + 1))))
          ∙ ap (λ (bs : List Bool). (gamma (depth + 1) ++ (gammas done ++ (bs ++ gammas (ones (depth - (length done + 1)))))) ++ padding_of (done ++ (n ∷ ones (depth - (length done + 1))))) begins
          ∙ regroup (gamma (depth + 1)) (gammas done) (take k behind) rest (gammas (ones (depth - (length done + 1)))) (padding_of (done ++ (n ∷ ones (depth - (length done + 1)))))
          ∙ ap (λ (bs : List Bool). bs ++ (rest ++ (gammas (ones (depth - (length done + 1))) ++ padding_of (done ++ (n ∷ ones (depth - (length done + 1))))))) (sym taken);
      longest = λ lt other valid z same. number_clash depth done other (take (k + 1) behind) z few short each valid
          (sym (same ∙ ap (λ (bs : List Bool). bs ++ z) longer ∙ append_assoc (codes_of depth done) (take (k + 1) behind) z))
          (λ m positive fits y clash. longest (omega arith) m positive fits y z clash);
    }

numbered : (n : ℕ) → 1 ≤ n → n ≤ 4294967295 → IsNumber n
numbered n low high = record { positive = low; fits = omega arith }

pub number_stops : (bits : List Bool) (depth : ℕ) (done : List ℕ) (at k : ℕ) → HasRead bits depth done at → length done < depth → CodeStops 4294967295 (drop at bits) k → Stop bits (at + k)
number_stops bits depth done at k r short c = number_witness bits at depth done k c.n c.rest (drop at bits) r.few short r.each r.wide r.codes c.within (numbered c.n c.positive c.fits) c.more c.begins c.longest

-- ones in the padding
ones_in_padding : (p z : ℕ) (y : List Bool) → replicate p false ≡ replicate z false ++ (true ∷ y) → ⊥
ones_in_padding zero zero y e = cc e
ones_in_padding zero (suc z) y e = cc e
ones_in_padding (suc p) zero y e = cc e
ones_in_padding (suc p) (suc z) y e =
    let tail : replicate p false ≡ replicate z false ++ (true ∷ y) = cc e in
    ones_in_padding p z y tail

padded_clash : (done other : List ℕ) (z : ℕ) (y : List Bool) → length done ≤ 32 → All IsNumber done → IsId other → codes_of (length done) done ++ ((replicate z false ++ true ∷ []) ++ y) ≡ packed_bits other → ⊥
padded_clash done other z y few each valid e =
    let d = decoded (length done) done other ((replicate z false ++ true ∷ []) ++ y) [] few (omega arith) each valid (e ∙ sym (append-nil (packed_bits other))) in
    let none : drop (length done) other ≡ [] = empty (drop (length done) other) (omega (arith, length-drop (length done) other, d.deep)) in
    let padding : padding_of other ≡ replicate z false ++ (true ∷ y) = sym (append-nil (padding_of other)) ∙ ap (λ (ns : List ℕ). gammas ns ++ (padding_of other ++ [])) (sym none) ∙ sym d.next ∙ append_assoc (replicate z false) (true ∷ []) y in
    ones_in_padding (wanting (length (codes_of (length other) other))) z y padding

padding_witness : (bits : List Bool) (done : List ℕ) (at z place : ℕ) → length done ≤ 32 → All IsNumber done → length (codes_of (length done) done) ≡ at → (behind : List Bool) → bits ≡ codes_of (length done) done ++ behind
    → z < wanting at → place ≡ at + z → place < length bits → take (z + 1) behind ≡ replicate z false ++ true ∷ [] → Stop bits place
padding_witness bits done at z place few each len behind e less place_is within ends =
    let total : length bits ≡ at + length behind = ap length e ∙ length-append (codes_of (length done) done) behind ∙ ap (λ (j : ℕ). j + length behind) len in
    let zeros : take z behind ≡ replicate z false = sym (take-take z (z + 1) behind (omega arith)) ∙ ap (take z) ends ∙ take_at (replicate z false) (true ∷ []) z (length-replicate z false) in
    let taken : take place bits ≡ codes_of (length done) done ++ replicate z false = ap (λ (j : ℕ). take j bits) place_is ∙ ap (take (at + z)) e ∙ take_beyond (codes_of (length done) done) behind at z len ∙ ap (λ (bs : List Bool). codes_of (length done) done ++ bs) zeros in
    let longer : take (place + 1) bits ≡ codes_of (length done) done ++ (replicate z false ++ true ∷ []) = ap (λ (j : ℕ). take (j + 1) bits) place_is ∙ ap (λ (j : ℕ). take j bits) (further at z) ∙ ap (take (at + (z + 1))) e ∙ take_beyond (codes_of (length done) done) behind at (z + 1) len ∙ ap (λ (bs : List Bool). codes_of (length done) done ++ bs) ends in
    let id_is : IsId done = record { few = few; each = each } in
    let count : wanting at ≡ z + (wanting at - z) = omega arith in
    record {
      within = omega arith;
      id = done;
      valid = id_is;
      rest = replicate (wanting at - z) false;
      more = omega (arith, length-replicate (wanting at - z) false);
      begins = packed_is done
          ∙ ap (λ (j : ℕ). codes_of (length done) done ++ replicate (wanting j) false) len
          ∙ ap (λ (j : ℕ). codes_of (length done) done ++ replicate j false) count
          ∙ ap (λ (bs : List Bool). codes_of (length done) done ++ bs) (sym (replicate-append-replicate z (wanting at - z) false))
          ∙ sym (append_assoc (codes_of (length done) done) (replicate z false) (replicate (wanting at - z) false))
          ∙ ap (λ (bs : List Bool). bs ++ replicate (wanting at - z) false) (sym taken);
      longest = λ lt other valid y same. padded_clash done other z y few each valid
          (sym (same ∙ ap (λ (bs : List Bool). bs ++ y) longer ∙ append_assoc (codes_of (length done) done) (replicate z false ++ true ∷ []) y));
    }

pub padding_stops : (bits : List Bool) (done : List ℕ) (at place : ℕ) → HasRead bits (length done) done at → PaddingStops bits at place → Stop bits place
padding_stops bits done at place r s = padding_witness bits done at s.zeros place r.few r.each r.wide (drop at bits) r.codes s.few s.place_is s.within s.padding

narrow : (n width : ℕ) → IsNumber n → length (gamma n) ≡ width → width ≤ 63 * 1
narrow n width number e = let log : log2 n < 32 = (log2_low n number).2 in omega (arith, length-gamma n)

-- the code of a depth is read
pub begun : (bits : List Bool) (n width : ℕ) → IsCode 33 bits n width → HasRead bits (n - 1) [] width
begun bits n width c =
    let low : 1 ≤ n = c.positive in
    let high : n ≤ 33 = c.fits in
    let same : n - 1 + 1 ≡ n = omega arith in
    let code : codes_of (n - 1) [] ≡ gamma n = append-nil (gamma (n - 1 + 1)) ∙ ap gamma same in
    record {
      few = omega arith;
      each = All-nil IsNumber;
      wide = ap length code ∙ c.wide;
      near = narrow n width (record { positive = low; fits = omega arith }) c.wide;
      codes = c.code ∙ ap (λ (bs : List Bool). bs ++ drop width bits) (sym code);
    }

-- the code of a number more
pub read_more : (bits : List Bool) (depth : ℕ) (done : List ℕ) (at n width : ℕ) → HasRead bits depth done at → IsCode 4294967295 (drop at bits) n width → HasRead bits depth (done ++ n ∷ []) (at + width)
read_more bits depth done at n width r c =
    let number : IsNumber n = numbered n c.positive c.fits in
    let codes : codes_of depth (done ++ n ∷ []) ≡ codes_of depth done ++ gamma n = ap (λ (bs : List Bool). gamma (depth + 1) ++ bs) (gammas-append done (n ∷ []) ∙ ap (λ (bs : List Bool). gammas done ++ bs) (append-nil (gamma n))) ∙ sym (append_assoc (gamma (depth + 1)) (gammas done) (gamma n)) in
    let narrow' : width ≤ 63 * 1 = narrow n width number c.wide in
    record {
      few = r.few;
      each = All-push IsNumber done n r.each number;
      wide = ap length codes ∙ length-append (codes_of depth done) (gamma n) ∙ ap (λ (k : ℕ). k + length (gamma n)) r.wide ∙ ap (λ (k : ℕ). at + k) c.wide;
      near = let near : at ≤ 63 * (length done + 1) = r.near in omega (arith, length-append done (n ∷ []));
      codes = r.codes ∙ ap (λ (bs : List Bool). codes_of depth done ++ bs) (c.code ∙ ap (λ (bs : List Bool). gamma n ++ bs) (drop-drop width at bits)) ∙ sym (append_assoc (codes_of depth done) (gamma n) (drop (at + width) bits)) ∙ ap (λ (bs : List Bool). bs ++ drop (at + width) bits) (sym codes);
    }

pub read_within : (bits : List Bool) (depth : ℕ) (done : List ℕ) (at : ℕ) → HasRead bits depth done at → at ≤ length bits
read_within bits depth done at r = let wide : length (codes_of depth done) ≡ at = r.wide in omega (arith, ap length r.codes ∙ length-append (codes_of depth done) (drop at bits))

-- a whole identifier is read
pub record HasUnpacked (bytes id : List ℕ) (used : ℕ) : Type 0 where
  pub valid : IsId id
  pub used_is : used ≡ length (packed id)
  pub begins : bytes ≡ packed id ++ drop used bytes

packed_bytes : (id : List ℕ) → packed id ≡ bytes_of (length (packed_bits id) / 8) (packed_bits id)
unfolding packed
packed_bytes id = refl

pub unpacked : (bytes done : List ℕ) (at used : ℕ) → ((i : ℕ) → get_or bytes i 0 < 256) → HasRead (bits_of bytes) (length done) done at → EndsPadded (bits_of bytes) at used → HasUnpacked bytes done used
unpacked bytes done at used each r s =
    let bits = bits_of bytes in
    let whole : 8 * used ≡ at + wanting at = s.whole in
    let padded_is : packed_bits done ≡ codes_of (length done) done ++ replicate (wanting at) false = packed_is done ∙ ap (λ (j : ℕ). codes_of (length done) done ++ replicate (wanting j) false) r.wide in
    let count : length (packed_bits done) ≡ 8 * used = ap length padded_is ∙ length-append (codes_of (length done) done) (replicate (wanting at) false) ∙ ap (λ (j : ℕ). j + length (replicate (wanting at) false)) r.wide ∙ ap (λ (j : ℕ). at + j) (length-replicate (wanting at) false) ∙ sym whole in
    let front : bits_of bytes ≡ packed_bits done ++ drop (wanting at) (drop at (bits_of bytes)) =
    r.codes ∙ ap (λ (bs : List Bool). codes_of (length done) done ++ bs) (sym (take-append-drop (wanting at) (drop at (bits_of bytes))) ∙ ap (λ (bs : List Bool). bs ++ drop (wanting at) (drop at (bits_of bytes))) s.zeros)
    ∙ sym (append_assoc (codes_of (length done) done) (replicate (wanting at) false) (drop (wanting at) (drop at (bits_of bytes)))) ∙ ap (λ (bs : List Bool). bs ++ drop (wanting at) (drop at (bits_of bytes))) (sym padded_is) in
    let fits : used ≤ length bytes = omega (arith, length-bits_of bytes, ap length front ∙ length-append (packed_bits done) (drop (wanting at) (drop at (bits_of bytes)))) in
    let here : length (take used bytes) ≡ used = length-take-le used bytes fits in
    let halves : bits_of (take used bytes) ++ bits_of (drop used bytes) ≡ packed_bits done ++ drop (wanting at) (drop at (bits_of bytes)) = sym (bits_of-append (take used bytes) (drop used bytes)) ∙ ap bits_of (take-append-drop used bytes) ∙ front in
    let same = same_parts (bits_of (take used bytes)) (packed_bits done) (bits_of (drop used bytes)) (drop (wanting at) (drop at (bits_of bytes))) (length-bits_of (take used bytes) ∙ ap (λ (j : ℕ). 8 * j) here ∙ sym count) halves in
    let quotient : length (packed_bits done) / 8 ≡ used = omega (arith, count) in
    let all : All (λ b. b < 256) (take used bytes) = All-take (λ (b : ℕ). b < 256) used bytes (All-from_get_or (λ (b : ℕ). b < 256) bytes 0 (λ i _. each i)) in
    let bytes_are : packed done ≡ take used bytes = packed_bytes done ∙ ap (λ (j : ℕ). bytes_of j (packed_bits done)) quotient ∙ ap (bytes_of used) (sym same.0 ∙ sym (append-nil (bits_of (take used bytes)))) ∙ bytes_of-bits_of used (take used bytes) [] here all in
    record {
      valid = record { few = r.few; each = r.each };
      used_is = sym here ∙ ap length (sym bytes_are);
      begins = sym (take-append-drop used bytes) ∙ ap (λ (bs : List ℕ). bs ++ drop used bytes) (sym bytes_are);
    }

-- two fronts of the bytes that are packed identifiers are one
pub one_front : (bytes a b x y : List ℕ) → IsId a → IsId b → bytes ≡ packed a ++ x → bytes ≡ packed b ++ y → a ≡ b
one_front bytes a b x y va vb ea eb =
    same_id a b (bits_of x) (bits_of y) va vb (ap (λ (bs : List Bool). bs ++ bits_of x) (sym (bits_of-packed a)) ∙ sym (bits_of-append (packed a) x) ∙ ap bits_of (sym ea ∙ eb) ∙ bits_of-append (packed b) y ∙ ap (λ (bs : List Bool). bs ++ bits_of y) (bits_of-packed b))

-- no packed identifier begins another
pub none_begins : (a b rest : List ℕ) → IsId a → IsId b → packed b ≡ packed a ++ rest → (a ≡ b) × (rest ≡ [])
none_begins a b rest va vb e =
    let same : a ≡ b = one_front (packed b) a b rest [] va vb e (sym (append-nil (packed b))) in
    (same, append_cancel_left (packed a) rest [] (sym e ∙ ap packed (sym same) ∙ sym (append-nil (packed a))))

-- how far a code that stops goes
pub stops_near : (bits : List Bool) (k : ℕ) → CodeStops 4294967295 bits k → k ≤ 63
stops_near bits k c =
    let all : length (gamma c.n) ≡ length (take k bits) + length c.rest = ap length c.begins ∙ length-append (take k bits) c.rest in
    let here : length (take k bits) ≡ k = length-take-le k bits c.within in
    let most : length (gamma c.n) ≤ 63 * 1 = narrow c.n (length (gamma c.n)) (numbered c.n c.positive c.fits) refl in
    omega arith

pub code_near : (bits : List Bool) (n width : ℕ) → IsCode 4294967295 bits n width → width ≤ 63
code_near bits n width c = let most : width ≤ 63 * 1 = narrow n width (numbered n c.positive c.fits) c.wide in omega arith

-- all numbers are read
pub all_read : (bits : List Bool) (depth : ℕ) (done : List ℕ) (at : ℕ) → length done ≡ depth → HasRead bits depth done at → HasRead bits (length done) done at
all_read bits depth done at e r = let P : ℕ → Type 0 = λ d. HasRead bits d done at in subst P (sym e) r

padded_codes : (id : List ℕ) → padded (codes_of (length id) id) ≡ packed_bits id
unfolding packed_bits
padded_codes id = refl

-- the bytes that are written
pub packed_from : (numbers id : List ℕ) (index : ℕ) (codes whole : List Bool) (bytes : List ℕ) → numbers ≡ id → length numbers ≤ index → codes ≡ codes_of (length numbers) (take index numbers) → whole ≡ padded codes → bytes ≡ bytes_of (length whole / 8) whole → bytes ≡ packed id
packed_from numbers id index codes whole bytes same le c w b =
    let all : codes ≡ codes_of (length id) id = c ∙ ap (λ (ns : List ℕ). codes_of (length numbers) ns) (take_all index numbers le) ∙ ap (λ (ns : List ℕ). codes_of (length ns) ns) same in
    let bits : whole ≡ packed_bits id = w ∙ ap padded all ∙ padded_codes id in
    b ∙ ap (λ (bs : List Bool). bytes_of (length bs / 8) bs) bits ∙ sym (packed_bytes id)

-- bytes that begin with a packed identifier tell it and what is behind it
pub one_spelling : (a b x y : List ℕ) → IsId a → IsId b → packed a ++ x ≡ packed b ++ y → (a ≡ b) × (x ≡ y)
one_spelling a b x y va vb e =
    let same : a ≡ b = one_front (packed a ++ x) a b x y va vb refl e in
    (same, append_cancel_left (packed a) x y (e ∙ ap (λ (id : List ℕ). packed id ++ y) (sym same)))
