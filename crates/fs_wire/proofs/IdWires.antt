-- Identifiers: their packed bytes are read again, and reading stops before the byte that holds the bit from which none goes on.
use Rattle.std.proofs.Common.{◌≡◌, ℕ, zero, suc, ◌+◌, ◌-◌, ◌*◌, ◌/◌, ◌^◌, ◌<◌, ◌≤◌, Bool, false, List, [], ◌∷◌, ◌++◌, length, take, drop, Result, Ok, Err, refl, sym, ap, subst, ◌∙◌, append_assoc, arith, length-append, length-drop, All}
use Rattle.std.proofs.lemmas.List.{append-nil, take_at, drop_at, take_all, take-take, take-append-drop, take-append-le, length-take-le}
use Rattle.std.proofs.lemmas.List.Elements.{All-nil, All-cons, All-head, All-tail, All-take, All-drop, All-from_get_or}
use Rattle.fs_ident.specs.Ident.{IsId}
use Rattle.fs_ident.specs.Packed.{number_of, packed_bits, bytes_of, bits_of, packed, IsLongestPacked, IsNoPacked}
use Rattle.fs_ident.proofs.Binary.{length-number_of}
use Rattle.fs_ident.proofs.Words.{length-bits_of}
use Rattle.fs_ident.proofs.Packs.{Stop, stop_is, length-packed_bits, length-bytes_of, bytes_of-bits_of, bits_of-packed, bits_of-append}
use Rattle.fs_wire.specs.declared.fault.Fault.{Fault}
use Rattle.fs_wire.specs.Spelling.{identifier}
use Rattle.fs_wire.specs.Ranges.{IsBytes}
use Rattle.fs_wire.specs.Tags.{plain}
use Rattle.fs_wire.specs.Codes.{identifier_in}
use Rattle.fs_wire.specs.Readers.{stop}
use Rattle.fs_wire.specs.Reading.{identifier_of, identifier_at}
use Rattle.fs_wire.proofs.Readers.{ok_is, Took, Stopped, GoesOn, IsReader}
use Rattle.fs_wire.proofs.Says.{Says}
use Rattle.fs_wire.proofs.Wires.{Spelled, IsWire, plain-false, length-plain}
use Rattle.fs_wire.proofs.Codes.{IsFront, Found, identifier_found, reads_front, reads_stop}

-- as long as the bits are
whole : (bytes : List ℕ) → length (bits_of bytes) ≡ 8 * length bytes
whole bytes = length-bits_of bytes

-- the bytes of an identifier
packed-bytes : (id : List ℕ) → packed id ≡ bytes_of (length (packed_bits id) / 8) (packed_bits id)
unfolding packed
packed-bytes id = refl

length-packed : (id : List ℕ) → length (packed id) ≡ length (packed_bits id) / 8
length-packed id = ap length (packed-bytes id) ∙ length-bytes_of (length (packed_bits id) / 8) (packed_bits id)

below-256 : (bits : List Bool) → length bits ≡ 8 → number_of bits < 256
below-256 bits len = subst (λ (k : ℕ). number_of bits < 2 ^ k) len (length-number_of bits)

fits-bytes_of : (count : ℕ) (bits : List Bool) → length bits ≡ 8 * count → All (λ b. b < 256) (bytes_of count bits)
unfolding bytes_of
fits-bytes_of zero bits len = All-nil (λ (b : ℕ). b < 256)
fits-bytes_of (suc count) bits len =
    All-cons (λ (b : ℕ). b < 256) (number_of (take 8 bits)) (bytes_of count (drop 8 bits)) (below-256 (take 8 bits) (length-take-le 8 bits (omega (arith, len)))) (fits-bytes_of count (drop 8 bits) (omega (arith, len, length-drop 8 bits)))

packed-fits : (id : List ℕ) → All (λ b. b < 256) (packed id)
packed-fits id = subst (λ (bytes : List ℕ). All (λ b. b < 256) bytes) (sym (packed-bytes id)) (fits-bytes_of (length (packed_bits id) / 8) (packed_bits id) (length-packed_bits id))

-- bytes are known by their bits
bytes-front : (bytes more : List ℕ) (rest : List Bool) → All (λ b. b < 256) bytes → All (λ b. b < 256) more → bits_of more ≡ bits_of bytes ++ rest → more ≡ bytes ++ drop (length bytes) more
bytes-front bytes more rest fits more_fits e =
    let count = length bytes in
    let all : length (bits_of more) ≡ length (bits_of bytes) + length rest = ap length e ∙ length-append (bits_of bytes) rest in
    let le : length bytes ≤ length more = omega (arith, all, whole bytes, whole more) in
    let front = take (length bytes) more in
    let parts : bits_of (take (length bytes) more) ++ bits_of (drop (length bytes) more) ≡ bits_of bytes ++ rest = sym (bits_of-append (take (length bytes) more) (drop (length bytes) more)) ∙ ap bits_of (take-append-drop (length bytes) more) ∙ e in
    let front_is : bytes ≡ take (length bytes) more =
    sym (bytes_of-bits_of (length bytes) bytes rest refl fits) ∙ ap (bytes_of (length bytes)) (sym parts)
    ∙ bytes_of-bits_of (length bytes) (take (length bytes) more) (bits_of (drop (length bytes) more)) (length-take-le (length bytes) more le) (All-take (λ (b : ℕ). b < 256) (length bytes) more more_fits) in
    sym (take-append-drop (length bytes) more) ∙ ap (λ (z : List ℕ). z ++ drop (length bytes) more) (sym front_is)

bytes-all : (bytes : List ℕ) → All (λ b. b < 256) bytes → IsBytes bytes
bytes-all [] all i = omega arith
bytes-all (b ∷ bytes) all zero = All-head (λ (x : ℕ). x < 256) b bytes all
bytes-all (b ∷ bytes) all (suc i) = bytes-all bytes (All-tail (λ (x : ℕ). x < 256) b bytes all) i

all-bytes : (bytes : List ℕ) → IsBytes bytes → All (λ b. b < 256) bytes
all-bytes bytes fits = All-from_get_or (λ (b : ℕ). b < 256) bytes 0 (λ i _. fits i)

-- what is read behind an identifier
packed-again : (id more : List ℕ) → IsId id → identifier_at (packed id ++ more) ≡ Ok (id, more)
unfolding identifier_at
packed-again id more fits =
    let bits : bits_of (packed id ++ more) ≡ packed_bits id ++ bits_of more = bits_of-append (packed id) more ∙ ap (λ (z : List Bool). z ++ bits_of more) (bits_of-packed id) in
    let read = reads_front (bits_of (packed id ++ more)) (length (packed id ++ more)) id (bits_of more) (whole (packed id ++ more)) fits bits in
    ap (λ (r : Result (List ℕ × ℕ) ℕ). identifier_of r (packed id ++ more)) read ∙ ap (λ (z : List ℕ). Ok (id, z)) (drop_at (packed id) more (length (packed_bits id) / 8) (length-packed id))

stop-again : (bytes : List ℕ) (at : ℕ) → Stop (bits_of bytes) at → identifier_at bytes ≡ stop false (length bytes - at / 8)
unfolding identifier_at
stop-again bytes at s = ap (λ (r : Result (List ℕ × ℕ) ℕ). identifier_of r bytes) (reads_stop (bits_of bytes) (length bytes) at (whole bytes) s)

-- bytes that go on, whatever is behind them
ends-short : (bytes id : List ℕ) (rest : List Bool) → IsId id → 0 < length rest → packed_bits id ≡ bits_of bytes ++ rest → identifier_at bytes ≡ stop false 0
ends-short bytes id rest fits more e =
    let at = 8 * length bytes in
    let taken : take (8 * length bytes) (bits_of bytes) ≡ bits_of bytes = take_all (8 * length bytes) (bits_of bytes) (omega (arith, whole bytes)) in
    let s : Stop (bits_of bytes) (8 * length bytes) = record {
      within = omega (arith, whole bytes);
      id = id;
      valid = fits;
      rest = rest;
      more = more;
      begins = e ∙ ap (λ (z : List Bool). z ++ rest) (sym taken);
      longest = λ lt other valid z same. omega (arith, lt, whole bytes);
    } in
    stop-again bytes (8 * length bytes) s ∙ ap (λ (k : ℕ). stop {A = List ℕ × List ℕ} false k) (omega arith)

-- what was found
front-parts : (bytes id : List ℕ) (used : ℕ) → IsBytes bytes → IsFront (bits_of bytes) id used → bytes ≡ packed id ++ drop used bytes
front-parts bytes id used fits f =
    let len : length (packed id) ≡ used = length-packed id ∙ omega (arith, f.wide) in
    let bits : bits_of bytes ≡ bits_of (packed id) ++ drop (8 * used) (bits_of bytes) = f.begins ∙ ap (λ (z : List Bool). z ++ drop (8 * used) (bits_of bytes)) (sym (bits_of-packed id)) in
    bytes-front (packed id) bytes (drop (8 * used) (bits_of bytes)) (packed-fits id) (all-bytes bytes fits) bits ∙ ap (λ (k : ℕ). packed id ++ drop k bytes) len

front-took : (bytes id : List ℕ) (used : ℕ) → IsBytes bytes → IsFront (bits_of bytes) id used → Took identifier_at (Spelled IsId identifier) bytes (id, drop used bytes)
front-took bytes id used fits f = record {
  text = packed id;
  is = record { fits = f.valid; text_is = refl };
  parts = front-parts bytes id used fits f;
  again = λ m. packed-again id m f.valid;
}

-- a byte behind decides where reading stops, and not what follows it
stop-behind : (p q r : List Bool) (at : ℕ) → Stop (p ++ q) at → at < length p → Stop (p ++ r) at
stop-behind p q r at s lt =
    let here : take at (p ++ q) ≡ take at (p ++ r) = take-append-le at p q (omega (arith, lt)) ∙ sym (take-append-le at p r (omega (arith, lt))) in
    let next : take (at + 1) (p ++ q) ≡ take (at + 1) (p ++ r) = take-append-le (at + 1) p q (omega (arith, lt)) ∙ sym (take-append-le (at + 1) p r (omega (arith, lt))) in
    record {
      within = omega (arith, length-append p r, lt);
      id = s.id;
      valid = s.valid;
      rest = s.rest;
      more = s.more;
      begins = s.begins ∙ ap (λ (z : List Bool). z ++ s.rest) here;
      longest = λ _ other valid z same. s.longest (omega (arith, length-append p q, lt)) other valid z (same ∙ ap (λ (y : List Bool). y ++ z) (sym next));
    }

-- the bits of the first bytes
bits-front : (bytes : List ℕ) (count : ℕ) → count ≤ length bytes → bits_of (take count bytes) ≡ take (8 * count) (bits_of bytes)
bits-front bytes count le =
    let len : length (bits_of (take count bytes)) ≡ 8 * count = whole (take count bytes) ∙ ap (λ (k : ℕ). 8 * k) (length-take-le count bytes le) in
    sym (take_at (bits_of (take count bytes)) (bits_of (drop count bytes)) (8 * count) len) ∙ ap (take (8 * count)) (sym (bits_of-append (take count bytes) (drop count bytes)) ∙ ap bits_of (take-append-drop count bytes))

stop-stopped : (bytes : List ℕ) (at : ℕ) → Stop (bits_of bytes) at → Stopped identifier_at bytes (record { left = length bytes - at / 8; tag = false })
stop-stopped bytes at s =
    let count = at / 8 in
    let le : at / 8 ≤ length bytes = omega (arith, s.within, whole bytes) in
    let len : length (take (at / 8) bytes) ≡ at / 8 = length-take-le (at / 8) bytes le in
    let over = drop (8 * (at / 8)) (take at (bits_of bytes)) ++ s.rest in
    let cut : take at (bits_of bytes) ≡ bits_of (take (at / 8) bytes) ++ drop (8 * (at / 8)) (take at (bits_of bytes)) =
    sym (take-append-drop (8 * (at / 8)) (take at (bits_of bytes))) ∙ ap (λ (z : List Bool). z ++ drop (8 * (at / 8)) (take at (bits_of bytes))) (take-take (8 * (at / 8)) at (bits_of bytes) (omega arith) ∙ sym (bits-front bytes (at / 8) le)) in
    let begins : packed_bits s.id ≡ bits_of (take (at / 8) bytes) ++ (drop (8 * (at / 8)) (take at (bits_of bytes)) ++ s.rest) =
    s.begins ∙ ap (λ (z : List Bool). z ++ s.rest) cut ∙ append_assoc (bits_of (take (at / 8) bytes)) (drop (8 * (at / 8)) (take at (bits_of bytes))) s.rest in
    record {
      front = take (at / 8) bytes;
      rest = drop (at / 8) bytes;
      parts = sym (take-append-drop (at / 8) bytes);
      left = sym (length-drop (at / 8) bytes);
      begins = ends-short (take (at / 8) bytes) s.id (drop (8 * (at / 8)) (take at (bits_of bytes)) ++ s.rest) s.valid (omega (arith, s.more, length-append (drop (8 * (at / 8)) (take at (bits_of bytes))) s.rest)) begins;
      past = λ b others e m.
          let front = take (at / 8) bytes in
          let split : (f r : List ℕ) → f ++ b ∷ r ≡ (f ++ b ∷ []) ++ r = λ f r. sym (append_assoc f (b ∷ []) r) in
          let parts : bytes ≡ (take (at / 8) bytes ++ b ∷ []) ++ others = sym (take-append-drop (at / 8) bytes) ∙ ap (λ (z : List ℕ). take (at / 8) bytes ++ z) e ∙ split (take (at / 8) bytes) others in
          let bits : bits_of bytes ≡ bits_of (take (at / 8) bytes ++ b ∷ []) ++ bits_of others = ap bits_of parts ∙ bits_of-append (take (at / 8) bytes ++ b ∷ []) others in
          let inside : at < length (bits_of (take (at / 8) bytes ++ b ∷ [])) = omega (arith, whole (take (at / 8) bytes ++ b ∷ []), length-append (take (at / 8) bytes) (b ∷ []), len) in
          let there : Stop (bits_of (take (at / 8) bytes ++ b ∷ []) ++ bits_of m) at = stop-behind (bits_of (take (at / 8) bytes ++ b ∷ [])) (bits_of others) (bits_of m) at (subst (λ (z : List Bool). Stop z at) bits s) inside in
          let again : Stop (bits_of (take (at / 8) bytes ++ b ∷ m)) at = subst (λ (z : List Bool). Stop z at) (sym (bits_of-append (take (at / 8) bytes ++ b ∷ []) m) ∙ ap bits_of (sym (split (take (at / 8) bytes) m))) there in
          stop-again (take (at / 8) bytes ++ b ∷ m) at again ∙ ap (λ (k : ℕ). stop {A = List ℕ × List ℕ} false k) (omega (arith, length-append (take (at / 8) bytes) (b ∷ m), len));
    }

-- bytes that all begin an identifier go on to it
stop-goes_on : (bytes : List ℕ) (at : ℕ) → IsBytes bytes → Stop (bits_of bytes) at → length bytes - at / 8 ≡ 0 → GoesOn identifier_at bytes
stop-goes_on bytes at fits s none =
    let at_is : at ≡ 8 * length bytes = omega (arith, none, s.within, whole bytes) in
    let taken : take at (bits_of bytes) ≡ bits_of bytes = take_all at (bits_of bytes) (omega (arith, at_is, whole bytes)) in
    let bits : bits_of (packed s.id) ≡ bits_of bytes ++ s.rest = bits_of-packed s.id ∙ s.begins ∙ ap (λ (z : List Bool). z ++ s.rest) taken in
    let all : packed s.id ≡ bytes ++ drop (length bytes) (packed s.id) = bytes-front bytes (packed s.id) s.rest (all-bytes bytes fits) (packed-fits s.id) bits in
    record {
      text = drop (length bytes) (packed s.id);
      text_fits = bytes-all (drop (length bytes) (packed s.id)) (All-drop (λ (b : ℕ). b < 256) (length bytes) (packed s.id) (packed-fits s.id));
      value = s.id;
      whole = ap (λ (z : List ℕ). identifier_at z) (sym all ∙ sym (append-nil (packed s.id))) ∙ packed-again s.id [] s.valid;
    }

identifier-took : (bytes : List ℕ) (x : List ℕ × List ℕ) → IsBytes bytes → identifier_at bytes ≡ Ok x → Took identifier_at (Spelled IsId identifier) bytes x
unfolding identifier_at
identifier-took bytes x fits = by (identifier_in (bits_of bytes)) (identifier_found (bits_of bytes) (length bytes) (whole bytes)) refl
  where
    by : (r : Result (List ℕ × ℕ) ℕ) → Found (bits_of bytes) r → identifier_in (bits_of bytes) ≡ r → identifier_at bytes ≡ Ok x → Took identifier_at (Spelled IsId identifier) bytes x
    by (Ok y) f h e =
        let same : (y.0, drop y.1 bytes) ≡ x = ok_is (y.0, drop y.1 bytes) x (ap (λ (r : Result (List ℕ × ℕ) ℕ). identifier_of r bytes) (sym h) ∙ e) in
        subst (λ (z : List ℕ × List ℕ). Took identifier_at (Spelled IsId identifier) bytes z) same (front-took bytes y.0 y.1 fits f)
    by (Err at) s h e = absurd cc

-- reading that stops did so at the bit that was found
identifier-stop : (bytes : List ℕ) (f : Fault) → identifier_at bytes ≡ Err f → (at : ℕ) × Stop (bits_of bytes) at × ((record { left = length bytes - at / 8; tag = false }) ≡ f)
unfolding identifier_at
identifier-stop bytes f = by (identifier_in (bits_of bytes)) (identifier_found (bits_of bytes) (length bytes) (whole bytes)) refl
  where
    by : (r : Result (List ℕ × ℕ) ℕ) → Found (bits_of bytes) r → identifier_in (bits_of bytes) ≡ r → identifier_at bytes ≡ Err f → (at : ℕ) × Stop (bits_of bytes) at × ((record { left = length bytes - at / 8; tag = false }) ≡ f)
    by (Ok y) found h e = absurd cc
    by (Err at) s h e = (at, s, cc)

identifier-reads : IsReader identifier_at (Spelled IsId identifier)
identifier-reads = record {
  took = identifier-took;
  stopped = λ bytes f fits e. let s = identifier-stop bytes f e in subst (λ (z : Fault). Stopped identifier_at bytes z) s.2 (stop-stopped bytes s.0 s.1);
  goes_on = λ bytes f fits e left. let s = identifier-stop bytes f e in stop-goes_on bytes s.0 fits s.1 (ap (λ (z : Fault). z.left) s.2 ∙ left);
}

identifier-marks : (id front : List ℕ) (b : ℕ) (rest : List ℕ) → IsId id → packed id ≡ front ++ b ∷ rest → identifier_at front ≡ stop false 0
identifier-marks id front b rest fits e =
    let bits : packed_bits id ≡ bits_of front ++ bits_of (b ∷ rest) = sym (bits_of-packed id) ∙ ap bits_of e ∙ bits_of-append front (b ∷ rest) in
    ends-short front id (bits_of (b ∷ rest)) fits (omega (arith, whole (b ∷ rest))) bits

identifier-says : (id : List ℕ) → IsId id → Says identifier_at id (identifier id) (plain (identifier id))
identifier-says id fits = record {
  again = λ m. packed-again id m fits;
  marks = λ front b rest e. identifier-marks id front b rest fits e ∙ ap (λ (z : Bool). stop {A = List ℕ × List ℕ} z 0) (sym (plain-false (packed id) (length front)));
  same = length-plain (packed id);
}

pub identifier-wire : IsWire identifier_at IsId identifier (λ id. plain (identifier id))
identifier-wire = record { reads = identifier-reads; says = identifier-says }

-- ---- what unpacking says of them

pub gives-front : (bytes id : List ℕ) (used : ℕ) → IsId id → bytes ≡ packed id ++ drop used bytes → identifier_at bytes ≡ Ok (id, take (length bytes - used) (drop used bytes))
gives-front bytes id used fits e =
    let all : take (length bytes - used) (drop used bytes) ≡ drop used bytes = take_all (length bytes - used) (drop used bytes) (omega (arith, length-drop used bytes)) in
    ap (λ (z : List ℕ). identifier_at z) e ∙ packed-again id (drop used bytes) fits ∙ ap (λ (z : List ℕ). Ok (id, z)) (sym all)

pub bit-within : (bytes : List ℕ) (at : ℕ) → IsLongestPacked bytes at → at / 8 ≤ length bytes
bit-within bytes at l = omega (arith, l.within, whole bytes)

pub gives-stop : (bytes : List ℕ) (at : ℕ) → IsBytes bytes → IsNoPacked bytes → IsLongestPacked bytes at → identifier_at bytes ≡ stop false (length bytes - at / 8)
gives-stop bytes at fits none longest = by (identifier_in (bits_of bytes)) (identifier_found (bits_of bytes) (length bytes) (whole bytes))
  where
    by : (r : Result (List ℕ × ℕ) ℕ) → Found (bits_of bytes) r → identifier_at bytes ≡ stop false (length bytes - at / 8)
    by (Ok y) f = absurd (none y.0 (drop y.1 bytes) f.valid (front-parts bytes y.0 y.1 fits f))
    by (Err bit) s =
        let l : IsLongestPacked bytes bit = (stop_is bytes bit s).1 in
        let same : bit ≡ at = omega (arith, l.longest at longest.within longest.begins, longest.longest bit l.within l.begins) in
        stop-again bytes bit s ∙ ap (λ (k : ℕ). stop {A = List ℕ × List ℕ} false (length bytes - k / 8)) same
