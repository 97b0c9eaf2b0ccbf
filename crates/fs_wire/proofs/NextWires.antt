-- The next numbers of directories: from 1 to 2^32, in eight bytes.
use Rattle.std.proofs.Common.{◌≡◌, ℕ, zero, suc, ◌+◌, ◌-◌, ◌<◌, ◌≤◌, ◌^◌, inl, inr, false, ltb, eqb, List, [], ◌∷◌, ◌++◌, length, get_or, Result, Ok, Err, refl, sym, ap, subst, ◌∙◌, append_assoc, arith, length-append}
use Rattle.std.specs.Int.{w32, w64, from_be_bytes, to_be_bytes}
use Rattle.std.proofs.Math.Seq.{get_or-append_seam}
use Rattle.std.proofs.lemmas.Bool.{ltb-true, eqb-true, eqb-false, cases_lt}
use Rattle.std.proofs.lemmas.Nat.{be_bytes_8, from_be_bytes-to_be_bytes_4}
use Rattle.fs_ident.specs.Ident.{IsNumber}
use Rattle.fs_wire.specs.declared.fault.Fault.{Fault}
use Rattle.fs_wire.specs.Spelling.{four, eight}
use Rattle.fs_wire.specs.Ranges.{IsBytes, FitsFour, FitsNext}
use Rattle.fs_wire.specs.Tags.{plain}
use Rattle.fs_wire.specs.Readers.{◌>>=◌, stop, then_at, map_at, either_at, choice_at, number_at, four_at}
use Rattle.fs_wire.specs.Reading.{unless_zero, positive_at, zeros_at, next_of, next_at}
use Rattle.fs_wire.proofs.Readers.{IsBytes-both, IsBytes-one, IsOne, bind_ok, bind_err, ok_is, Took, Stopped, GoesOn, IsReader, then-reader, map-reader, either-reader, weaker}
use Rattle.fs_wire.proofs.Says.{Says, says-then, says-map, says-one}
use Rattle.fs_wire.proofs.Wires.{Spelled, IsWire, choice-reader}
use Rattle.fs_wire.proofs.NumberWires.{zeros, length-zeros, IsBytes-zeros, wide32, number-failed, number-full, four-wire}

-- ---- a number that is not 0

abbrev step : ℕ × List ℕ → Result (ℕ × List ℕ) Fault
step x = unless_zero x.0 x.1

step-took : (n : ℕ) (rest bytes : List ℕ) (x : ℕ × List ℕ) → Took four_at (Spelled FitsFour four) bytes (n, rest) → unless_zero n rest ≡ Ok x → Took positive_at (Spelled IsNumber four) bytes x
unfolding positive_at then_at
step-took zero rest bytes x t e = absurd cc
step-took (suc n) rest bytes x t e =
    let made : Took positive_at (Spelled IsNumber four) bytes (suc n, rest) = record {
      text = t.text;
      is = record { fits = record { positive = omega arith; fits = t.is.fits }; text_is = t.is.text_is };
      parts = t.parts;
      again = λ m. ap (λ (z : Result (ℕ × List ℕ) Fault). z >>= step) (t.again m);
    } in
    subst (λ (z : ℕ × List ℕ). Took positive_at (Spelled IsNumber four) bytes z) (ok_is (suc n, rest) x e) made

-- the last byte of a number is 0 and the three before are
step-past : (bytes rest : List ℕ) → Took four_at (Spelled FitsFour four) bytes (0, rest) → (m : List ℕ) → positive_at (0 ∷ 0 ∷ 0 ∷ 0 ∷ m) ≡ stop false (length (0 ∷ m))
unfolding positive_at then_at four
step-past bytes rest t m =
    let read : four_at (0 ∷ 0 ∷ 0 ∷ 0 ∷ m) ≡ Ok (0, m) = ap (λ (z : List ℕ). four_at (z ++ m)) (sym t.is.text_is) ∙ t.again m in
    ap (λ (z : Result (ℕ × List ℕ) Fault). z >>= step) read ∙ ap (λ (z : ℕ). stop {A = ℕ × List ℕ} false z) (omega arith)

step-begins : positive_at (0 ∷ 0 ∷ 0 ∷ []) ≡ stop false 0
unfolding positive_at then_at four_at number_at
step-begins = refl

step-zero : (n : ℕ) (rest bytes : List ℕ) (f : Fault) → Took four_at (Spelled FitsFour four) bytes (n, rest) → unless_zero n rest ≡ Err f → Stopped positive_at bytes f × (f.left ≡ 1 + length rest)
unfolding four
step-zero (suc n) rest bytes f t e = absurd cc
step-zero zero rest bytes f t e =
    let g : (record { left = 1 + length rest; tag = false }) ≡ f = cc in
    let made : Stopped positive_at bytes (record { left = 1 + length rest; tag = false }) = record {
      front = 0 ∷ 0 ∷ 0 ∷ [];
      rest = 0 ∷ rest;
      parts = t.parts ∙ ap (λ (z : List ℕ). z ++ rest) t.is.text_is;
      left = omega arith;
      begins = step-begins;
      past = λ b others h m. let same : 0 ≡ b = cc in subst (λ (z : ℕ). positive_at (0 ∷ 0 ∷ 0 ∷ z ∷ m) ≡ stop false (length (z ∷ m))) same (step-past bytes rest t m);
    } in
    (subst (λ (z : Fault). Stopped positive_at bytes z) g made, ap (λ (z : Fault). z.left) (sym g))

step-stopped : (bytes : List ℕ) (f : Fault) → IsBytes bytes → (four_at bytes >>= step) ≡ Err f → Stopped positive_at bytes f
unfolding positive_at then_at
step-stopped bytes f fits e =
    elim (bind_err (four_at bytes) step f e) [
      | inl a ↦
          let s = four-wire.reads.stopped bytes f fits a in
          record {
            front = s.front;
            rest = s.rest;
            parts = s.parts;
            left = s.left;
            begins = ap (λ (z : Result (ℕ × List ℕ) Fault). z >>= step) s.begins;
            past = λ b others h m. ap (λ (z : Result (ℕ × List ℕ) Fault). z >>= step) (s.past b others h m);
          }
      | inr a ↦ (step-zero a.0.0 a.0.1 bytes f (four-wire.reads.took bytes a.0 fits a.1) a.2).0
    ]

not-zero : (n : ℕ) (rest : List ℕ) → 1 ≤ n → unless_zero n rest ≡ Ok (n, rest)
not-zero zero rest h = absurd (omega arith)
not-zero (suc n) rest h = refl

four-failed : (bytes : List ℕ) (f : Fault) → four_at bytes ≡ Err f → length bytes < 4
unfolding four_at
four-failed bytes f e = (number-failed w32 (2 ^ 32) wide32 bytes f e).0

four-full : (bytes : List ℕ) → length bytes ≡ 4 → four_at bytes ≡ Ok (from_be_bytes w32 bytes, [])
unfolding four_at
four-full bytes len = number-full w32 (2 ^ 32) wide32 bytes len

-- fewer than four bytes go on with zeros and a one
step-completed : (bytes : List ℕ) → length bytes < 4 → GoesOn positive_at bytes
unfolding positive_at then_at
step-completed bytes lt =
    let front = bytes ++ zeros (3 - length bytes) in
    let len : length front ≡ 3 = omega (arith, length-append bytes (zeros (3 - length bytes)), length-zeros (3 - length bytes)) in
    let whole = front ++ 1 ∷ [] in
    let last : get_or whole 3 0 ≡ 1 = subst (λ (z : ℕ). get_or whole z 0 ≡ 1) len (get_or-append_seam front 1 [] 0) in
    let some : 1 ≤ from_be_bytes w32 whole = omega (arith, last) in
    let full : length whole ≡ 4 = omega (arith, length-append front (1 ∷ []), len) in
    record {
      text = zeros (3 - length bytes) ++ 1 ∷ [];
      text_fits = IsBytes-both (zeros (3 - length bytes)) (1 ∷ []) (IsBytes-zeros (3 - length bytes)) (IsBytes-one 1 (omega arith));
      value = from_be_bytes w32 whole;
      whole = ap (λ (z : List ℕ). four_at z >>= step) (sym (append_assoc bytes (zeros (3 - length bytes)) (1 ∷ []))) ∙ ap (λ (z : Result (ℕ × List ℕ) Fault). z >>= step) (four-full whole full) ∙ not-zero (from_be_bytes w32 whole) [] some;
    }

step-goes_on : (bytes : List ℕ) (f : Fault) → IsBytes bytes → (four_at bytes >>= step) ≡ Err f → f.left ≡ 0 → GoesOn positive_at bytes
step-goes_on bytes f fits e left =
    elim (bind_err (four_at bytes) step f e) [
      | inl a ↦ step-completed bytes (four-failed bytes f a)
      | inr a ↦ let much = (step-zero a.0.0 a.0.1 bytes f (four-wire.reads.took bytes a.0 fits a.1) a.2).1 in absurd (omega (arith, much))
    ]

step-reads : IsReader positive_at (Spelled IsNumber four)
unfolding positive_at then_at
step-reads = record {
  took = λ bytes x fits e. let a = bind_ok (four_at bytes) step x e in step-took a.0.0 a.0.1 bytes x (four-wire.reads.took bytes a.0 fits a.1) a.2;
  stopped = step-stopped;
  goes_on = step-goes_on;
}

step-says : (n : ℕ) → IsNumber n → Says positive_at n (four n) (plain (four n))
unfolding positive_at then_at
step-says n fits =
    let s = four-wire.says n fits.fits in
    record {
      again = λ m. ap (λ (z : Result (ℕ × List ℕ) Fault). z >>= step) (s.again m) ∙ not-zero n m fits.positive;
      marks = λ front b rest e. ap (λ (z : Result (ℕ × List ℕ) Fault). z >>= step) (s.marks front b rest e);
      same = s.same;
    }

step-wire : IsWire positive_at IsNumber four (λ n. plain (four n))
step-wire = record { reads = step-reads; says = step-says }

-- ---- the bytes of a number below 2^32, and of 2^32

four-fits : (n : ℕ) → IsBytes (to_be_bytes w32 n)
four-fits n zero = omega arith
four-fits n (suc zero) = omega arith
four-fits n (suc (suc zero)) = omega arith
four-fits n (suc (suc (suc zero))) = omega arith
four-fits n (suc (suc (suc (suc i)))) = omega arith

-- four bytes that are 0 change nothing in front of four others
low-of : (bytes : List ℕ) (n : ℕ) → length bytes ≡ 4 → IsBytes bytes → n ≡ from_be_bytes w32 bytes → to_be_bytes w64 n ≡ 0 ∷ 0 ∷ 0 ∷ 0 ∷ bytes
low-of bytes n len fits e = be_bytes_8 (0 ∷ 0 ∷ 0 ∷ 0 ∷ bytes) n (omega (arith, len)) are (e ∙ omega arith)
  where
    are : (i : ℕ) → get_or (0 ∷ 0 ∷ 0 ∷ 0 ∷ bytes) i 0 < 256
    are zero = omega arith
    are (suc zero) = omega arith
    are (suc (suc zero)) = omega arith
    are (suc (suc (suc zero))) = omega arith
    are (suc (suc (suc (suc i)))) = fits i

low-text : (n : ℕ) → n < 2 ^ 32 → eight n ≡ 0 ∷ 0 ∷ 0 ∷ 0 ∷ four n
unfolding four eight
low-text n lt = low-of (to_be_bytes w32 n) n refl (four-fits n) (sym (from_be_bytes-to_be_bytes_4 n lt))

high-text : eight (2 ^ 32) ≡ 0 ∷ 0 ∷ 0 ∷ 1 ∷ 0 ∷ 0 ∷ 0 ∷ 0 ∷ []
unfolding eight
high-text = refl

-- ---- three bytes that are 0

record AreZeros (z : ℕ) (text : List ℕ) : Type 0 where
  text_is : text ≡ 0 ∷ 0 ∷ 0 ∷ []

zero-is : (b : ℕ) (t : List ℕ) → IsOne (λ b. ltb b 1) b t → t ≡ 0 ∷ []
zero-is b t one = let lt = ltb-true b 1 one.passes in let none : b ≡ 0 = omega arith in one.text_is ∙ ap (λ (z : ℕ). z ∷ []) none

zeros-reads : IsReader zeros_at AreZeros
unfolding zeros_at
zeros-reads = then-reader (choice_at 1) (λ a. then_at (choice_at 1) (λ b. choice_at 1)) (IsOne (λ b. ltb b 1)) AreZeros (choice-reader 1 (omega arith))
    (λ a t q. then-reader (choice_at 1) (λ b. choice_at 1) (IsOne (λ b. ltb b 1)) (λ w u. AreZeros w (t ++ u)) (choice-reader 1 (omega arith))
    (λ b u r. weaker (choice_at 1) (IsOne (λ b. ltb b 1)) (λ w v. AreZeros w (t ++ (u ++ v))) (choice-reader 1 (omega arith))
    (λ c v s. let x = zero-is a t q in let y = zero-is b u r in let z = zero-is c v s in record { text_is = rw (x, y, z) refl })))

zeros-says : Says zeros_at 0 (0 ∷ 0 ∷ 0 ∷ []) (false ∷ false ∷ false ∷ [])
unfolding zeros_at choice_at
zeros-says = says-then _ (says-one false (λ b. ltb b 1) 0 refl) (says-then _ (says-one false (λ b. ltb b 1) 0 refl) (says-one false (λ b. ltb b 1) 0 refl))

-- ---- next numbers

low-reads : (z flag : ℕ) (t u : List ℕ) → AreZeros z t → IsOne (λ b. ltb b 2) flag u → flag ≡ 0 → (n : ℕ) (v : List ℕ) → Spelled IsNumber four n v → Spelled FitsNext eight n (t ++ (u ++ v))
low-reads z flag t u zs one e n v s =
    let front = zs.text_is in
    let next : u ≡ 0 ∷ [] = one.text_is ∙ ap (λ (z : ℕ). z ∷ []) e in
    let rest = s.text_is in
    record { fits = (s.fits.positive, omega (arith, s.fits.fits)); text_is = rw (front, next, rest) (sym (low-text n s.fits.fits)) }

high-reads : (z flag a b : ℕ) (t u v w : List ℕ) → AreZeros z t → IsOne (λ b. ltb b 2) flag u → flag ≡ 1 → IsOne (λ b. ltb b 1) a v → AreZeros b w → Spelled FitsNext eight (2 ^ 32) (t ++ (u ++ (v ++ w)))
high-reads z flag a b t u v w zs one e first more =
    let front = zs.text_is in
    let next : u ≡ 1 ∷ [] = one.text_is ∙ ap (λ (z : ℕ). z ∷ []) e in
    let rest = zero-is a v first in
    let others = more.text_is in
    record { fits = (omega arith, omega arith); text_is = rw (front, next, rest, others) (sym high-text) }

high-reader : (z flag : ℕ) (t u : List ℕ) → AreZeros z t → IsOne (λ b. ltb b 2) flag u → flag ≡ 1 → IsReader (map_at (λ (y : ℕ). 2 ^ 32) (then_at (choice_at 1) (λ a. zeros_at))) (λ n v. Spelled FitsNext eight n (t ++ (u ++ v)))
high-reader z flag t u zs one e =
    map-reader (λ (y : ℕ). 2 ^ 32) (then_at (choice_at 1) (λ a. zeros_at)) (λ b v. Spelled FitsNext eight (2 ^ 32) (t ++ (u ++ v))) (λ n v. Spelled FitsNext eight n (t ++ (u ++ v)))
    (then-reader (choice_at 1) (λ a. zeros_at) (IsOne (λ b. ltb b 1)) (λ b v. Spelled FitsNext eight (2 ^ 32) (t ++ (u ++ v))) (choice-reader 1 (omega arith))
    (λ a v first. weaker zeros_at AreZeros (λ b w. Spelled FitsNext eight (2 ^ 32) (t ++ (u ++ (v ++ w)))) zeros-reads (λ b w more. high-reads z flag a b t u v w zs one e first more)))
    (λ b v s. s)

flag-is : (flag : ℕ) (u : List ℕ) → IsOne (λ b. ltb b 2) flag u → eqb flag 0 ≡ false → flag ≡ 1
flag-is flag u one e = let lt = ltb-true flag 2 one.passes in let other = eqb-false flag 0 e in omega arith

next-reads : IsReader next_at (Spelled FitsNext eight)
unfolding next_at
next-reads = then-reader zeros_at (λ z. then_at (choice_at 2) next_of) AreZeros (Spelled FitsNext eight) zeros-reads
    (λ z t zs. then-reader (choice_at 2) next_of (IsOne (λ b. ltb b 2)) (λ n u. Spelled FitsNext eight n (t ++ u)) (choice-reader 2 (omega arith))
    (λ flag u one. either-reader (eqb flag 0) positive_at (map_at (λ (y : ℕ). 2 ^ 32) (then_at (choice_at 1) (λ a. zeros_at))) (λ n v. Spelled FitsNext eight n (t ++ (u ++ v)))
    (λ e. weaker positive_at (Spelled IsNumber four) (λ n v. Spelled FitsNext eight n (t ++ (u ++ v))) step-wire.reads (low-reads z flag t u zs one (eqb-true flag 0 e)))
    (λ e. high-reader z flag t u zs one (flag-is flag u one e))))

low-says : (n : ℕ) → 1 ≤ n → n < 2 ^ 32 → Says next_at n (eight n) (plain (eight n))
unfolding next_at choice_at either_at
low-says n some lt =
    let all : Says next_at n (0 ∷ 0 ∷ 0 ∷ 0 ∷ four n) (false ∷ false ∷ false ∷ false ∷ plain (four n)) = says-then _ zeros-says (says-then next_of (says-one false (λ b. ltb b 2) 0 refl) (step-wire.says n (record { positive = some; fits = lt }))) in
    subst (λ (z : List ℕ). Says next_at n z (plain z)) (sym (low-text n lt)) all

high-says : Says next_at (2 ^ 32) (eight (2 ^ 32)) (plain (eight (2 ^ 32)))
unfolding next_at choice_at either_at
high-says =
    let all : Says next_at (2 ^ 32) (0 ∷ 0 ∷ 0 ∷ 1 ∷ 0 ∷ 0 ∷ 0 ∷ 0 ∷ []) (plain (0 ∷ 0 ∷ 0 ∷ 1 ∷ 0 ∷ 0 ∷ 0 ∷ 0 ∷ [])) = says-then _ zeros-says (says-then next_of (says-one false (λ b. ltb b 2) 1 refl) (says-map (λ (y : ℕ). 2 ^ 32) (says-then _ (says-one false (λ b. ltb b 1) 0 refl) zeros-says))) in
    subst (λ (z : List ℕ). Says next_at (2 ^ 32) z (plain z)) (sym high-text) all

next-says : (n : ℕ) → FitsNext n → Says next_at n (eight n) (plain (eight n))
next-says n fits =
    elim (cases_lt n (2 ^ 32)) [
      | inl lt ↦ low-says n fits.0 lt
      | inr ge ↦ let most : 2 ^ 32 ≡ n = omega (arith, fits.1) in subst (λ (z : ℕ). Says next_at z (eight z) (plain (eight z))) most high-says
    ]

pub next-wire : IsWire next_at FitsNext eight (λ n. plain (eight n))
next-wire = record { reads = next-reads; says = next-says }
