-- Bytes and numbers.
use Rattle.std.proofs.Common.{◌≡◌, ℕ, zero, suc, ◌-◌, ◌<◌, ◌≤◌, ◌^◌, Bool, true, false, cond, ltb, List, [], ◌∷◌, ◌++◌, length, take, drop, flat_map, Some, None, Ok, Err, refl, sym, ap, subst, ◌∙◌, arith, length-append}
use Rattle.std.specs.Int.{Width, w32, w64, byte_len, from_be_bytes, to_be_bytes}
use Rattle.std.proofs.Math.Path.{fun_ext}
use Rattle.std.proofs.lemmas.Bool.{ltb-true, ltb-false, lt-ltb, le-ltb}
use Rattle.std.proofs.lemmas.List.{append-nil, take_at, drop_at, take-append-drop, length-take}
use Rattle.std.proofs.lemmas.List.Concat.{flat_map-cons}
use Rattle.std.proofs.lemmas.Nat.{be_bytes_4, be_bytes_8, from_be_bytes-to_be_bytes_4, from_be_bytes-to_be_bytes_8}
use Rattle.fs_wire.specs.declared.fault.Fault.{Fault}
use Rattle.fs_wire.specs.Spelling.{four, eight, list}
use Rattle.fs_wire.specs.Ranges.{IsBytes, FitsOne, FitsFour, FitsEight, FitsList}
use Rattle.fs_wire.specs.Tags.{plain, list_tags}
use Rattle.fs_wire.specs.Readers.{Reader, stop, number_at, four_at, if_long, eight_at, byte_at, many_at, list_at}
use Rattle.fs_wire.proofs.Readers.{IsBytes-left, IsOne, Took, Stopped, GoesOn, IsReader, then-reader, one-reader, weaker}
use Rattle.fs_wire.proofs.Says.{Says, says-then, says-one, says-many}
use Rattle.fs_wire.proofs.Wires.{Spelled, IsWire, AreMany, many-reader, each-says, plain-false, length-plain, plain-append, retagged}

-- ---- any byte

pub byte-wire : IsWire byte_at FitsOne (λ b. b ∷ []) (λ b. false ∷ [])
unfolding byte_at
byte-wire = record {
  reads = weaker _ (IsOne (λ b. true)) (Spelled FitsOne (λ b. b ∷ [])) (one-reader false (λ b. true) 0 (omega arith) refl) (λ b t one. record { fits = one.below; text_is = one.text_is });
  says = λ b fits. says-one false (λ x. true) b refl;
}

-- ---- numbers of several bytes

abbrev pub zeros : ℕ → List ℕ
zeros zero = []
zeros (suc n) = 0 ∷ zeros n

pub length-zeros : (n : ℕ) → length (zeros n) ≡ n
length-zeros zero = refl
length-zeros (suc n) = ap suc (length-zeros n)

pub IsBytes-zeros : (n : ℕ) → IsBytes (zeros n)
IsBytes-zeros zero i = omega arith
IsBytes-zeros (suc n) zero = omega arith
IsBytes-zeros (suc n) (suc i) = IsBytes-zeros n i

pub record IsWide (w : Width) (limit : ℕ) : Type 0 where
  pub len : (n : ℕ) → length (to_be_bytes w n) ≡ byte_len w
  pub back : (bytes : List ℕ) → length bytes ≡ byte_len w → IsBytes bytes → to_be_bytes w (from_be_bytes w bytes) ≡ bytes
  pub again : (n : ℕ) → n < limit → from_be_bytes w (to_be_bytes w n) ≡ n
  pub below : (bytes : List ℕ) → IsBytes bytes → from_be_bytes w bytes < limit

pub wide32 : IsWide w32 (2 ^ 32)
wide32 = record {
  len = λ n. refl;
  back = λ bytes len fits. be_bytes_4 bytes _ len fits refl;
  again = λ n lt. from_be_bytes-to_be_bytes_4 n lt;
  below = λ bytes fits. omega (arith, fits 0, fits 1, fits 2, fits 3);
}

pub wide64 : IsWide w64 (2 ^ 64)
wide64 = record {
  len = λ n. refl;
  back = λ bytes len fits. be_bytes_8 bytes _ len fits refl;
  again = λ n lt. from_be_bytes-to_be_bytes_8 n lt;
  below = λ bytes fits. omega (arith, fits 0, fits 1, fits 2, fits 3, fits 4, fits 5, fits 6, fits 7);
}

-- a test that did not fail, or failed
pub guard_ok : {A : Type 0} (b : Bool) (d : Fault) (x y : A) → cond b (Err d) (Ok x) ≡ Ok y → (b ≡ false) × (x ≡ y)
guard_ok true d x y e = absurd cc
guard_ok false d x y e = (refl, cc)

pub guard_err : {A : Type 0} (b : Bool) (d f : Fault) (x : A) → cond b (Err d) (Ok x) ≡ Err f → (b ≡ true) × (d ≡ f)
guard_err true d f x e = (refl, cc)
guard_err false d f x e = absurd cc

abbrev short : Fault
short = record { left = 0; tag = false }

module _ (w : Width) (limit : ℕ) (wide : IsWide w limit) where
  number-again : (n : ℕ) → n < limit → (rest : List ℕ) → number_at w (to_be_bytes w n ++ rest) ≡ Ok (n, rest)
  unfolding number_at
  number-again n lt rest =
      let len = wide.len n in
      let long : ltb (length (to_be_bytes w n ++ rest)) (byte_len w) ≡ false = le-ltb _ _ (omega (arith, length-append (to_be_bytes w n) rest)) in
      rw (long, take_at (to_be_bytes w n) rest (byte_len w) len, drop_at (to_be_bytes w n) rest (byte_len w) len, wide.again n lt) refl

  number-short : (bytes : List ℕ) → length bytes < byte_len w → number_at w bytes ≡ stop false 0
  unfolding number_at
  number-short bytes lt = rw (lt-ltb (length bytes) (byte_len w) lt) refl

  number-took : (bytes : List ℕ) (x : ℕ × List ℕ) → IsBytes bytes → number_at w bytes ≡ Ok x → Took (number_at w) (Spelled (λ n. n < limit) (to_be_bytes w)) bytes x
  unfolding number_at
  number-took bytes x fits e =
      let g = guard_ok (ltb (length bytes) (byte_len w)) short (from_be_bytes w (take (byte_len w) bytes), drop (byte_len w) bytes) x e in
      let long : byte_len w ≤ length bytes = ltb-false _ _ g.0 in
      let front = take (byte_len w) bytes in
      let rest = drop (byte_len w) bytes in
      let whole : front ++ rest ≡ bytes = take-append-drop (byte_len w) bytes in
      let front_fits : IsBytes front = IsBytes-left front rest (subst (λ (z : List ℕ). IsBytes z) (sym whole) fits) in
      let back : to_be_bytes w (from_be_bytes w front) ≡ front = wide.back front (omega (arith, length-take (byte_len w) bytes)) front_fits in
      let lt : from_be_bytes w front < limit = wide.below front front_fits in
      let made : Took (number_at w) (Spelled (λ n. n < limit) (to_be_bytes w)) bytes (from_be_bytes w front, rest) = record {
        text = front;
        is = record { fits = lt; text_is = sym back };
        parts = sym whole;
        again = λ m. ap (λ (z : List ℕ). number_at w (z ++ m)) (sym back) ∙ number-again (from_be_bytes w front) lt m;
      } in
      subst (λ (z : ℕ × List ℕ). Took (number_at w) (Spelled (λ n. n < limit) (to_be_bytes w)) bytes z) g.1 made

  pub number-failed : (bytes : List ℕ) (f : Fault) → number_at w bytes ≡ Err f → (length bytes < byte_len w) × (short ≡ f)
  unfolding number_at
  number-failed bytes f e =
      let g = guard_err (ltb (length bytes) (byte_len w)) short f (from_be_bytes w (take (byte_len w) bytes), drop (byte_len w) bytes) e in
      (ltb-true _ _ g.0, g.1)

  number-stopped : (bytes : List ℕ) (f : Fault) → IsBytes bytes → number_at w bytes ≡ Err f → Stopped (number_at w) bytes f
  number-stopped bytes f fits e =
      let g = number-failed bytes f e in
      subst (λ (z : Fault). Stopped (number_at w) bytes z) g.1 (record {
        front = bytes;
        rest = [];
        parts = sym (append-nil bytes);
        left = refl;
        begins = number-short bytes g.0;
        past = λ b others h m. absurd cc;
      })

  -- so many bytes are a number
  pub number-full : (bytes : List ℕ) → length bytes ≡ byte_len w → number_at w bytes ≡ Ok (from_be_bytes w bytes, [])
  unfolding number_at
  number-full bytes len =
      let long : ltb (length bytes) (byte_len w) ≡ false = le-ltb _ _ (omega arith) in
      let all : take (byte_len w) bytes ≡ bytes = ap (λ (z : List ℕ). take (byte_len w) z) (sym (append-nil bytes)) ∙ take_at bytes [] (byte_len w) len in
      let over : drop (byte_len w) bytes ≡ [] = ap (λ (z : List ℕ). drop (byte_len w) z) (sym (append-nil bytes)) ∙ drop_at bytes [] (byte_len w) len in
      rw (long, all, over) refl

  number-goes_on : (bytes : List ℕ) (f : Fault) → IsBytes bytes → number_at w bytes ≡ Err f → f.left ≡ 0 → GoesOn (number_at w) bytes
  number-goes_on bytes f fits e left =
      let g = number-failed bytes f e in
      let more = byte_len w - length bytes in
      let len : length (bytes ++ zeros more) ≡ byte_len w = omega (arith, length-append bytes (zeros more), length-zeros more, g.0) in
      record { text = zeros more; text_fits = IsBytes-zeros more; value = from_be_bytes w (bytes ++ zeros more); whole = number-full (bytes ++ zeros more) len }

  number-reader : IsReader (number_at w) (Spelled (λ n. n < limit) (to_be_bytes w))
  number-reader = record { took = number-took; stopped = number-stopped; goes_on = number-goes_on }

  number-says : (n : ℕ) → n < limit → Says (number_at w) n (to_be_bytes w n) (plain (to_be_bytes w n))
  number-says n lt = record {
    again = λ m. number-again n lt m;
    marks = λ front b rest e. number-short front (omega (arith, wide.len n, ap length e, length-append front (b ∷ rest))) ∙ ap (λ (z : Bool). stop {A = ℕ × List ℕ} z 0) (sym (plain-false (to_be_bytes w n) (length front)));
    same = length-plain (to_be_bytes w n);
  }

  pub number-wire : IsWire (number_at w) (λ n. n < limit) (to_be_bytes w) (λ n. plain (to_be_bytes w n))
  number-wire = record { reads = number-reader; says = number-says }

pub four-wire : IsWire four_at FitsFour four (λ n. plain (four n))
unfolding four_at four
four-wire = number-wire w32 (2 ^ 32) wide32

-- a number of eight bytes is read as any other
long-or-not : (b : Bool) (x : ℕ × List ℕ) → if_long (cond b None (Some x)) ≡ cond b (stop false 0) (Ok x)
long-or-not true x = refl
long-or-not false x = refl

eight-is : (bytes : List ℕ) → number_at w64 bytes ≡ eight_at bytes
unfolding eight_at number_at
eight-is bytes = sym (long-or-not (ltb (length bytes) 8) (from_be_bytes w64 (take 8 bytes), drop 8 bytes))

pub eight-wire : IsWire eight_at FitsEight eight (λ n. plain (eight n))
unfolding eight
eight-wire = subst (λ (read : Reader ℕ). IsWire read FitsEight (λ n. to_be_bytes w64 n) (λ n. plain (to_be_bytes w64 n))) (fun_ext eight-is) (number-wire w64 (2 ^ 64) wide64)

-- ---- lists behind their count

module _ {A : Type 0} {read : Reader A} {Fits : A → Type 0} {text : A → List ℕ} {tags : A → List Bool} (w : IsWire read Fits text tags) where
  list-reads : IsReader (list_at read) (Spelled (FitsList Fits) (list text))
  unfolding list_at list
  list-reads = then-reader eight_at (many_at read) (Spelled FitsEight eight) (Spelled (FitsList Fits) (list text)) eight-wire.reads
      (λ n t q. weaker (many_at read n) (AreMany Fits text n) (λ xs u. Spelled (FitsList Fits) (list text) xs (t ++ u)) (many-reader w.reads n)
      (λ xs u m. record {
        fits = (subst (λ (z : ℕ). FitsEight z) (sym m.count) q.fits, m.each);
        text_is = ap (λ (z : List ℕ). z ++ u) (q.text_is ∙ ap (λ (z : ℕ). eight z) (sym m.count)) ∙ ap (λ (z : List ℕ). eight (length xs) ++ z) m.text_is;
      }))

  list-says : (xs : List A) → FitsList Fits xs → Says (list_at read) xs (list text xs) (list_tags tags xs)
  unfolding list_at list
  list-says xs fits = says-then _ (eight-wire.says (length xs) fits.0) (says-many read text tags xs (each-says w xs fits.1))

  pub list-wire : IsWire (list_at read) (FitsList Fits) (list text) (list_tags tags)
  list-wire = record { reads = list-reads; says = list-says }

pub plain-flat : {A : Type 0} (text : A → List ℕ) (xs : List A) → flat_map (λ x. plain (text x)) xs ≡ plain (flat_map text xs)
plain-flat text [] = refl
plain-flat text (x ∷ xs) = flat_map-cons (λ y. plain (text y)) x xs ∙ ap (λ (z : List Bool). plain (text x) ++ z) (plain-flat text xs) ∙ plain-append (text x) (flat_map text xs) ∙ ap (λ (z : List ℕ). plain z) (sym (flat_map-cons text x xs))

-- a list without tags
pub plain-list : {A : Type 0} {read : Reader A} {Fits : A → Type 0} {text : A → List ℕ} → IsWire read Fits text (λ x. plain (text x)) → IsWire (list_at read) (FitsList Fits) (list text) (λ xs. plain (list text xs))
unfolding list
plain-list {A} {read} {Fits} {text} w = retagged (list_tags (λ x. plain (text x))) (λ xs. plain (list text xs)) (list-wire w)
    (λ xs. ap (λ (z : List Bool). plain (eight (length xs)) ++ z) (plain-flat text xs) ∙ plain-append (eight (length xs)) (flat_map text xs))
