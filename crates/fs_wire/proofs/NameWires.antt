-- Names; and beside them the identifiers of IdWires.
use Rattle.std.proofs.Common.{◌≡◌, ℕ, zero, suc, ◌+◌, ◌-◌, ◌<◌, ◌≤◌, ◌⊎◌, inl, inr, Bool, true, false, not, cond, ltb, leb, List, [], ◌∷◌, ◌++◌, length, get_or, take, drop, Option, Some, None, Result, Ok, Err, refl, sym, ap, subst, ◌∙◌, append_assoc, arith, nat_eq, length-append}
use Rattle.std.specs.List.{AllByRecursion, position_from}
use Rattle.std.specs.Cmp.Lexicographic.{pointwise, same_text}
use Rattle.std.proofs.Math.Seq.{take-append-add}
use Rattle.std.proofs.lemmas.Bool.{ltb-true, ltb-false, lt-ltb, le-ltb, leb-true, le-leb, or_cases}
use Rattle.std.proofs.lemmas.List.{append-nil, take_at, drop_at, take_all, take-append-drop, length-take}
use Rattle.std.proofs.lemmas.Iterator.Adapters.{position_from-zero}
use Rattle.fs_ident.specs.Name.{IsName, is_name_byte, first_bad, is_dots}
use Rattle.fs_ident.proofs.Options.{cond_none}
use Rattle.fs_wire.specs.declared.fault.Fault.{Fault}
use Rattle.fs_wire.specs.Spelling.{name}
use Rattle.fs_wire.specs.Ranges.{IsBytes}
use Rattle.fs_wire.specs.Tags.{plain}
use Rattle.fs_wire.specs.Readers.{stop, one_at}
use Rattle.fs_wire.specs.Reading.{chars_of, chars_at, name_at}
use Rattle.fs_wire.proofs.Readers.{IsOne, Took, Stopped, GoesOn, IsReader, then-reader, one-reader, weaker}
use Rattle.fs_wire.proofs.Says.{Says, says-then, says-one}
use Rattle.fs_wire.proofs.Wires.{Spelled, IsWire, plain-false, length-plain}
pub use Rattle.fs_wire.proofs.IdWires.{identifier-wire}

-- ---- the first of some numbers that passes a test

module _ (test : ℕ → Bool) where
  abbrev pub AllFail : List ℕ → Type 0
  AllFail bytes = AllByRecursion (λ b. test b ≡ false) bytes

  -- the first that passes, with what is before and behind it
  pub record HasFirst (i : ℕ) (bytes : List ℕ) (at : ℕ) : Type 0 where
    pub front : List ℕ
    pub byte : ℕ
    pub rest : List ℕ
    pub parts : bytes ≡ front ++ byte ∷ rest
    pub place : at ≡ i + length front
    pub fails : AllFail front
    pub passes : test byte ≡ true

  from-fails : (front : List ℕ) (i : ℕ) → AllFail front → (more : List ℕ) → position_from test i (front ++ more) ≡ position_from test (i + length front) more
  from-fails [] i h more = ap (λ (z : ℕ). position_from test z more) (omega arith)
  from-fails (b ∷ front) i h more = rw h.0 (from-fails front (i + 1) h.1 more ∙ ap (λ (z : ℕ). position_from test z more) (omega arith))

  from-none : (bytes : List ℕ) (i : ℕ) → AllFail bytes → position_from test i bytes ≡ None
  from-none [] i h = refl
  from-none (b ∷ bytes) i h = rw h.0 (from-none bytes (i + 1) h.1)

  from-first : (front : List ℕ) (i b : ℕ) (rest : List ℕ) → AllFail front → test b ≡ true → position_from test i (front ++ b ∷ rest) ≡ Some (i + length front)
  from-first front i b rest h passes = from-fails front i h (b ∷ rest) ∙ rw passes refl

  cond-first : (t : Bool) (i at : ℕ) (o : Option ℕ) → cond t (Some i) o ≡ Some at → ((t ≡ true) × (i ≡ at)) ⊎ ((t ≡ false) × (o ≡ Some at))
  cond-first true i at o e = inl (refl, cc)
  cond-first false i at o e = inr (refl, e)

  fails-from : (bytes : List ℕ) (i : ℕ) → position_from test i bytes ≡ None → AllFail bytes
  fails-from [] i e = tt
  fails-from (b ∷ bytes) i e =
      let g = cond_none (test b) i (position_from test (i + 1) bytes) e in
      (g.0, fails-from bytes (i + 1) g.1)

  first-from : (bytes : List ℕ) (i at : ℕ) → position_from test i bytes ≡ Some at → HasFirst i bytes at
  first-from [] i at e = absurd cc
  first-from (b ∷ bytes) i at e =
      elim (cond-first (test b) i at (position_from test (i + 1) bytes) e) [
        | inl h ↦ record { front = []; byte = b; rest = bytes; parts = refl; place = omega (arith, h.1); fails = tt; passes = h.0 }
        | inr h ↦
            let f = first-from bytes (i + 1) at h.1 in
            record { front = b ∷ f.front; byte = f.byte; rest = f.rest; parts = ap (λ (z : List ℕ). b ∷ z) f.parts; place = omega (arith, f.place); fails = (h.0, f.fails); passes = f.passes }
      ]

  fails-both : (a b : List ℕ) → AllFail a → AllFail b → AllFail (a ++ b)
  fails-both [] b h k = k
  fails-both (x ∷ a) b h k = (h.0, fails-both a b h.1 k)

  fails-left : (a b : List ℕ) → AllFail (a ++ b) → AllFail a
  fails-left [] b h = tt
  fails-left (x ∷ a) b h = (h.0, fails-left a b h.1)

-- ---- the bytes of a name

abbrev bad : ℕ → Bool
bad b = not (is_name_byte b)

bad-none : (bytes : List ℕ) → AllFail bad bytes → first_bad bytes ≡ None
bad-none bytes h = position_from-zero bad bytes ∙ from-none bad bytes 0 h

none-bad : (bytes : List ℕ) → first_bad bytes ≡ None → AllFail bad bytes
none-bad bytes e = fails-from bad bytes 0 (sym (position_from-zero bad bytes) ∙ e)

first-bad : (front : List ℕ) (b : ℕ) (rest : List ℕ) → AllFail bad front → bad b ≡ true → first_bad (front ++ b ∷ rest) ≡ Some (length front)
first-bad front b rest h passes = position_from-zero bad (front ++ b ∷ rest) ∙ from-first bad front 0 b rest h passes ∙ ap (λ (z : ℕ). Some z) (omega arith)

bad-first : (bytes : List ℕ) (at : ℕ) → first_bad bytes ≡ Some at → HasFirst bad 0 bytes at
bad-first bytes at e = first-from bad bytes 0 at (sym (position_from-zero bad bytes) ∙ e)

-- what is said of the bytes of a name
record AreChars (n : ℕ) (v : List ℕ) (t : List ℕ) : Type 0 where
  text_is : t ≡ v
  count : length v ≡ n
  good : first_bad v ≡ None
  undotted : is_dots v ≡ false

-- the three ways of reading so many bytes without a bad one
of-short : (n : ℕ) (bytes : List ℕ) (dots : Bool) (left : ℕ) (x : List ℕ × List ℕ) → length bytes < n → cond (ltb (length bytes) n) (stop false 0) (cond dots (stop false left) (Ok x)) ≡ stop false 0
of-short n bytes dots left x lt = rw (lt-ltb (length bytes) n lt) refl

of-dots : (n : ℕ) (bytes : List ℕ) (dots : Bool) (left : ℕ) (x : List ℕ × List ℕ) → n ≤ length bytes → dots ≡ true → cond (ltb (length bytes) n) (stop false 0) (cond dots (stop false left) (Ok x)) ≡ stop false left
of-dots n bytes dots left x le e = rw (le-ltb (length bytes) n le, e) refl

of-chars : (n : ℕ) (bytes : List ℕ) (dots : Bool) (left : ℕ) (x : List ℕ × List ℕ) → n ≤ length bytes → dots ≡ false → cond (ltb (length bytes) n) (stop false 0) (cond dots (stop false left) (Ok x)) ≡ Ok x
of-chars n bytes dots left x le e = rw (le-ltb (length bytes) n le, e) refl

-- bytes of which none is bad, too few
chars-short : (n : ℕ) (bytes : List ℕ) → AllFail bad bytes → length bytes < n → chars_at n bytes ≡ stop false 0
unfolding chars_at
chars-short n bytes h lt =
    let none : first_bad (take n bytes) ≡ None = ap (λ (z : List ℕ). first_bad z) (take_all n bytes (omega arith)) ∙ bad-none bytes h in
    ap (λ (z : Option ℕ). chars_of n bytes z) none ∙ of-short n bytes (is_dots (take n bytes)) (1 + length (drop n bytes)) (take n bytes, drop n bytes) lt

chars-bad : (n : ℕ) (front : List ℕ) (b : ℕ) (m : List ℕ) → AllFail bad front → bad b ≡ true → length front < n → chars_at n (front ++ b ∷ m) ≡ stop false (length (b ∷ m))
unfolding chars_at
chars-bad n front b m h passes lt =
    let k = n - length front - 1 in
    let count : n ≡ length front + suc k = omega arith in
    let taken : take n (front ++ b ∷ m) ≡ front ++ b ∷ take k m = ap (λ (z : ℕ). take z (front ++ b ∷ m)) count ∙ take-append-add front (b ∷ m) (suc k) in
    let first : first_bad (take n (front ++ b ∷ m)) ≡ Some (length front) = ap (λ (z : List ℕ). first_bad z) taken ∙ first-bad front b (take k m) h passes in
    let left : length (front ++ b ∷ m) - length front ≡ length (b ∷ m) = omega (arith, length-append front (b ∷ m)) in
    ap (λ (z : Option ℕ). chars_of n (front ++ b ∷ m) z) first ∙ ap (λ (z : ℕ). stop {A = List ℕ × List ℕ} false z) left

abbrev chosen : List ℕ × List ℕ → Result (List ℕ × List ℕ) Fault
chosen x = Ok x

chars-again : (n : ℕ) (v m : List ℕ) → length v ≡ n → first_bad v ≡ None → is_dots v ≡ false → chars_at n (v ++ m) ≡ Ok (v, m)
unfolding chars_at
chars-again n v m len good undotted =
    let taken : take n (v ++ m) ≡ v = take_at v m n len in
    let none : first_bad (take n (v ++ m)) ≡ None = ap (λ (z : List ℕ). first_bad z) taken ∙ good in
    let dots : is_dots (take n (v ++ m)) ≡ false = ap (λ (z : List ℕ). is_dots z) taken ∙ undotted in
    ap (λ (z : Option ℕ). chars_of n (v ++ m) z) none ∙ of-chars n (v ++ m) (is_dots (take n (v ++ m))) (1 + length (drop n (v ++ m))) (take n (v ++ m), drop n (v ++ m)) (omega (arith, length-append v m, len)) dots ∙ ap (λ (z : List ℕ). chosen (z, drop n (v ++ m))) taken ∙ ap (λ (z : List ℕ). chosen (v, z)) (drop_at v m n len)

-- so many bytes, all dots
chars-dots : (n : ℕ) (v m : List ℕ) → length v ≡ n → first_bad v ≡ None → is_dots v ≡ true → chars_at n (v ++ m) ≡ stop false (1 + length m)
unfolding chars_at
chars-dots n v m len good dotted =
    let taken : take n (v ++ m) ≡ v = take_at v m n len in
    let none : first_bad (take n (v ++ m)) ≡ None = ap (λ (z : List ℕ). first_bad z) taken ∙ good in
    let dots : is_dots (take n (v ++ m)) ≡ true = ap (λ (z : List ℕ). is_dots z) taken ∙ dotted in
    ap (λ (z : Option ℕ). chars_of n (v ++ m) z) none ∙ of-dots n (v ++ m) (is_dots (take n (v ++ m))) (1 + length (drop n (v ++ m))) (take n (v ++ m), drop n (v ++ m)) (omega (arith, length-append v m, len)) dots ∙ ap (λ (z : List ℕ). stop {A = List ℕ × List ℕ} false (1 + length z)) (drop_at v m n len)

-- the dots are one or two
dots-are : (v : List ℕ) → is_dots v ≡ true → (v ≡ 46 ∷ []) ⊎ (v ≡ 46 ∷ 46 ∷ [])
dots-are v e =
    elim (or_cases (pointwise nat_eq v (46 ∷ [])) (pointwise nat_eq v (46 ∷ 46 ∷ [])) e) [
      | inl h ↦ inl (same_text v (46 ∷ []) (sym h))
      | inr h ↦ inr (same_text v (46 ∷ 46 ∷ []) (sym h))
    ]

-- how reading so many bytes failed
cond-err : (short dots : Bool) (left : ℕ) (x : List ℕ × List ℕ) (f : Fault) → cond short (stop false 0) (cond dots (stop false left) (Ok x)) ≡ Err f → ((short ≡ true) × (record { left = 0; tag = false } ≡ f)) ⊎ ((short ≡ false) × (dots ≡ true) × (record { left = left; tag = false } ≡ f))
cond-err true dots left x f e = inl (refl, cc)
cond-err false true left x f e = inr (refl, refl, cc)
cond-err false false left x f e = absurd cc

cond-ok : (short dots : Bool) (left : ℕ) (x y : List ℕ × List ℕ) → cond short (stop false 0) (cond dots (stop false left) (Ok x)) ≡ Ok y → (short ≡ false) × (dots ≡ false) × (x ≡ y)
cond-ok true dots left x y e = absurd cc
cond-ok false true left x y e = absurd cc
cond-ok false false left x y e = (refl, refl, cc)

chars-took : (n : ℕ) (bytes : List ℕ) (x : List ℕ × List ℕ) (z : Option ℕ) → first_bad (take n bytes) ≡ z → chars_of n bytes z ≡ Ok x → Took (chars_at n) (AreChars n) bytes x
chars-took n bytes x (Some at) b e = absurd cc
chars-took n bytes x None b e =
    let g = cond-ok (ltb (length bytes) n) (is_dots (take n bytes)) (1 + length (drop n bytes)) (take n bytes, drop n bytes) x e in
    let long : n ≤ length bytes = ltb-false _ _ g.0 in
    let count : length (take n bytes) ≡ n = omega (arith, length-take n bytes) in
    let made : Took (chars_at n) (AreChars n) bytes (take n bytes, drop n bytes) = record {
      text = take n bytes;
      is = record { text_is = refl; count = count; good = b; undotted = g.1 };
      parts = sym (take-append-drop n bytes);
      again = λ m. chars-again n (take n bytes) m count b g.1;
    } in
    subst (λ (y : List ℕ × List ℕ). Took (chars_at n) (AreChars n) bytes y) g.2 made

stopped-dots : (n : ℕ) (bytes v rest : List ℕ) → bytes ≡ v ++ rest → length v ≡ n → first_bad v ≡ None → is_dots v ≡ true → Stopped (chars_at n) bytes (record { left = 1 + length rest; tag = false })
stopped-dots n bytes v rest parts len good dotted =
    elim (dots-are v dotted) [
      | inl one ↦
          let n-is : n ≡ 1 = omega (arith, len, ap length one) in
          record {
            front = [];
            rest = 46 ∷ rest;
            parts = parts ∙ ap (λ (z : List ℕ). z ++ rest) one;
            left = omega arith;
            begins = chars-short n [] tt (omega (arith, n-is));
            past = λ b others h m. let same : 46 ≡ b = cc in
                ap (λ (z : ℕ). chars_at n (z ∷ m)) (sym same) ∙ ap (λ (z : List ℕ). chars_at n (z ++ m)) (sym one) ∙ chars-dots n v m len good dotted ∙ ap (λ (z : ℕ). stop {A = List ℕ × List ℕ} false z) (omega arith);
          }
      | inr two ↦
          let n-is : n ≡ 2 = omega (arith, len, ap length two) in
          let goods : AllFail bad (46 ∷ 46 ∷ []) = subst (λ (z : List ℕ). AllFail bad z) two (none-bad v good) in
          record {
            front = 46 ∷ [];
            rest = 46 ∷ rest;
            parts = parts ∙ ap (λ (z : List ℕ). z ++ rest) two;
            left = omega arith;
            begins = chars-short n (46 ∷ []) (goods.0, tt) (omega (arith, n-is));
            past = λ b others h m. let same : 46 ≡ b = cc in
                ap (λ (z : ℕ). chars_at n (46 ∷ z ∷ m)) (sym same) ∙ ap (λ (z : List ℕ). chars_at n (z ++ m)) (sym two) ∙ chars-dots n v m len good dotted ∙ ap (λ (z : ℕ). stop {A = List ℕ × List ℕ} false z) (omega arith);
          }
    ]

chars-stopped : (n : ℕ) (bytes : List ℕ) (f : Fault) (z : Option ℕ) → first_bad (take n bytes) ≡ z → chars_of n bytes z ≡ Err f → Stopped (chars_at n) bytes f
chars-stopped n bytes f (Some at) b e =
    let h = bad-first (take n bytes) at b in
    let g : (record { left = length bytes - at; tag = false }) ≡ f = cc in
    let whole : bytes ≡ h.front ++ h.byte ∷ (h.rest ++ drop n bytes) = sym (take-append-drop n bytes) ∙ ap (λ (y : List ℕ). y ++ drop n bytes) h.parts ∙ append_assoc h.front (h.byte ∷ h.rest) (drop n bytes) in
    let within : length h.front < n = omega (arith, length-take n bytes, ap length h.parts, length-append h.front (h.byte ∷ h.rest)) in
    let made : Stopped (chars_at n) bytes (record { left = length bytes - at; tag = false }) = record {
      front = h.front;
      rest = h.byte ∷ (h.rest ++ drop n bytes);
      parts = whole;
      left = omega (arith, h.place, ap length whole, length-append h.front (h.byte ∷ (h.rest ++ drop n bytes)));
      begins = chars-short n h.front h.fails within;
      past = λ c others k m. let same : h.byte ≡ c = cc in subst (λ (y : ℕ). chars_at n (h.front ++ y ∷ m) ≡ stop false (length (y ∷ m))) same (chars-bad n h.front h.byte m h.fails h.passes within);
    } in
    subst (λ (y : Fault). Stopped (chars_at n) bytes y) g made
chars-stopped n bytes f None b e =
    elim (cond-err (ltb (length bytes) n) (is_dots (take n bytes)) (1 + length (drop n bytes)) (take n bytes, drop n bytes) f e) [
      | inl g ↦
          let lt : length bytes < n = ltb-true _ _ g.0 in
          let goods : AllFail bad bytes = subst (λ (y : List ℕ). AllFail bad y) (take_all n bytes (omega arith)) (none-bad (take n bytes) b) in
          subst (λ (y : Fault). Stopped (chars_at n) bytes y) g.1 (record {
            front = bytes;
            rest = [];
            parts = sym (append-nil bytes);
            left = refl;
            begins = chars-short n bytes goods lt;
            past = λ c others k m. absurd cc;
          })
      | inr g ↦
          let le : n ≤ length bytes = ltb-false _ _ g.0 in
          subst (λ (y : Fault). Stopped (chars_at n) bytes y) g.2 (stopped-dots n bytes (take n bytes) (drop n bytes) (sym (take-append-drop n bytes)) (omega (arith, length-take n bytes)) b g.1)
    ]

-- ---- bytes of a name that are too few go on

abbrev letters : ℕ → List ℕ
letters zero = []
letters (suc n) = 97 ∷ letters n

length-letters : (n : ℕ) → length (letters n) ≡ n
length-letters zero = refl
length-letters (suc n) = ap suc (length-letters n)

letters-good : (n : ℕ) → AllFail bad (letters n)
letters-good zero = tt
letters-good (suc n) = (refl, letters-good n)

letters-fit : (n : ℕ) → IsBytes (letters n)
letters-fit zero i = omega arith
letters-fit (suc n) zero = omega arith
letters-fit (suc n) (suc i) = letters-fit n i

no-one : (front rest : List ℕ) → front ++ 97 ∷ rest ≡ 46 ∷ [] → ⊥
no-one [] rest e = let same = ap (λ (z : List ℕ). get_or z 0 0) e in omega (arith, same)
no-one (x ∷ front) rest e = omega (arith, ap length e, length-append front (97 ∷ rest))

no-two : (front rest : List ℕ) → front ++ 97 ∷ rest ≡ 46 ∷ 46 ∷ [] → ⊥
no-two [] rest e = let same = ap (λ (z : List ℕ). get_or z 0 0) e in omega (arith, same)
no-two (x ∷ []) rest e = let same = ap (λ (z : List ℕ). get_or z 1 0) e in omega (arith, same)
no-two (x ∷ y ∷ front) rest e = omega (arith, ap length e, length-append front (97 ∷ rest))

undotted : (front rest : List ℕ) (t : Bool) → is_dots (front ++ 97 ∷ rest) ≡ t → t ≡ false
undotted front rest false e = refl
undotted front rest true e =
    elim (dots-are (front ++ 97 ∷ rest) e) [
      | inl one ↦ absurd (no-one front rest one)
      | inr two ↦ absurd (no-two front rest two)
    ]

chars-completed : (n k : ℕ) (bytes : List ℕ) → n ≡ length bytes + suc k → AllFail bad bytes → GoesOn (chars_at n) bytes
chars-completed n k bytes count goods =
    let v = bytes ++ letters (suc k) in
    let len : length v ≡ n = omega (arith, length-append bytes (letters (suc k)), length-letters (suc k)) in
    let good : first_bad v ≡ None = bad-none v (fails-both bad bytes (letters (suc k)) goods (letters-good (suc k))) in
    let fine : is_dots v ≡ false = undotted bytes (letters k) (is_dots v) refl in
    record {
      text = letters (suc k);
      text_fits = letters-fit (suc k);
      value = v;
      whole = ap (λ (z : List ℕ). chars_at n z) (sym (append-nil v)) ∙ chars-again n v [] len good fine;
    }

chars-goes_on : (n : ℕ) (bytes : List ℕ) (f : Fault) (z : Option ℕ) → first_bad (take n bytes) ≡ z → chars_of n bytes z ≡ Err f → f.left ≡ 0 → GoesOn (chars_at n) bytes
chars-goes_on n bytes f (Some at) b e left =
    let h = bad-first (take n bytes) at b in
    let g : (record { left = length bytes - at; tag = false }) ≡ f = cc in
    let all : length bytes - at ≡ 0 = ap (λ (y : Fault). y.left) g ∙ left in
    absurd (omega (arith, all, h.place, length-take n bytes, ap length h.parts, length-append h.front (h.byte ∷ h.rest)))
chars-goes_on n bytes f None b e left =
    elim (cond-err (ltb (length bytes) n) (is_dots (take n bytes)) (1 + length (drop n bytes)) (take n bytes, drop n bytes) f e) [
      | inl g ↦
          let lt : length bytes < n = ltb-true _ _ g.0 in
          let goods : AllFail bad bytes = subst (λ (y : List ℕ). AllFail bad y) (take_all n bytes (omega arith)) (none-bad (take n bytes) b) in
          chars-completed n (n - length bytes - 1) bytes (omega arith) goods
      | inr g ↦
          let much : 1 + length (drop n bytes) ≡ 0 = ap (λ (y : Fault). y.left) g.2 ∙ left in
          absurd (omega (arith, much))
    ]

chars-reader : (n : ℕ) → IsReader (chars_at n) (AreChars n)
unfolding chars_at
chars-reader n = record {
  took = λ bytes x fits e. chars-took n bytes x (first_bad (take n bytes)) refl e;
  stopped = λ bytes f fits e. chars-stopped n bytes f (first_bad (take n bytes)) refl e;
  goes_on = λ bytes f fits e left. chars-goes_on n bytes f (first_bad (take n bytes)) refl e left;
}

-- ---- names

chars-says : (v : List ℕ) → IsName v → Says (chars_at (length v)) v v (plain v)
chars-says v fits = record {
  again = λ m. chars-again (length v) v m refl fits.good fits.undotted;
  marks = λ front b rest e.
      let goods : AllFail bad front = fails-left bad front (b ∷ rest) (subst (λ (z : List ℕ). AllFail bad z) e (none-bad v fits.good)) in
      chars-short (length v) front goods (omega (arith, ap length e, length-append front (b ∷ rest))) ∙ ap (λ (z : Bool). stop {A = List ℕ × List ℕ} z 0) (sym (plain-false v (length front)));
  same = length-plain v;
}

name-reads : IsReader name_at (Spelled IsName name)
unfolding name_at
name-reads = then-reader (one_at false (λ b. leb 1 b)) chars_at (IsOne (λ b. leb 1 b)) (Spelled IsName name) (one-reader false (λ b. leb 1 b) 1 (omega arith) refl)
    (λ n t q. weaker (chars_at n) (AreChars n) (λ v u. Spelled IsName name v (t ++ u)) (chars-reader n)
    (λ v u c.
    let some : 1 ≤ n = leb-true 1 n q.passes in
    record {
      fits = record { some = omega (arith, c.count); few = omega (arith, c.count, q.below); good = c.good; undotted = c.undotted };
      text_is = ap (λ (z : List ℕ). z ++ u) (q.text_is ∙ ap (λ (z : ℕ). z ∷ []) (sym c.count)) ∙ ap (λ (z : List ℕ). length v ∷ z) c.text_is;
    }))

name-says : (v : List ℕ) → IsName v → Says name_at v (name v) (plain (name v))
unfolding name_at
name-says v fits = says-then _ (says-one false (λ b. leb 1 b) (length v) (le-leb 1 (length v) fits.some)) (chars-says v fits)

pub name-wire : IsWire name_at IsName name (λ v. plain (name v))
name-wire = record { reads = name-reads; says = name-says }
