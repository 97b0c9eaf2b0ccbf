-- A reader, what fits, its text and its tags belong together; and they do so still when they are put together.
use Rattle.std.proofs.Common.{◌≡◌, ℕ, zero, suc, ◌<◌, ◌≤◌, Bool, true, false, ltb, eqb, List, [], ◌∷◌, ◌++◌, length, get_or, flat_map, Option, Some, None, refl, sym, ap, subst, ◌∙◌, arith}
use Rattle.std.specs.List.{AllByRecursion}
use Rattle.std.proofs.lemmas.Bool.{eqb-true, eqb-false, ltb-true, lt-ltb}
use Rattle.std.proofs.lemmas.List.{append-nil}
use Rattle.std.proofs.lemmas.List.Concat.{flat_map-cons}
use Rattle.fs_wire.specs.Spelling.{option, pair}
use Rattle.fs_wire.specs.Ranges.{FitsOption, FitsPair}
use Rattle.fs_wire.specs.Tags.{plain}
use Rattle.fs_wire.specs.Readers.{Reader, map_at, always_at, either_at, choice_at, tag_at, many_at, pair_at, option_at}
use Rattle.fs_wire.specs.Laws.{IsReadBack, WasSpelled}
use Rattle.fs_wire.proofs.Readers.{IsReader, IsOne, then-reader, map-reader, always-reader, either-reader, one-reader}
use Rattle.fs_wire.proofs.Says.{Says, says-then, says-map, says-always, says-one}

-- the value fits and this is its text
pub record Spelled {A : Type 0} (Fits : A → Type 0) (text : A → List ℕ) (v : A) (t : List ℕ) : Type 0 where
  pub fits : Fits v
  pub text_is : t ≡ text v

pub record IsWire {A : Type 0} (read : Reader A) (Fits : A → Type 0) (text : A → List ℕ) (tags : A → List Bool) : Type 0 where
  pub reads : IsReader read (Spelled Fits text)
  pub says : (v : A) → Fits v → Says read v (text v) (tags v)

-- what is read was spelled so
pub was_spelled : {A : Type 0} {read : Reader A} {Fits : A → Type 0} {text : A → List ℕ} {tags : A → List Bool} → IsWire read Fits text tags → WasSpelled read Fits text
was_spelled w bytes rest v fits e =
    let t = w.reads.took bytes (v, rest) fits e in
    (t.is.fits, t.parts ∙ ap (λ (z : List ℕ). z ++ rest) t.is.text_is)

pub is_read_back : {A : Type 0} {read : Reader A} {Fits : A → Type 0} {text : A → List ℕ} {tags : A → List Bool} → IsWire read Fits text tags → IsReadBack read Fits text
is_read_back w v rest fits = (w.says v fits).again rest

-- the same tags in other words
pub retagged : {A : Type 0} {read : Reader A} {Fits : A → Type 0} {text : A → List ℕ} (f g : A → List Bool) → IsWire read Fits text f → ((v : A) → f v ≡ g v) → IsWire read Fits text g
retagged {A} {read} {Fits} {text} f g w same = record { reads = w.reads; says = λ v fits. subst (λ (z : List Bool). Says read v (text v) z) (same v) (w.says v fits) }

-- the same in other words, where a value is made of another and is taken apart again
pub remade : {A B : Type 0} (make : A → B) (apart : B → A) {read : Reader A} {FitsA : A → Type 0} {textA : A → List ℕ} {tagsA : A → List Bool} (Fits : B → Type 0) (text : B → List ℕ) (tags : B → List Bool)
    → IsWire read FitsA textA tagsA
    → ((v : A) → FitsA v → Fits (make v)) → ((w : B) → Fits w → FitsA (apart w))
    → ((v : A) → textA v ≡ text (make v)) → ((w : B) → Says (map_at make read) (make (apart w)) (textA (apart w)) (tagsA (apart w)) → Says (map_at make read) w (text w) (tags w))
    → IsWire (map_at make read) Fits text tags
remade make apart {read} {FitsA} {textA} {tagsA} Fits text tags w into out same whole = record {
  reads = map-reader make read (Spelled FitsA textA) (Spelled Fits text) w.reads (λ v t q. record { fits = into v q.fits; text_is = q.text_is ∙ same v });
  says = λ v fits. whole v (says-map make (w.says (apart v) (out v fits)));
}

pub plain-append : (a b : List ℕ) → plain a ++ plain b ≡ plain (a ++ b)
plain-append [] b = refl
plain-append (x ∷ a) b = ap (λ (z : List Bool). false ∷ z) (plain-append a b)

pub plain-false : (t : List ℕ) (k : ℕ) → get_or (plain t) k false ≡ false
plain-false [] k = refl
plain-false (x ∷ t) zero = refl
plain-false (x ∷ t) (suc k) = plain-false t k

pub length-plain : (t : List ℕ) → length (plain t) ≡ length t
length-plain [] = refl
length-plain (x ∷ t) = ap suc (length-plain t)

-- ---- pairs

pub pair-wire : {A B : Type 0} {a : Reader A} {b : Reader B} {Fa : A → Type 0} {Fb : B → Type 0} {ta : A → List ℕ} {tb : B → List ℕ} {ga : A → List Bool} {gb : B → List Bool}
    → IsWire a Fa ta ga → IsWire b Fb tb gb → IsWire (pair_at a b) (FitsPair Fa Fb) (pair ta tb) (λ p. ga p.0 ++ gb p.1)
unfolding pair_at
pair-wire {A} {B} {a} {b} {Fa} {Fb} {ta} {tb} {ga} {gb} first second = record {
  reads = then-reader a (λ x. map_at (λ y. (x, y)) b) (Spelled Fa ta) (Spelled (FitsPair Fa Fb) (pair ta tb)) first.reads
      (λ v t q. map-reader (λ y. (v, y)) b (Spelled Fb tb) (λ p u. Spelled (FitsPair Fa Fb) (pair ta tb) p (t ++ u)) second.reads
      (λ w u r. record { fits = (q.fits, r.fits); text_is = ap (λ (z : List ℕ). z ++ u) q.text_is ∙ ap (λ (z : List ℕ). ta v ++ z) r.text_is }));
  says = λ p fits. says-then _ (first.says p.0 fits.0) (says-map (λ (y : B). (p.0, y)) (second.says p.1 fits.1));
}

-- ---- choices

pub choice-reader : (limit : ℕ) → 0 < limit → IsReader (choice_at limit) (IsOne (λ b. ltb b limit))
unfolding choice_at
choice-reader limit some = one-reader false (λ b. ltb b limit) 0 (omega arith) (lt-ltb 0 limit some)

pub tag-reader : (limit : ℕ) → 0 < limit → IsReader (tag_at limit) (IsOne (λ b. ltb b limit))
unfolding tag_at
tag-reader limit some = one-reader true (λ b. ltb b limit) 0 (omega arith) (lt-ltb 0 limit some)

-- what stands behind a tag
pub arm : {A B : Type 0} (make : A → B) {read : Reader A} {FitsA : A → Type 0} {textA : A → List ℕ} {tagsA : A → List Bool} {Fits : B → Type 0} {text : B → List ℕ} {test : ℕ → Bool} {tag : ℕ} {t : List ℕ} (k : ℕ)
    → IsOne test tag t → tag ≡ k → IsWire read FitsA textA tagsA → ((v : A) → FitsA v → Fits (make v)) → ((v : A) → k ∷ textA v ≡ text (make v))
    → IsReader (map_at make read) (λ w u. Spelled Fits text w (t ++ u))
arm {A} {B} make {read} {FitsA} {textA} {tagsA} {Fits} {text} {test} {tag} {t} k one e w into same =
    map-reader make read (Spelled FitsA textA) (λ x u. Spelled Fits text x (t ++ u)) w.reads
    (λ v u q. record { fits = into v q.fits; text_is = ap (λ (z : List ℕ). z ++ u) (one.text_is ∙ ap (λ (z : ℕ). z ∷ []) e) ∙ ap (λ (z : List ℕ). k ∷ z) q.text_is ∙ same v })

-- a tag that stands alone
pub lone : {B : Type 0} (x : B) {Fits : B → Type 0} {text : B → List ℕ} {test : ℕ → Bool} {tag : ℕ} {t : List ℕ} (k : ℕ)
    → IsOne test tag t → tag ≡ k → Fits x → k ∷ [] ≡ text x → IsReader (always_at x) (λ w u. Spelled Fits text w (t ++ u))
lone {B} x {Fits} {text} {test} {tag} {t} k one e fits same =
    always-reader x (λ w u. Spelled Fits text w (t ++ u)) (record { fits = fits; text_is = append-nil t ∙ one.text_is ∙ ap (λ (z : ℕ). z ∷ []) e ∙ same })

-- ---- options

abbrev pub option_tags : {A : Type 0} → (A → List Bool) → Option A → List Bool
option_tags tags None = false ∷ []
option_tags tags (Some x) = false ∷ tags x

module _ {A : Type 0} {read : Reader A} {Fits : A → Type 0} {text : A → List ℕ} {tags : A → List Bool} (w : IsWire read Fits text tags) where
  some_is : {flag : ℕ} {t : List ℕ} → IsOne (λ b. ltb b 2) flag t → eqb flag 0 ≡ false → flag ≡ 1
  some_is {flag} one e = let below = ltb-true flag 2 one.passes in let not_0 = eqb-false flag 0 e in omega arith

  option-reads : IsReader (option_at read) (Spelled (FitsOption Fits) (option text))
  unfolding option_at
  option-reads = then-reader (choice_at 2) (λ flag. either_at (eqb flag 0) (always_at None) (map_at (λ x. Some x) read)) (IsOne (λ b. ltb b 2)) (Spelled (FitsOption Fits) (option text)) (choice-reader 2 (omega arith))
      (λ flag t q. either-reader (eqb flag 0) (always_at None) (map_at (λ x. Some x) read) (λ o u. Spelled (FitsOption Fits) (option text) o (t ++ u))
      (λ e. lone None 0 q (eqb-true flag 0 e) tt refl)
      (λ e. arm (λ x. Some x) 1 q (some_is q e) w (λ v f. f) (λ v. refl)))

  option-says : (o : Option A) → FitsOption Fits o → Says (option_at read) o (option text o) (option_tags tags o)
  unfolding option_at choice_at either_at
  option-says None fits = says-then _ (says-one false (λ b. ltb b 2) 0 refl) (says-always None)
  option-says (Some x) fits = says-then _ (says-one false (λ b. ltb b 2) 1 refl) (says-map (λ (y : A). Some y) (w.says x fits))

  pub option-wire : IsWire (option_at read) (FitsOption Fits) (option text) (option_tags tags)
  option-wire = record { reads = option-reads; says = option-says }

-- ---- so many

pub record AreMany {A : Type 0} (Fits : A → Type 0) (text : A → List ℕ) (n : ℕ) (xs : List A) (t : List ℕ) : Type 0 where
  pub count : length xs ≡ n
  pub each : AllByRecursion Fits xs
  pub text_is : t ≡ flat_map text xs

pub many-reader : {A : Type 0} {read : Reader A} {Fits : A → Type 0} {text : A → List ℕ} → IsReader read (Spelled Fits text) → (n : ℕ) → IsReader (many_at read n) (AreMany Fits text n)
unfolding many_at
many-reader {A} {read} {Fits} {text} r zero = always-reader [] (AreMany Fits text 0) (record { count = refl; each = tt; text_is = refl })
many-reader {A} {read} {Fits} {text} r (suc n) = then-reader read (λ x. map_at (λ xs. x ∷ xs) (many_at read n)) (Spelled Fits text) (AreMany Fits text (suc n)) r
    (λ v t q. map-reader (λ xs. v ∷ xs) (many_at read n) (AreMany Fits text n) (λ xs u. AreMany Fits text (suc n) xs (t ++ u)) (many-reader r n)
    (λ xs u m. record { count = ap suc m.count; each = (q.fits, m.each); text_is = ap (λ (z : List ℕ). z ++ u) q.text_is ∙ ap (λ (z : List ℕ). text v ++ z) m.text_is ∙ sym (flat_map-cons text v xs) }))

pub each-says : {A : Type 0} {read : Reader A} {Fits : A → Type 0} {text : A → List ℕ} {tags : A → List Bool} → IsWire read Fits text tags → (xs : List A) → AllByRecursion Fits xs → AllByRecursion (λ x. Says read x (text x) (tags x)) xs
each-says w [] fits = tt
each-says w (x ∷ xs) fits = (w.says x fits.0, each-says w xs fits.1)

-- ---- without tags

pub plain-pair : {A B : Type 0} {a : Reader A} {b : Reader B} {Fa : A → Type 0} {Fb : B → Type 0} {ta : A → List ℕ} {tb : B → List ℕ}
    → IsWire a Fa ta (λ x. plain (ta x)) → IsWire b Fb tb (λ x. plain (tb x)) → IsWire (pair_at a b) (FitsPair Fa Fb) (pair ta tb) (λ p. plain (pair ta tb p))
plain-pair {A} {B} {a} {b} {Fa} {Fb} {ta} {tb} first second = retagged (λ p. plain (ta p.0) ++ plain (tb p.1)) (λ p. plain (pair ta tb p)) (pair-wire first second) (λ p. plain-append (ta p.0) (tb p.1))

option-plain : {A : Type 0} (text : A → List ℕ) (o : Option A) → option_tags (λ x. plain (text x)) o ≡ plain (option text o)
option-plain text None = refl
option-plain text (Some x) = refl

pub plain-option : {A : Type 0} {read : Reader A} {Fits : A → Type 0} {text : A → List ℕ} → IsWire read Fits text (λ x. plain (text x)) → IsWire (option_at read) (FitsOption Fits) (option text) (λ o. plain (option text o))
plain-option {A} {read} {Fits} {text} w = retagged (option_tags (λ x. plain (text x))) (λ o. plain (option text o)) (option-wire w) (option-plain text)

-- a tag that is none of the first ones is above them
pub above : (k tag : ℕ) → k ≤ tag → eqb tag k ≡ false → suc k ≤ tag
above k tag le e = let other = eqb-false tag k e in omega arith
