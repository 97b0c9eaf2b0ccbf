-- What a value's text says to a reader: the whole is read again, and each beginning of it stops the reader, at a tag or not.
use Rattle.std.proofs.Common.{◌≡◌, ℕ, suc, ◌+◌, ◌<◌, ◌⊎◌, inl, inr, Bool, true, false, List, [], ◌∷◌, ◌++◌, length, get_or, flat_map, Result, Ok, refl, sym, ap, subst, ◌∙◌, append_assoc, arith, length-append}
use Rattle.std.specs.List.{AllByRecursion}
use Rattle.std.proofs.lemmas.List.{get_or_append_left, get_or-append-add}
use Rattle.std.proofs.lemmas.List.Concat.{flat_map-cons}
use Rattle.fs_wire.specs.declared.fault.Fault.{Fault}
use Rattle.fs_wire.specs.Readers.{◌>>=◌, Reader, stop, then_at, map_at, always_at, one_at, many_at}

pub record Says {A : Type 0} (read : Reader A) (v : A) (text : List ℕ) (tags : List Bool) : Type 0 where
  pub again : (more : List ℕ) → read (text ++ more) ≡ Ok (v, more)
  pub marks : (front : List ℕ) (b : ℕ) (rest : List ℕ) → text ≡ front ++ b ∷ rest → read front ≡ stop (get_or tags (length front) false) 0
  pub same : length tags ≡ length text

-- a beginning of two texts ends in the first, or in the second
pub split : (t u front : List ℕ) (b : ℕ) (rest : List ℕ) → t ++ u ≡ front ++ b ∷ rest → ((more : List ℕ) × (t ≡ front ++ b ∷ more)) ⊎ ((over : List ℕ) × (front ≡ t ++ over) × (u ≡ over ++ b ∷ rest))
split [] u front b rest e = inr (front, refl, e)
split (x ∷ t) u [] b rest e = let same : x ≡ b = cc in inl (t, ap (λ (z : ℕ). z ∷ t) same)
split (x ∷ t) u (y ∷ front) b rest e =
    let same : x ≡ y = cc in
    let tail : t ++ u ≡ front ++ b ∷ rest = cc in
    elim (split t u front b rest tail) [
      | inl l ↦ inl (l.0, cc)
      | inr r ↦ inr (r.0, cc, r.2)
    ]

module _ {A B : Type 0} (read : Reader A) (more : A → Reader B) where
  abbrev go : A × List ℕ → Result (B × List ℕ) Fault
  go x = more x.0 x.1

  marks-first : (v : A) (t : List ℕ) (g h : List Bool) → Says read v t g → (front : List ℕ) (b : ℕ) (rest : List ℕ) → t ≡ front ++ b ∷ rest → then_at read more front ≡ stop (get_or (g ++ h) (length front) false) 0
  unfolding then_at
  marks-first v t g h a front b rest e =
      let short : length front < length g = omega (arith, a.same, ap length e, length-append front (b ∷ rest)) in
      ap (λ (z : Result (A × List ℕ) Fault). z >>= go) (a.marks front b rest e) ∙ ap (λ (z : Bool). stop {A = B × List ℕ} z 0) (sym (get_or_append_left g h false (length front) short))

  marks-second : (v : A) (w : B) (t u : List ℕ) (g h : List Bool) → Says read v t g → Says (more v) w u h → (front over : List ℕ) (b : ℕ) (rest : List ℕ) → front ≡ t ++ over → u ≡ over ++ b ∷ rest → then_at read more front ≡ stop (get_or (g ++ h) (length front) false) 0
  unfolding then_at
  marks-second v w t u g h a c front over b rest e k =
      let len : length front ≡ length g + length over = omega (arith, a.same, ap length e, length-append t over) in
      let mark : get_or h (length over) false ≡ get_or (g ++ h) (length front) false = sym (get_or-append-add g h (length over) false) ∙ ap (λ (z : ℕ). get_or (g ++ h) z false) (sym len) in
      ap (λ (z : List ℕ). read z >>= go) e ∙ ap (λ (z : Result (A × List ℕ) Fault). z >>= go) (a.again over) ∙ c.marks over b rest k ∙ ap (λ (z : Bool). stop {A = B × List ℕ} z 0) mark

pub says-then : {A B : Type 0} {read : Reader A} (more : A → Reader B) {v : A} {w : B} {t u : List ℕ} {g h : List Bool} → Says read v t g → Says (more v) w u h → Says (then_at read more) w (t ++ u) (g ++ h)
unfolding then_at
says-then {A} {B} {read} more {v} {w} {t} {u} {g} {h} a c = record {
  again = λ m. ap (λ (z : List ℕ). read z >>= λ x. more x.0 x.1) (append_assoc t u m) ∙ ap (λ (z : Result (A × List ℕ) Fault). z >>= λ x. more x.0 x.1) (a.again (u ++ m)) ∙ c.again m;
  marks = λ front b rest e. elim (split t u front b rest e) [
    | inl l ↦ marks-first read more v t g h a front b l.0 l.1
    | inr r ↦ marks-second read more v w t u g h a c front r.0 b rest r.1 r.2
  ];
  same = omega (arith, length-append g h, length-append t u, a.same, c.same);
}

pub says-map : {A B : Type 0} (make : A → B) {read : Reader A} {v : A} {t : List ℕ} {g : List Bool} → Says read v t g → Says (map_at make read) (make v) t g
unfolding map_at
says-map {A} {B} make {read} {v} {t} {g} a = record {
  again = λ m. ap (λ (z : Result (A × List ℕ) Fault). z >>= λ x. Ok (make x.0, x.1)) (a.again m);
  marks = λ front b rest e. ap (λ (z : Result (A × List ℕ) Fault). z >>= λ x. Ok (make x.0, x.1)) (a.marks front b rest e);
  same = a.same;
}

pub says-always : {A : Type 0} (x : A) → Says (always_at x) x [] []
unfolding always_at
says-always x = record { again = λ m. refl; marks = λ front b rest e. absurd (omega (arith, ap length e, length-append front (b ∷ rest))); same = refl }

one-marks : (tag : Bool) (test : ℕ → Bool) (a : ℕ) (front : List ℕ) (b : ℕ) (rest : List ℕ) → a ∷ [] ≡ front ++ b ∷ rest → one_at tag test front ≡ stop (get_or (tag ∷ []) (length front) false) 0
unfolding one_at
one-marks tag test a [] b rest e = refl
one-marks tag test a (x ∷ front) b rest e = absurd (omega (arith, ap length e, length-append front (b ∷ rest)))

one-again : (tag : Bool) (test : ℕ → Bool) (b : ℕ) → test b ≡ true → (m : List ℕ) → one_at tag test ((b ∷ []) ++ m) ≡ Ok (b, m)
unfolding one_at
one-again tag test b passes m = rw passes refl

pub says-one : (tag : Bool) (test : ℕ → Bool) (b : ℕ) → test b ≡ true → Says (one_at tag test) b (b ∷ []) (tag ∷ [])
says-one tag test b passes = record { again = one-again tag test b passes; marks = one-marks tag test b; same = refl }

pub says-many : {A : Type 0} (read : Reader A) (text : A → List ℕ) (tags : A → List Bool) (xs : List A) → AllByRecursion (λ x. Says read x (text x) (tags x)) xs → Says (many_at read (length xs)) xs (flat_map text xs) (flat_map tags xs)
unfolding many_at
says-many read text tags [] h = says-always []
says-many {A} read text tags (x ∷ xs) h =
    let others : Says (many_at read (length xs)) xs (flat_map text xs) (flat_map tags xs) = says-many read text tags xs h.1 in
    let both : Says (many_at read (suc (length xs))) (x ∷ xs) (text x ++ flat_map text xs) (tags x ++ flat_map tags xs) = says-then _ h.0 (says-map (λ (ys : List A). x ∷ ys) others) in
    let whole : Says (many_at read (suc (length xs))) (x ∷ xs) (flat_map text (x ∷ xs)) (tags x ++ flat_map tags xs) = subst (λ (z : List ℕ). Says (many_at read (suc (length xs))) (x ∷ xs) z (tags x ++ flat_map tags xs)) (sym (flat_map-cons text x xs)) both in
    subst (λ (z : List Bool). Says (many_at read (suc (length xs))) (x ∷ xs) (flat_map text (x ∷ xs)) z) (sym (flat_map-cons tags x xs)) whole
