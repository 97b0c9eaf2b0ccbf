-- What stands between the places that were touched.
use Rattle.std.proofs.Common.{◌≡◌, ℕ, zero, suc, ◌+◌, ◌-◌, ◌<◌, ◌≤◌, Bool, true, false, cond, List, [], ◌∷◌, ◌++◌, length, map, flat_map, take, drop, get_or, set, Some, refl, sym, ap, subst, ◌∙◌, append_assoc, arith}
use Rattle.std.specs.Prelude.{slice_get, nat_lt, ◌==◌}
use Rattle.std.proofs.lemmas.List.{append-nil, drop_more, drop_all, take_more, take_all}
use Rattle.std.proofs.lemmas.List.Edits.{map_over_more}
use Rattle.std.proofs.lemmas.List.Concat.{flat_map-cons}
use Rattle.fs_window.specs.Touched.{RestIs, with_place, has_place}

-- ---- one more place

-- the list differs at an earlier place alone
rest_same : {X : Type 0} (P : X → Type 0) (from at : ℕ) (places : List ℕ) (xs ys : List X) → length ys ≡ length xs → ((i : ℕ) → (i ≡ at → ⊥) → slice_get ys i ≡ slice_get xs i) → at < from
    → RestIs P from places xs → RestIs P from places ys
rest_same P from at [] xs ys len same lt h = λ i x le e. let other : i ≡ at → ⊥ = (λ q. absurd (omega arith)) in h i x le (sym (same i other) ∙ e)
rest_same P from at (p ∷ places) xs ys len same lt h =
    let within : p < length ys = omega (arith, h.1) in
    (h.0, within, (λ i x le below e. let other : i ≡ at → ⊥ = (λ q. absurd (omega arith)) in h.2 i x le below (sym (same i other) ∙ e)), rest_same P (p + 1) at places xs ys len same (omega (arith, h.0)) h.3)

-- the list differs at the place that is one of them now
pub rest_with : {X : Type 0} (P : X → Type 0) (from at : ℕ) (places : List ℕ) (xs ys : List X) → length ys ≡ length xs → ((i : ℕ) → (i ≡ at → ⊥) → slice_get ys i ≡ slice_get xs i) → from ≤ at → at < length xs
    → RestIs P from places xs → RestIs P from (with_place at places) ys
rest_with P from at [] xs ys len same le lt h =
    let within : at < length ys = omega arith in
    (le, within, (λ i x low below e. let other : i ≡ at → ⊥ = (λ q. absurd (omega arith)) in h i x low (sym (same i other) ∙ e)), (λ i x low e. let other : i ≡ at → ⊥ = (λ q. absurd (omega arith)) in h i x (omega arith) (sym (same i other) ∙ e)))
rest_with {X} P from at (p ∷ places) xs ys len same le lt h = go (nat_lt at p) (at == p) refl refl (λ low. rest_with P (p + 1) at places xs ys len same low lt h.3)
  where
    inside : at < length ys
    inside = omega arith

    within : p < length ys
    within = omega (arith, h.1)

    kept : (i : ℕ) (x : X) → from ≤ i → i < p → (i ≡ at → ⊥) → slice_get ys i ≡ Some x → P x
    kept i x low below other e = h.2 i x low below (sym (same i other) ∙ e)

    go : (a b : Bool) → nat_lt at p ≡ a → (at == p) ≡ b → (p + 1 ≤ at → RestIs P (p + 1) (with_place at places) ys) → RestIs P from (cond a (at ∷ p ∷ places) (cond b (p ∷ places) (p ∷ with_place at places))) ys
    go true b q r deeper =
        let below : at < p = grind (arith, q) in
        (le, inside, (λ i x low lower e. let other : i ≡ at → ⊥ = (λ s. absurd (omega arith)) in kept i x low (omega arith) other e), (omega arith, within, (λ i x low lower e. let other : i ≡ at → ⊥ = (λ s. absurd (omega arith)) in kept i x (omega arith) lower other e), rest_same P (p + 1) at places xs ys len same (omega arith) h.3))
    go false true q r deeper =
        let here : at ≡ p = grind (arith, r) in
        (h.0, within, (λ i x low lower e. let other : i ≡ at → ⊥ = (λ s. absurd (omega arith)) in kept i x low lower other e), rest_same P (p + 1) at places xs ys len same (omega arith) h.3)
    go false false q r deeper =
        let above : p < at = grind (arith, q, r) in
        (h.0, within, (λ i x low lower e. let other : i ≡ at → ⊥ = (λ s. absurd (omega arith)) in kept i x low lower other e), deeper (omega arith))

-- ---- what more is known of the others

-- no place is below the first
none_below : {X : Type 0} (P : X → Type 0) (from : ℕ) (places : List ℕ) (xs : List X) (i : ℕ) → RestIs P from places xs → i < from → has_place i places ≡ false
none_below P from [] xs i h lt = refl
none_below P from (p ∷ places) xs i h lt =
    let other : (i == p) ≡ false = grind (arith, h.0) in
    ap (λ (b : Bool). cond b true (has_place i places)) other ∙ none_below P (p + 1) places xs i h.3 (omega (arith, h.0))

pub rest_given : {X : Type 0} (P Q : X → Type 0) (from : ℕ) (places : List ℕ) (xs : List X) → ((i : ℕ) (x : X) → from ≤ i → slice_get xs i ≡ Some x → has_place i places ≡ false → P x → Q x)
    → RestIs P from places xs → RestIs Q from places xs
rest_given P Q from [] xs f h = λ i x le e. f i x le e refl (h i x le e)
rest_given P Q from (p ∷ places) xs f h = (
  h.0,
  h.1,
  (λ i x le lt e. f i x le e (ap (λ (b : Bool). cond b true (has_place i places)) (other i (omega arith)) ∙ none_below P (p + 1) places xs i h.3 (omega arith)) (h.2 i x le lt e)),
  rest_given P Q (p + 1) places xs (λ i x le e none q. f i x (omega (arith, h.0)) e (ap (λ (b : Bool). cond b true (has_place i places)) (other i (omega arith)) ∙ none) q) h.3,
)
  where
    other : (i : ℕ) → (i ≡ p → ⊥) → (i == p) ≡ false
    other i ne = grind (arith, ne)

-- ---- going from place to place

-- what each step leaves, all steps leave
pub steady : {Y : Type 0} (F : ℕ → Y) (from k : ℕ) → ((i : ℕ) → from ≤ i → i < from + k → F i ≡ F (i + 1)) → F from ≡ F (from + k)
steady F from zero h = ap F (omega arith)
steady F from (suc k) h = steady F from k (λ i le lt. h i le (omega arith)) ∙ h (from + k) (omega arith) (omega arith) ∙ ap F (omega arith)

-- what stands at a place of a list, and behind it
there : {X : Type 0} (xs : List X) (i : ℕ) → i < length xs → (x : X) × ((slice_get xs i ≡ Some x) × (drop i xs ≡ x ∷ drop (suc i) xs))
there [] i lt = absurd (omega arith)
there (x ∷ xs) zero lt = (x, (refl, refl))
there (x ∷ xs) (suc i) lt = there xs i (omega arith)

-- what is silent between two places adds nothing
pub silent_between : {X Y : Type 0} (f : X → List Y) (xs : List X) (from to : ℕ) → from ≤ to → to ≤ length xs → ((i : ℕ) (x : X) → from ≤ i → i < to → slice_get xs i ≡ Some x → f x ≡ [])
    → flat_map f (drop from xs) ≡ flat_map f (drop to xs)
silent_between {X} {Y} f xs from to le within silent =
    steady (λ i. flat_map f (drop i xs)) from (to - from) step ∙ (let end : from + (to - from) ≡ to = omega arith in ap (λ (i : ℕ). flat_map f (drop i xs)) end)
  where
    step : (i : ℕ) → from ≤ i → i < from + (to - from) → flat_map f (drop i xs) ≡ flat_map f (drop (i + 1) xs)
    step i low lt =
        let at = there xs i (omega arith) in
        let next : suc i ≡ i + 1 = omega arith in
        ap (λ (ys : List X). flat_map f ys) at.1.1 ∙ flat_map-cons f at.0 (drop (suc i) xs)
        ∙ ap (λ (ys : List Y). ys ++ flat_map f (drop (suc i) xs)) (silent i at.0 low (omega arith) at.1.0)
        ∙ ap (λ (k : ℕ). flat_map f (drop k xs)) next

-- what a change leaves between two places is changed there
changed_one : {X : Type 0} (g : X → X) (xs : List X) (i : ℕ) (x : X) → slice_get xs i ≡ Some x → g x ≡ x → map g (take i xs) ++ drop i xs ≡ map g (take (suc i) xs) ++ drop (suc i) xs
changed_one g [] i x e same = absurd (cc e)
changed_one g (z ∷ xs) zero x e same = let here : z ≡ x = cc e in ap (λ y. y ∷ xs) (here ∙ sym same ∙ ap g (sym here))
changed_one g (z ∷ xs) (suc i) x e same = ap (λ ys. g z ∷ ys) (changed_one g xs i x e same)

pub same_between : {X : Type 0} (g : X → X) (xs : List X) (from to : ℕ) → from ≤ to → to ≤ length xs → ((i : ℕ) (x : X) → from ≤ i → i < to → slice_get xs i ≡ Some x → g x ≡ x)
    → map g (take from xs) ++ drop from xs ≡ map g (take to xs) ++ drop to xs
same_between {X} g xs from to le within same =
    steady (λ i. map g (take i xs) ++ drop i xs) from (to - from) step ∙ (let end : from + (to - from) ≡ to = omega arith in ap (λ (i : ℕ). map g (take i xs) ++ drop i xs) end)
  where
    step : (i : ℕ) → from ≤ i → i < from + (to - from) → map g (take i xs) ++ drop i xs ≡ map g (take (i + 1) xs) ++ drop (i + 1) xs
    step i low lt =
        let at = there xs i (omega arith) in
        let next : suc i ≡ i + 1 = omega arith in
        changed_one g xs i at.0 at.1.0 (same i at.0 low (omega arith) at.1.0) ∙ ap (λ (k : ℕ). map g (take k xs) ++ drop k xs) next

-- ---- one place after another

-- the next place
pub next_place : {X : Type 0} (P : X → Type 0) (from k p : ℕ) (places : List ℕ) (xs : List X) → k < length places → p ≡ get_or places k p → RestIs P from (drop k places) xs → RestIs P from (p ∷ drop (k + 1) places) xs
next_place P from k p places xs lt here h =
    subst (λ (ps : List ℕ). RestIs P from ps xs) (drop_more places k p lt ∙ ap (λ (q : ℕ). q ∷ drop (k + 1) places) (sym here)) h

-- behind the last one
pub last_place : {X : Type 0} (P : X → Type 0) (from k : ℕ) (places : List ℕ) (xs : List X) → length places ≤ k → RestIs P from (drop k places) xs → RestIs P from [] xs
last_place P from k places xs le h = subst (λ (ps : List ℕ). RestIs P from ps xs) (drop_all k places le) h

-- what the element at the next place adds
pub added_next : {X Y : Type 0} (f : X → List Y) (xs : List X) (from p : ℕ) (places : List ℕ) (x : X) (done total : List Y) → RestIs (λ y. f y ≡ []) from (p ∷ places) xs → x ≡ get_or xs p x
    → done ++ flat_map f (drop from xs) ≡ total → (done ++ f x) ++ flat_map f (drop (p + 1) xs) ≡ total
added_next {X} {Y} f xs from p places x done total h here so_far =
    let within : p ≤ length xs = omega (arith, h.1) in
    let left : drop p xs ≡ x ∷ drop (p + 1) xs = drop_more xs p x h.1 ∙ ap (λ (y : X). y ∷ drop (p + 1) xs) (sym here) in
    append_assoc done (f x) (flat_map f (drop (p + 1) xs))
    ∙ ap (λ (ys : List Y). done ++ ys) (sym (silent_between f xs from p h.0 within h.2 ∙ ap (λ (ys : List X). flat_map f ys) left ∙ flat_map-cons f x (drop (p + 1) xs)))
    ∙ so_far

pub added_all : {X Y : Type 0} (f : X → List Y) (xs : List X) (from : ℕ) (done total : List Y) → from ≤ length xs → RestIs (λ y. f y ≡ []) from [] xs → done ++ flat_map f (drop from xs) ≡ total → done ≡ total
added_all {X} {Y} f xs from done total le h so_far =
    let same : length xs ≤ length xs = omega arith in
    sym (append-nil done)
    ∙ ap (λ (ys : List Y). done ++ ys) (sym (silent_between f xs from (length xs) le same (λ i x low lt e. h i x low e) ∙ ap (λ (ys : List X). flat_map f ys) (drop_all (length xs) xs same)))
    ∙ so_far

-- what becomes of the element at the next place
pub changed_next : {X : Type 0} (P : X → Type 0) (g : X → X) → ((x : X) → P x → g x ≡ x) → (old xs : List X) (from p : ℕ) (places : List ℕ) (x : X) → RestIs P from (p ∷ places) old → x ≡ get_or xs p x
    → xs ≡ map g (take from old) ++ drop from old → set xs p (g x) ≡ map g (take (p + 1) old) ++ drop (p + 1) old
changed_next P g stays old xs from p places x h here so_far =
    let within : p ≤ length old = omega (arith, h.1) in
    map_over_more g old xs p x h.1 (so_far ∙ same_between g old from p h.0 within (λ i y low lt e. stays y (h.2 i y low lt e))) here

pub changed_all : {X : Type 0} (P : X → Type 0) (g : X → X) → ((x : X) → P x → g x ≡ x) → (old xs : List X) (from : ℕ) → from ≤ length old → RestIs P from [] old
    → xs ≡ map g (take from old) ++ drop from old → xs ≡ map g old
changed_all {X} P g stays old xs from le h so_far =
    let same : length old ≤ length old = omega arith in
    so_far ∙ same_between g old from (length old) le same (λ i y low lt e. stays y (h i y low e))
    ∙ ap (λ (ys : List X). map g ys ++ drop (length old) old) (take_all (length old) old same)
    ∙ ap (λ (ys : List X). map g old ++ ys) (drop_all (length old) old same) ∙ append-nil (map g old)

-- ---- where a place goes

-- further on
pub gap_next : (places : List ℕ) (i at p : ℕ) → i < length places → p ≡ get_or places i p → p < at → take i places ++ with_place at (drop i places) ≡ with_place at places → take (i + 1) places ++ with_place at (drop (i + 1) places) ≡ with_place at places
gap_next places i at p lt here above so_far =
    let left : drop i places ≡ p ∷ drop (i + 1) places = drop_more places i p lt ∙ ap (λ (q : ℕ). q ∷ drop (i + 1) places) (sym here) in
    let front : take (i + 1) places ≡ take i places ++ p ∷ [] = take_more places i p lt ∙ ap (λ (q : ℕ). take i places ++ q ∷ []) (sym here) in
    let below : nat_lt at p ≡ false = grind (arith, above) in
    let test : (at == p) ≡ false = grind (arith, above) in
    let first : with_place at (drop i places) ≡ p ∷ with_place at (drop (i + 1) places) =
    ap (λ (ps : List ℕ). with_place at ps) left ∙ ap (λ (b : Bool). cond b (at ∷ p ∷ drop (i + 1) places) (cond (at == p) (p ∷ drop (i + 1) places) (p ∷ with_place at (drop (i + 1) places)))) below
    ∙ ap (λ (b : Bool). cond b (p ∷ drop (i + 1) places) (p ∷ with_place at (drop (i + 1) places))) test in
    ap (λ (ps : List ℕ). ps ++ with_place at (drop (i + 1) places)) front ∙ append_assoc (take i places) (p ∷ []) (with_place at (drop (i + 1) places)) ∙ ap (λ (ps : List ℕ). take i places ++ ps) (sym first) ∙ so_far
