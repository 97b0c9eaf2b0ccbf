-- Fronts of bits, with zeros behind the last one.
use Rattle.std.proofs.Common.{◌≡◌, ℕ, zero, suc, ◌+◌, ◌-◌, ◌<◌, ◌≤◌, Bool, true, false, List, [], ◌∷◌, ◌++◌, length, take, drop, replicate, refl, sym, ◌∙◌, ap, arith, inl, inr, length-append}
use Rattle.std.proofs.lemmas.List.{take_at, length-replicate, replicate-append-replicate}
use Rattle.std.proofs.lemmas.Bool.Decides.{leb_tells}
use Rattle.fs_ident.specs.Bits.{front}

pub length-front : (k : ℕ) (bits : List Bool) → length (front k bits) ≡ k
unfolding front
length-front zero bits = refl
length-front (suc k) [] = ap suc (length-front k [])
length-front (suc k) (b ∷ bits) = ap suc (length-front k bits)

pub front_none : (bits : List Bool) → front 0 bits ≡ []
unfolding front
front_none bits = refl

pub front-add : (a b : ℕ) (bits : List Bool) → front (a + b) bits ≡ front a bits ++ front b (drop a bits)
unfolding front
front-add zero b bits = ap (λ (k : ℕ). front k bits) (omega arith)
front-add (suc a) b [] =
    let e : suc a + b ≡ suc (a + b) = omega arith in
    let none : drop a [] ≡ [] = no_drop a in
    ap (λ (k : ℕ). front k []) e ∙ ap (λ (bs : List Bool). false ∷ bs) (front-add a b []) ∙ ap (λ (bs : List Bool). false ∷ (front a [] ++ front b bs)) none
  where
    no_drop : (k : ℕ) → drop {A = Bool} k [] ≡ []
    no_drop zero = refl
    no_drop (suc k) = refl
front-add (suc a) b (x ∷ bits) =
    let e : suc a + b ≡ suc (a + b) = omega arith in
    ap (λ (k : ℕ). front k (x ∷ bits)) e ∙ ap (λ (bs : List Bool). x ∷ bs) (front-add a b bits)

pub front_within : (k : ℕ) (bits : List Bool) → k ≤ length bits → front k bits ≡ take k bits
unfolding front
front_within zero bits le = refl
front_within (suc k) [] le = absurd (omega arith)
front_within (suc k) (b ∷ bits) le = ap (λ (bs : List Bool). b ∷ bs) (front_within k bits (omega arith))

pub front_nothing : (k : ℕ) → front k [] ≡ replicate k false
unfolding front
front_nothing zero = refl
front_nothing (suc k) = ap (λ (bs : List Bool). false ∷ bs) (front_nothing k)

-- past the end there are zeros
pub front_past : (k : ℕ) (bits : List Bool) → length bits ≤ k → front k bits ≡ bits ++ replicate (k - length bits) false
unfolding front
front_past k [] le = front_nothing k ∙ ap (λ (n : ℕ). replicate n false) (omega arith)
front_past zero (b ∷ bits) le = absurd (omega arith)
front_past (suc k) (b ∷ bits) le = ap (λ (bs : List Bool). b ∷ bs) (front_past k bits (omega arith) ∙ ap (λ (n : ℕ). bits ++ replicate n false) (omega arith))

-- two lists joined of parts of one length have the same parts
pub same_parts : {A : Type 0} (xs ys a b : List A) → length xs ≡ length ys → xs ++ a ≡ ys ++ b → (xs ≡ ys) × (a ≡ b)
same_parts [] [] a b l e = (refl, e)
same_parts [] (y ∷ ys) a b l e = absurd (omega arith)
same_parts (x ∷ xs) [] a b l e = absurd (omega arith)
same_parts {A = A} (x ∷ xs) (y ∷ ys) a b l e =
    let head : x ≡ y = cc e in
    let tail : xs ++ a ≡ ys ++ b = cc e in
    let rest = same_parts xs ys a b (omega arith) tail in
    (ap (λ (l : List A). x ∷ l) rest.0 ∙ ap (λ (z : A). z ∷ ys) head, rest.1)

-- of two lists joined of parts, the shorter first part begins the longer one
pub longer_part : {A : Type 0} (xs ys a b : List A) → length xs ≤ length ys → xs ++ a ≡ ys ++ b → (ys ≡ xs ++ drop (length xs) ys) × (a ≡ drop (length xs) ys ++ b)
longer_part [] ys a b l e = (refl, e)
longer_part (x ∷ xs) [] a b l e = absurd (omega arith)
longer_part {A = A} (x ∷ xs) (y ∷ ys) a b l e =
    let head : x ≡ y = cc e in
    let tail : xs ++ a ≡ ys ++ b = cc e in
    let rest = longer_part xs ys a b (omega arith) tail in
    (ap (λ (l : List A). y ∷ l) rest.0 ∙ ap (λ (z : A). z ∷ (xs ++ drop (length xs) ys)) (sym head), rest.1)

nothing_behind : (k : ℕ) (bits : List Bool) → length bits ≤ k → drop k bits ≡ []
nothing_behind zero [] le = refl
nothing_behind zero (b ∷ bits) le = absurd (omega arith)
nothing_behind (suc k) [] le = refl
nothing_behind (suc k) (b ∷ bits) le = nothing_behind k bits (omega arith)

pub front_at : (p q : List Bool) (k : ℕ) → length p ≡ k → front k (p ++ q) ≡ p
front_at p q k l = front_within k (p ++ q) (omega (arith, length-append p q)) ∙ take_at p q k l

-- of fronts that are known, a part is known
pub front_part : (a b : ℕ) (bits xs ys : List Bool) → length xs ≡ a → front (a + b) bits ≡ xs ++ ys → (front a bits ≡ xs) × (front b (drop a bits) ≡ ys)
front_part a b bits xs ys l e = same_parts (front a bits) xs (front b (drop a bits)) ys (length-front a bits ∙ sym l) (sym (front-add a b bits) ∙ e)

-- a front of zeros
pub fewer_zeros : (a b : ℕ) (bits : List Bool) → front (a + b) bits ≡ replicate (a + b) false → front a bits ≡ replicate a false
fewer_zeros a b bits e = (front_part a b bits (replicate a false) (replicate b false) (length-replicate a false) (e ∙ sym (replicate-append-replicate a b false))).0

-- a one stands before the end
pub one_within : (k : ℕ) (bits before : List Bool) → length before ≡ k → front (k + 1) bits ≡ before ++ true ∷ [] → k < length bits
one_within k bits before l e = elim (leb_tells (length bits) k) [ inl p ↦ absurd (past p.1) | inr q ↦ q.1 ]
  where
    past : length bits ≤ k → ⊥
    past le =
        let part = front_part k 1 bits before (true ∷ []) l e in
        let none : drop k bits ≡ [] = nothing_behind k bits le in
        let zero_bit : front 1 [] ≡ true ∷ [] = ap (front 1) (sym none) ∙ part.1 in
        let zero_is : front 1 [] ≡ false ∷ [] = front_nothing 1 in
        let clash : ◌≡◌ {A = List Bool} (false ∷ []) (true ∷ []) = sym zero_is ∙ zero_bit in
        cc clash
