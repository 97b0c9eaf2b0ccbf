-- The first of some items, and what is set in a list or put at a session.
use Rattle.std.proofs.Common.{◌≡◌, ℕ, zero, suc, ◌<◌, ◌==◌, Bool, true, false, List, [], ◌∷◌, ◌++◌, length, map, filter, Option, Some, None}
use Rattle.std.proofs.Common.{refl, sym, ap, subst, cond, ◌∙◌, inl, inr, arith}
use Rattle.std.specs.Prelude.{◌⊎◌, slice_get, slice_set}
use Rattle.std.specs.List.{find}
use Rattle.std.proofs.lemmas.Bool.Decides.{nat_tests}
use Rattle.std.proofs.lemmas.List.{map-append}
use Rattle.std.proofs.lemmas.List.Elements.{filter-append}
use Rattle.fs_ident.proofs.Same.{after_zero, zero_before}
use Rattle.fs_frag.specs.declared.joined.Joined.{Joined}
use Rattle.fs_msg.specs.declared.msg.Msg.{Msg}
use Rattle.fs_serial.specs.Cluster.{without_first}
use Rattle.fs_world.specs.Linked.{AreFirstOf}

-- ## The first that passes a test

abbrev pub behind : {X : Type 0} → List X → List X
behind [] = []
behind (x ∷ xs) = xs

-- of those that pass, the first is gone
pub first_gone : {X : Type 0} (is : X → Bool) (xs : List X) → filter is (without_first is xs) ≡ behind (filter is xs)
first_gone is [] = refl
first_gone {X} is (x ∷ xs) = either (is x) refl (first_gone is xs)
  where
    either : (b : Bool) → is x ≡ b → filter is (without_first is xs) ≡ behind (filter is xs)
        → filter is (cond b xs (x ∷ without_first is xs)) ≡ behind (cond b (x ∷ filter is xs) (filter is xs))
    either true e rest = refl
    either false e rest = ap (λ (t : Bool). cond t (x ∷ filter is (without_first is xs)) (filter is (without_first is xs))) e ∙ rest

-- of those that pass another test, all are there
pub others_there : {X : Type 0} (is other : X → Bool) (xs : List X) → ((x : X) → is x ≡ true → other x ≡ false)
    → filter other (without_first is xs) ≡ filter other xs
others_there is other [] g = refl
others_there {X} is other (x ∷ xs) g = either (is x) refl (others_there is other xs g)
  where
    either : (b : Bool) → is x ≡ b → filter other (without_first is xs) ≡ filter other xs
        → filter other (cond b xs (x ∷ without_first is xs)) ≡ cond (other x) (x ∷ filter other xs) (filter other xs)
    either true e rest = sym (ap (λ (t : Bool). cond t (x ∷ filter other xs) (filter other xs)) (g x e))
    either false e rest = ap (λ (ys : List X). cond (other x) (x ∷ ys) ys) rest

-- the first that is found is the first of those that pass
abbrev pub first_before : {X : Type 0} → Option X → List X → List X
first_before None rest = []
first_before (Some x) rest = x ∷ rest

pub found_first : {X : Type 0} (is : X → Bool) (xs : List X) (o : Option X) → find is xs ≡ o
    → (rest : List X) × (filter is xs ≡ first_before o rest)
found_first is [] None e = ([], refl)
found_first is [] (Some y) e = absurd (cc)
found_first {X} is (x ∷ xs) o e = either (is x) o (λ q. found_first is xs o q) e
  where
    either : (b : Bool) (o : Option X) → (find is xs ≡ o → (rest : List X) × (filter is xs ≡ first_before o rest))
        → cond b (Some x) (find is xs) ≡ o → (rest : List X) × (cond b (x ∷ filter is xs) (filter is xs) ≡ first_before o rest)
    either true None more f = absurd (cc)
    either true (Some y) more f = let same : x ≡ y = cc in (filter is xs, ap (λ (z : X). z ∷ filter is xs) same)
    either false o more f = more f

-- what is joined is of the one that is found
pub found_joined : {X : Type 0} (g : X → Msg) (is : X → Bool) (xs : List X) (joined : List Joined) (o : Option X) (e : find is xs ≡ o)
    → AreFirstOf joined (map g (filter is xs)) → AreFirstOf joined (map g (first_before o (found_first is xs o e).0))
found_joined {X} g is xs joined o e f = subst (λ (ys : List X). AreFirstOf joined (map g ys)) (found_first is xs o e).1 f

-- behind the first one what is joined is of the rest
pub later_first : {X : Type 0} (g : X → Msg) (j : Joined) (js : List Joined) (xs : List X) → AreFirstOf (j ∷ js) (map g xs)
    → AreFirstOf js (map g (behind xs))
later_first g j js [] f = absurd f
later_first g j js (x ∷ xs) f = f.1

-- where one is found, what stands behind is of no matter
pub find_front : {X : Type 0} (is : X → Bool) (xs ys : List X) (x : X) → find is xs ≡ Some x → find is (xs ++ ys) ≡ Some x
find_front is [] ys x e = absurd (cc)
find_front {X} is (z ∷ zs) ys x e = either (is z) e (λ q. find_front is zs ys x q)
  where
    either : (b : Bool) → cond b (Some z) (find is zs) ≡ Some x → (find is zs ≡ Some x → find is (zs ++ ys) ≡ Some x)
        → cond b (Some z) (find is (zs ++ ys)) ≡ Some x
    either true e h = e
    either false e h = h e

pub without_front : {X : Type 0} (is : X → Bool) (xs ys : List X) (x : X) → find is xs ≡ Some x
    → without_first is (xs ++ ys) ≡ without_first is xs ++ ys
without_front is [] ys x e = absurd (cc)
without_front {X} is (z ∷ zs) ys x e = either (is z) e (λ q. without_front is zs ys x q)
  where
    either : (b : Bool) → cond b (Some z) (find is zs) ≡ Some x
        → (find is zs ≡ Some x → without_first is (zs ++ ys) ≡ without_first is zs ++ ys)
        → cond b (zs ++ ys) (z ∷ without_first is (zs ++ ys)) ≡ cond b zs (z ∷ without_first is zs) ++ ys
    either true e h = refl
    either false e h = ap (λ (l : List X). z ∷ l) (h e)

-- one more of them
pub one_more : {X Y : Type 0} (f : X → Y) (is : X → Bool) (xs : List X) (x : X) → is x ≡ true
    → map f (filter is (xs ++ x ∷ [])) ≡ map f (filter is xs) ++ f x ∷ []
one_more {X} f is xs x e =
    ap (λ (ys : List X). map f ys) (filter-append is xs (x ∷ []))
    ∙ map-append f (filter is xs) (filter is (x ∷ []))
    ∙ ap (λ (t : Bool). map f (filter is xs) ++ map f (cond t (x ∷ []) [])) e

-- one more that is none of them
pub no_more : {X : Type 0} (is : X → Bool) (xs : List X) (x : X) → is x ≡ false → filter is (xs ++ x ∷ []) ≡ filter is xs
no_more is [] x e = ap (λ (t : Bool). cond t (x ∷ []) []) e
no_more {X} is (y ∷ ys) x e = ap (λ (zs : List X). cond (is y) (y ∷ zs) zs) (no_more is ys x e)

-- ## What is set in a list

both_more : (j k : ℕ) → (suc j == suc k) ≡ (j == k)
both_more j k = grind (arith, nat_tests)

pub got_set : {X : Type 0} (xs : List X) (k j : ℕ) (x : X) → k < length xs
    → slice_get (slice_set xs k x) j ≡ cond (j == k) (Some x) (slice_get xs j)
got_set [] k j x h = absurd (omega arith)
got_set (y ∷ ys) zero zero x h = refl
got_set (y ∷ ys) zero (suc j) x h = ap (λ (b : Bool). cond b (Some x) (slice_get ys j)) (sym (after_zero j))
got_set (y ∷ ys) (suc k) zero x h = ap (λ (b : Bool). cond b (Some x) (Some y)) (sym (zero_before k))
got_set (y ∷ ys) (suc k) (suc j) x h =
    got_set ys k j x (omega arith) ∙ ap (λ (b : Bool). cond b (Some x) (slice_get ys j)) (sym (both_more j k))

pub within : {X : Type 0} (xs : List X) (k : ℕ) (x : X) → slice_get xs k ≡ Some x → k < length xs
within [] k x h = absurd (cc)
within (y ∷ ys) zero x h = omega arith
within (y ∷ ys) (suc k) x h = let r = within ys k x h in omega (arith, r)

pub one_there : {X : Type 0} (xs : List X) (k : ℕ) → k < length xs → (x : X) × (slice_get xs k ≡ Some x)
one_there [] k h = absurd (omega arith)
one_there (y ∷ ys) zero h = (y, refl)
one_there (y ∷ ys) (suc k) h = one_there ys k (omega arith)

pub one_more_there : {X : Type 0} (xs : List X) (x : X) (k : ℕ) (y : X) → slice_get (xs ++ x ∷ []) k ≡ Some y
    → (slice_get xs k ≡ Some y) ⊎ ((k ≡ length xs) × (x ≡ y))
one_more_there [] x zero y h = inr (refl, cc)
one_more_there [] x (suc k) y h = absurd (cc)
one_more_there (z ∷ zs) x zero y h = inl h
one_more_there (z ∷ zs) x (suc k) y h = elim (one_more_there zs x k y h) [
  | inl e ↦ inl e
  | inr q ↦ inr (ap suc q.0, q.1)
]
