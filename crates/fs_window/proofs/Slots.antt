-- Segments that came before their turn.
use Rattle.std.proofs.Common.{◌≡◌, ℕ, zero, suc, ◌+◌, ◌-◌, max, List, [], ◌∷◌, ◌++◌, length, drop, replicate, take, true, false, Option, Some, None, ◌⊎◌, inl, inr, refl, ap, ◌∙◌, arith}
use Rattle.std.specs.Prelude.{slice_get}
use Rattle.fs_window.specs.LinkEnd.{without_hole, is_filled, with_kept}
use Rattle.fs_window.proofs.Lists.{none_of, some_of, some_is}

-- ---- one more is kept

rest_same : (x y : Option (List ℕ)) (xs ys : List (Option (List ℕ))) → x ∷ xs ≡ y ∷ ys → xs ≡ ys
rest_same x y xs ys e = cc

-- behind all others
kept_past : (holes : ℕ) (s : List ℕ) → (replicate holes None ++ Some s ∷ []) ++ [] ≡ with_kept holes s []
kept_past zero s = refl
kept_past (suc holes) s = ap (λ (y : List (Option (List ℕ))). None ∷ y) (kept_past holes s)

kept_at : (slots : List (Option (List ℕ))) (place holes next : ℕ) (s : List ℕ) → holes ≡ place - length slots → next ≡ suc place → is_filled place slots ≡ false
    → take place slots ++ ((replicate holes None ++ Some s ∷ []) ++ drop next slots) ≡ with_kept place s slots
kept_at slots place holes zero s h n e = absurd (omega arith)
kept_at [] zero zero (suc next) s h n e = refl
kept_at [] zero (suc holes) (suc next) s h n e = absurd (omega arith)
kept_at [] (suc place) zero (suc next) s h n e = absurd (omega arith)
kept_at [] (suc place) (suc holes) (suc next) s h n e = ap (λ (y : List (Option (List ℕ))). None ∷ y) (kept_past holes s ∙ ap (λ (k : ℕ). with_kept k s []) (omega arith))
kept_at (Some t ∷ slots) zero holes (suc next) s h n e = absurd (cc e)
kept_at (None ∷ slots) zero zero (suc zero) s h n e = refl
kept_at (None ∷ slots) zero zero (suc (suc next)) s h n e = absurd (omega arith)
kept_at (None ∷ slots) zero (suc holes) (suc next) s h n e = absurd (omega arith)
kept_at (x ∷ slots) (suc place) holes (suc next) s h n e = ap (λ (y : List (Option (List ℕ))). x ∷ y) (kept_at slots place holes next s (omega arith) (omega arith) e)

-- where none stands yet
pub kept_open : (slots : List (Option (List ℕ))) (place : ℕ) (s : List ℕ) → is_filled place slots ≡ false
    → take place slots ++ ((replicate (place - length slots) None ++ Some s ∷ []) ++ drop (place + 1) slots) ≡ with_kept place s slots
kept_open slots place s e = kept_at slots place (place - length slots) (place + 1) s refl (omega arith) e

-- it is another list then
pub kept_other : (slots : List (Option (List ℕ))) (place : ℕ) (s : List ℕ) → is_filled place slots ≡ false → with_kept place s slots ≡ slots → ⊥
kept_other [] zero s bare e = absurd cc
kept_other [] (suc place) s bare e = absurd cc
kept_other (None ∷ slots) zero s bare e = absurd cc
kept_other (Some t ∷ slots) zero s bare e = absurd (cc bare)
kept_other (x ∷ slots) (suc place) s bare e = kept_other slots place s bare (rest_same x x _ _ e)

-- one that stands there stays
pub kept_full : (slots : List (Option (List ℕ))) (place : ℕ) (s : List ℕ) → is_filled place slots ≡ true → with_kept place s slots ≡ slots
kept_full [] zero s e = absurd (cc e)
kept_full [] (suc place) s e = absurd (cc e)
kept_full (None ∷ slots) zero s e = absurd (cc e)
kept_full (Some t ∷ slots) zero s e = refl
kept_full (x ∷ slots) (suc place) s e = ap (λ (y : List (Option (List ℕ))). x ∷ y) (kept_full slots place s e)

-- how many places there are then
pub kept_length : (slots : List (Option (List ℕ))) (place : ℕ) (s : List ℕ) → length (with_kept place s slots) ≡ max (length slots) (place + 1)
kept_length [] zero s = omega arith
kept_length [] (suc place) s = omega (arith, kept_length [] place s)
kept_length (x ∷ slots) zero s = omega arith
kept_length (x ∷ slots) (suc place) s = omega (arith, kept_length slots place s)

-- for what keeps one more
pub ruleset keeping = (kept_open, kept_other, kept_full)

-- one place further
further : (slots next : List (Option (List ℕ))) (place i : ℕ) (s t : List ℕ) → (slice_get slots i ≡ Some (Some t) → slice_get next (suc i) ≡ Some (Some t))
    → ((i ≡ place) × (s ≡ t)) ⊎ (slice_get slots i ≡ Some (Some t)) → ((suc i ≡ suc place) × (s ≡ t)) ⊎ (slice_get next (suc i) ≡ Some (Some t))
further slots next place i s t f (inl q) = inl (ap (λ (n : ℕ). suc n) q.0, q.1)
further slots next place i s t f (inr q) = inr (f q)

-- what stands at a place then
pub got_kept : (slots : List (Option (List ℕ))) (place : ℕ) (s : List ℕ) (i : ℕ) (t : List ℕ) → slice_get (with_kept place s slots) i ≡ some_of (some_of t) → ((i ≡ place) × (s ≡ t)) ⊎ (slice_get slots i ≡ Some (Some t))
got_kept [] zero s zero t e = inl (refl, some_is s t (some_is (Some s) (Some t) e))
got_kept [] zero s (suc i) t e = absurd cc
got_kept [] (suc place) s zero t e = absurd cc
got_kept [] (suc place) s (suc i) t e = further [] [] place i s t (λ q. q) (got_kept [] place s i t e)
got_kept (None ∷ slots) zero s zero t e = inl (refl, some_is s t (some_is (Some s) (Some t) e))
got_kept (Some u ∷ slots) zero s zero t e = inr e
got_kept (x ∷ slots) zero s (suc i) t e = inr e
got_kept (x ∷ slots) (suc place) s zero t e = inr e
got_kept (x ∷ slots) (suc place) s (suc i) t e = further slots (x ∷ slots) place i s t (λ q. q) (got_kept slots place s i t e)

-- ---- what is kept is given

-- the front of what is kept is the front of what is on its way, if each that is kept is on its way at its place
pub front_of : (slots : List (Option (List ℕ))) (way : List (List ℕ)) → ((i : ℕ) (s : List ℕ) → slice_get slots i ≡ Some (Some s) → slice_get way i ≡ Some s) → way ≡ without_hole slots ++ drop (length (without_hole slots)) way
front_of [] way h = refl
front_of (None ∷ slots) way h = refl
front_of (Some s ∷ slots) [] h = absurd (none_is s (h 0 s refl))
  where
    none_is : (t : List ℕ) → none_of ≡ some_of t → ⊥
    none_is t e = cc
front_of (Some s ∷ slots) (w ∷ way) h =
    let here : w ≡ s = some_is w s (h 0 s refl) in
    ap (λ (x : List ℕ). x ∷ way) here ∙ ap (λ (x : List (List ℕ)). s ∷ x) (front_of slots way (λ i t e. h (suc i) t e))
