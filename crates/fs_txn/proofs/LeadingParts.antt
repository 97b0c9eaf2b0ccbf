-- What is left of a list by a test.
use Rattle.std.proofs.Common.{◌≡◌, Bool, true, false, List, [], ◌∷◌, cond, refl}
use Rattle.std.specs.Prelude.{◌||◌, is_some, slice_get}
use Rattle.std.specs.List.{filter, list_any}

-- a first one is left where one passes
pub some_left : {X : Type 0} (test : X → Bool) (xs : List X) → is_some (slice_get (filter test xs) 0) ≡ list_any test xs
some_left test [] = refl
some_left test (x ∷ xs) = at (test x) (some_left test xs)
  where
    at : (b : Bool) → is_some (slice_get (filter test xs) 0) ≡ list_any test xs
        → is_some (slice_get (cond b (x ∷ filter test xs) (filter test xs)) 0) ≡ (b || list_any test xs)
    at true rest = refl
    at false rest = rest
