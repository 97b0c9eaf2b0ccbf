-- Steps of the loops over leases and files.
use Rattle.std.proofs.Common.{◌≡◌, ℕ, ◌+◌, ◌<◌, Bool, List, ◌∷◌, ap, cond, length, get_or, drop}
use Rattle.std.specs.Prelude.{◌||◌, Some}
use Rattle.std.specs.List.{filter, find, list_any}
use Rattle.std.proofs.lemmas.List.{drop_more}

pub any_step : {X : Type 0} (test : X → Bool) (xs : List X) (i : ℕ) (d : X) → i < length xs → list_any test (drop i xs) ≡ (test (get_or xs i d) || list_any test (drop (i + 1) xs))
any_step test xs i d lt = ap (list_any test) (drop_more xs i d lt)

pub find_step : {X : Type 0} (test : X → Bool) (xs : List X) (i : ℕ) (d : X) → i < length xs → find test (drop i xs) ≡ cond (test (get_or xs i d)) (Some (get_or xs i d)) (find test (drop (i + 1) xs))
find_step test xs i d lt = ap (find test) (drop_more xs i d lt)

pub filter_step : {X : Type 0} (test : X → Bool) (xs : List X) (i : ℕ) (d : X) → i < length xs → filter test (drop i xs) ≡ cond (test (get_or xs i d)) (get_or xs i d ∷ filter test (drop (i + 1) xs)) (filter test (drop (i + 1) xs))
filter_step test xs i d lt = ap (filter test) (drop_more xs i d lt)
