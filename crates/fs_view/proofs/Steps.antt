-- Steps of the loops over leases.
use Rattle.std.proofs.Common.{◌≡◌, ℕ, ◌+◌, ◌<◌, Bool, List, [], ◌∷◌, ◌++◌, cond, length, get_or, take, drop, map}
use Rattle.std.proofs.lemmas.List.{drop_more, take_more, map-append}
use Rattle.fs_view.specs.ViewLease.{seen_of}
use Rattle.std.specs.Prelude.{Option, Some}
use Rattle.std.specs.List.{find, filter_map, cons_option}
use Rattle.fs_field.specs.declared.asked.Need.{Need}
use Rattle.fs_field.specs.declared.used.Use.{Use}
use Rattle.fs_view.specs.declared.view_lease.ViewLease.{ViewLease}

pub find_step : (test : ViewLease → Bool) (xs : List ViewLease) (i : ℕ) (d : ViewLease) → i < length xs → find test (drop i xs) ≡ cond (test (get_or xs i d)) (Some (get_or xs i d)) (find test (drop (i + 1) xs))
find_step test xs i d h = rw (drop_more xs i d h)

pub seen_step : (xs : List ViewLease) (i : ℕ) (d : ViewLease) → i < length xs → map seen_of (take (i + 1) xs) ≡ map seen_of (take i xs) ++ seen_of (get_or xs i d) ∷ []
seen_step xs i d h = rw (take_more xs i d h) (map-append seen_of (take i xs) (get_or xs i d ∷ []))

pub use_step : (f : Need → Option Use) (xs : List Need) (i : ℕ) (d : Need) → i < length xs → filter_map f (drop i xs) ≡ cons_option (f (get_or xs i d)) (filter_map f (drop (i + 1) xs))
use_step f xs i d h = rw (drop_more xs i d h)
