-- Steps of the loops over files, leases, votes and effects.
use Rattle.std.proofs.Common.{◌≡◌, ℕ, ◌+◌, ◌<◌, ◌&&◌, List, ◌∷◌, cond, length, get_or, drop}
use Rattle.std.specs.Prelude.{◌||◌, Option, is_some}
use Rattle.std.specs.List.{list_any}
use Rattle.std.proofs.lemmas.List.{drop_more}
use Rattle.fs_ident.specs.Ident.{same}
use Rattle.fs_field.specs.After.{changed_file}
use Rattle.fs_field.specs.Field.{file_of}
use Rattle.fs_field.specs.declared.effect.Effect.{Effect}
use Rattle.fs_field.specs.declared.used.Use.{Use}
use Rattle.fs_field.specs.declared.vote.Vote.{Vote}
use Rattle.fs_txn.specs.Deciding.{effects_on, end_of_place, first_end, or_else}
use Rattle.fs_txn.specs.Parts.{uses_on}
use Rattle.fs_txn.specs.Votes.{is_full}

pub file_step : (file : List ℕ) (xs : List (List ℕ)) (i : ℕ) (d : List ℕ) → i < length xs → list_any (λ f. same f file) (drop i xs) ≡ (same (get_or xs i d) file || list_any (λ f. same f file) (drop (i + 1) xs))
file_step file xs i d lt = rw (drop_more xs i d lt)

pub use_step : (at : List ℕ) (xs : List Use) (i : ℕ) (d : Use) → i < length xs → uses_on at (drop i xs) ≡ cond (same (file_of (get_or xs i d).field) at) (get_or xs i d ∷ uses_on at (drop (i + 1) xs)) (uses_on at (drop (i + 1) xs))
use_step at xs i d lt = rw (drop_more xs i d lt)

pub effect_step : (file : List ℕ) (xs : List Effect) (i : ℕ) (d : Effect) → i < length xs → effects_on (drop i xs) file ≡ cond (same (changed_file (get_or xs i d)) file) (get_or xs i d ∷ effects_on (drop (i + 1) xs) file) (effects_on (drop (i + 1) xs) file)
effect_step file xs i d lt = rw (drop_more xs i d lt)

pub full_step : (xs : List (Option Vote)) (i : ℕ) (d : Option Vote) → i < length xs → is_full (drop i xs) ≡ (is_some (get_or xs i d) && is_full (drop (i + 1) xs))
full_step xs i d lt = rw (drop_more xs i d lt)

pub end_step : (xs : List (Option Vote)) (i : ℕ) (d : Option Vote) → i < length xs → first_end (drop i xs) ≡ or_else (end_of_place (get_or xs i d)) (first_end (drop (i + 1) xs))
end_step xs i d lt = rw (drop_more xs i d lt)
