-- Effects that can be taken back, and those that take a file or a name away.
use Rattle.std.proofs.Common.{◌≡◌, ◌&&◌, ◌+◌, ◌<◌, ℕ, Bool, true, false, List, [], ◌∷◌, length, get_or, drop, refl, ap₂, cond}
use Rattle.std.specs.List.{filter, list_all}
use Rattle.std.proofs.lemmas.List.{drop_more}
use Rattle.fs_field.specs.declared.effect.Effect.{Effect}
use Rattle.fs_record.specs.Applied.{is_undoable, takes_away}

-- ## Steps of the loops over effects

pub undoable_step : (xs : List Effect) (i : ℕ) (d : Effect) → i < length xs → filter is_undoable (drop i xs) ≡ cond (is_undoable (get_or xs i d)) (get_or xs i d ∷ filter is_undoable (drop (i + 1) xs)) (filter is_undoable (drop (i + 1) xs))
undoable_step xs i d lt = rw (drop_more xs i d lt)

pub removal_step : (xs : List Effect) (i : ℕ) (d : Effect) → i < length xs → filter takes_away (drop i xs) ≡ cond (takes_away (get_or xs i d)) (get_or xs i d ∷ filter takes_away (drop (i + 1) xs)) (filter takes_away (drop (i + 1) xs))
removal_step xs i d lt = rw (drop_more xs i d lt)

-- ## What passes a test

pub all_filtered : {X : Type 0} (test : X → Bool) (xs : List X) → list_all test (filter test xs) ≡ true
all_filtered test [] = refl
all_filtered test (x ∷ xs) = by (test x) refl (all_filtered test xs)
  where
    by : (b : Bool) → test x ≡ b → list_all test (filter test xs) ≡ true → list_all test (cond b (x ∷ filter test xs) (filter test xs)) ≡ true
    by true t rest = ap₂ (λ a b. a && b) t rest
    by false t rest = rest
