-- Changes of queues, and what takes them back.
use Rattle.std.proofs.Common.{◌≡◌, ℕ, ◌+◌, ◌-◌, min, List, [], ◌∷◌, ◌++◌, length, take, drop, Option, Some, None, sym, ap, ◌∙◌, arith}
use Rattle.std.proofs.lemmas.List.{length-append, length-take, length-drop, drop-drop}
use Rattle.std.specs.Prelude.{MatchOption}
use Rattle.fs_window.specs.declared.queue.Change.{Change}
use Rattle.fs_window.specs.Undo.{changed}

-- how many values there are then
pub changed_length : {X : Type 0} (c : Change X) (xs : List X) → length (changed c xs) ≡ min c.at (length xs) + (length c.more + (length xs - (c.at + c.count)))
changed_length c xs = omega (arith, length-append (take c.at xs) (c.more ++ drop (c.at + c.count) xs), length-append c.more (drop (c.at + c.count) xs), length-take c.at xs, length-drop (c.at + c.count) xs)

-- ---- one value after another

-- what is left once the next value was taken
pub next_left : {A X : Type 0} (shows : A → X) (queue values rest : List X) (k : ℕ) (r : Option A) → values ≡ drop k queue → MatchOption r ((values ≡ []) × (rest ≡ [])) (λ x. values ≡ shows x ∷ rest) → rest ≡ drop (k + 1) queue
next_left {A} {X} shows queue values rest k None at h =
    h.1 ∙ ap (λ (ys : List X). drop 1 ys) (sym h.0 ∙ at) ∙ drop-drop 1 k queue
next_left {A} {X} shows queue values rest k (Some x) at h = ap (λ (ys : List X). drop 1 ys) (sym h ∙ at) ∙ drop-drop 1 k queue
