-- The first event that is ahead of a bound.
use Rattle.std.specs.Prelude.{◌≡◌, ℕ, ◌<◌, ◌≤◌, List, ◌∷◌, ◌++◌, length}
use Rattle.std.specs.List.{AllByRecursion}
use Rattle.fs_schedule.specs.declared.event.Event.{Event}

-- no reading is above the bound
abbrev pub AllReadBelow : ℕ → List Event → Type 0
AllReadBelow bound events = AllByRecursion (λ (e : Event). e.reading ≤ bound) events

-- of these events the one at the place is the first whose reading is above the bound
pub record IsFirstAhead (bound : ℕ) (events : List Event) (at : ℕ) : Type 0 where
  pub before : List Event
  pub ahead : Event
  pub after : List Event
  pub all : events ≡ before ++ (ahead ∷ after)
  pub place : at ≡ length before
  pub above : bound < ahead.reading
  pub first : AllReadBelow bound before
