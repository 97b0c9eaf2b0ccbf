-- How far a schedule's readings may fall back.
use Rattle.std.specs.Prelude.{◌≡◌, ℕ, ◌<◌, ◌≤◌, ◌+◌, List, [], ◌∷◌, ◌++◌, length}
use Rattle.std.specs.List.{AllByRecursion}
use Rattle.fs_schedule.specs.declared.event.Event.{Event}
use Rattle.fs_schedule.specs.declared.event.Head.{Head}
use Rattle.fs_schedule.specs.declared.event.Head.TheVariants.{Direct, Servers}

-- no reading is before that of an earlier event by more than the skew
abbrev pub IsWithinSkew : ℕ → List Event → Type 0
IsWithinSkew skew [] = Unit {0}
IsWithinSkew skew (e ∷ es) = AllByRecursion (λ (f : Event). e.reading ≤ f.reading + skew) es × IsWithinSkew skew es

-- the readings of a form whose clocks may differ by so much
abbrev pub IsTimely : Head → List Event → Type 0
IsTimely Direct events = Unit {0}
IsTimely (Servers servers skew term) events = IsWithinSkew skew events

-- the line is the first whose reading is more than the skew before an earlier one, and the other the first such earlier line;
-- events stand from line 2 on
pub record IsFirstSkew (skew : ℕ) (events : List Event) (line earlier : ℕ) : Type 0 where
  pub before : List Event
  pub ahead : Event
  pub between : List Event
  pub late : Event
  pub after : List Event
  pub all : events ≡ before ++ (ahead ∷ (between ++ (late ∷ after)))
  pub earlier_line : earlier ≡ length before + 2
  pub late_line : line ≡ length before + length between + 3
  pub gap : late.reading + skew < ahead.reading
  pub timely : IsWithinSkew skew (before ++ (ahead ∷ between))
  pub first : AllByRecursion (λ (e : Event). e.reading ≤ late.reading + skew) before

-- the same of a form, where its clocks may differ by so much only
abbrev pub IsUntimely : Head → List Event → ℕ → ℕ → Type 0
IsUntimely Direct events line earlier = ⊥
IsUntimely (Servers servers skew term) events line earlier = IsFirstSkew skew events line earlier
