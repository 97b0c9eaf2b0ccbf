-- What every run keeps.
use Rattle.std.specs.Prelude.{◌≡◌, ℕ, false, List, IfSome, AllPairs}
use Rattle.std.specs.FinMap.{get}
use Rattle.std.specs.List.{AllByRecursion}
use Rattle.fs_model.specs.Namespace.{NodeMap, first_space}
use Rattle.fs_model.specs.Ancestors.{ancestors, is_among}
use Rattle.fs_model.specs.Sound.{IsSound, AreApart}
use Rattle.fs_msg.specs.Journal.{IsSerialRun, spaces_after}
use Rattle.fs_schedule.specs.declared.event.Event.{Event}
use Rattle.fs_world.specs.World.{Run, journal_of, space_of}
use Rattle.fs_world.specs.Order.{IsInSessionOrder, replies_given}

-- the space is sound, so that no file is its own ancestor, and no two opens of a file conflict
pub record IsSafe (m : NodeMap) : Type 0 where
  pub sound : IsSound m
  pub acyclic : (file : List ℕ) → is_among file (ancestors m file) ≡ false
  pub sharing : (file : List ℕ) → IfSome (get m file) (λ n. AllPairs AreApart n.handles)

-- the journal is one serial run of the namespace, in each session's order, and ends in the world's space
pub record IsSerial (events : List Event) (r : Run) : Type 0 where
  pub serial : IsSerialRun first_space (journal_of r.world) (space_of r.world)
  pub ordered : IsInSessionOrder (journal_of r.world) (replies_given events r.outcomes)
  -- it holds after every item
  pub safe : AllByRecursion IsSafe (spaces_after first_space (journal_of r.world))
