use Rattle.std.proofs.Common.{◌≡◌, List, [], ◌∷◌}
use Rattle.fs_schedule.specs.declared.event.What.TheVariants.{Join}
use Rattle.fs_schedule.specs.Made.{each, session, with_events}
use Rattle.fs_schedule.proofs.made.add_joins.Given as goal

abbrev pub invariant-loop-k : goal.invariant-loop-k
invariant-loop-k l = l.events ≡ with_events l.initial.events (each (λ k. Join (session k) ∷ []) l.k)
