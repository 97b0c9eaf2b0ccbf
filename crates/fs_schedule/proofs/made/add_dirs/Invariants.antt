use Rattle.std.proofs.Common.{◌≡◌}
use Rattle.fs_schedule.specs.Made.{block, creates_dir, each, session, with_events}
use Rattle.fs_schedule.proofs.made.add_dirs.Given as goal

abbrev pub invariant-loop-k : goal.invariant-loop-k
invariant-loop-k l = l.events ≡ with_events l.initial.events (each (λ k. block (session 1) (creates_dir k)) l.k)
