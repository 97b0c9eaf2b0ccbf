use Rattle.std.proofs.Common.{◌≡◌, ◌≤◌, length, take}
use Rattle.fs_world.specs.Served.{SessionStates, with_downs}
use Rattle.fs_world.proofs.servers.answers_in_flight.undo_downs.Given as goal

abbrev pub invariant-loop-left : goal.invariant-loop-left
invariant-loop-left l = record {
  within : l.left ≤ length l.send;
  sessions : (before : SessionStates) → l.fn.sessions ≡ with_downs l.k l.send before
      → l.sessions ≡ with_downs l.k (take l.left l.send) before;
}

abbrev pub decreases-loop-left : goal.decreases-loop-left
decreases-loop-left l = l.left
