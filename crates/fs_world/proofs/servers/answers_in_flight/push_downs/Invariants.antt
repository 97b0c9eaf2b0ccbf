use Rattle.std.proofs.Common.{◌≡◌, ◌-◌, ◌≤◌, length, take}
use Rattle.fs_world.specs.Served.{with_downs}
use Rattle.fs_world.proofs.servers.answers_in_flight.push_downs.Given as goal

abbrev pub invariant-loop-pushed : goal.invariant-loop-pushed
invariant-loop-pushed l = record {
  within : l.pushed ≤ length l.send;
  sessions : l.sessions ≡ with_downs l.k (take l.pushed l.send) l.fn.sessions;
}

abbrev pub decreases-loop-pushed : goal.decreases-loop-pushed
decreases-loop-pushed l = length l.send - l.pushed
