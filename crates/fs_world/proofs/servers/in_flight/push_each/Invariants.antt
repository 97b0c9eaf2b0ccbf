use Rattle.std.proofs.Common.{◌≡◌, ◌++◌, drop, length, take}
use Rattle.fs_serial.specs.Cluster.{in_flight_from}
use Rattle.fs_world.proofs.servers.in_flight.push_each.Given as goal

-- the messages so far, and then those that are left, are all of them
abbrev pub invariant-loop-sent : goal.invariant-loop-sent
invariant-loop-sent l = record {
  in_flight : l.in_flight ++ in_flight_from l.k (drop l.sent-index l.send) ≡ l.fn.in_flight ++ in_flight_from l.k l.send;
  front : take (length l.fn.in_flight) l.in_flight ≡ l.fn.in_flight;
}
