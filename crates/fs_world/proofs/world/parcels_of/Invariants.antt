use Rattle.std.proofs.Common.{◌≡◌, ◌++◌, drop}
use Rattle.fs_serial.specs.Cluster.{parcels_of}
use Rattle.fs_world.proofs.world.parcels_of.Given as goal

abbrev pub invariant-loop-f : goal.invariant-loop-f
invariant-loop-f l = l.parcels ++ parcels_of (drop l.f-index l.in_flight) ≡ parcels_of l.in_flight
