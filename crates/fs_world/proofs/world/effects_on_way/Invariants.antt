use Rattle.std.proofs.Common.{◌≡◌, take}
use Rattle.fs_serial.specs.Joined.{effects_on_way}
use Rattle.fs_world.proofs.world.effects_on_way.Given as goal

abbrev pub invariant-loop-f : goal.invariant-loop-f
invariant-loop-f l = l.effects ≡ effects_on_way (take l.f-index l.in_flight)
