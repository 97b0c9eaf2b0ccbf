use Rattle.std.proofs.Common.{length, ◌-◌, ◌≤◌}
use Rattle.fs_world.specs.Packets.{first_undelivered}
use Rattle.fs_world.proofs.servers.packets.undelivered_from.Given as goal

abbrev pub invariant-loop-next : goal.invariant-loop-next
invariant-loop-next l = l.next ≤ first_undelivered l.delivered

abbrev pub decreases-loop-next : goal.decreases-loop-next
decreases-loop-next l = length l.delivered - l.next
