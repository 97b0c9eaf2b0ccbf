use Rattle.std.proofs.Common.{◌≡◌}
use Rattle.fs_serial.specs.Cluster.{first_servers}
use Rattle.fs_world.proofs.servers.world.new_servers.Given as goal

abbrev pub invariant-loop-me : goal.invariant-loop-me
invariant-loop-me l = l.servers ≡ first_servers l.me l.skew l.term
