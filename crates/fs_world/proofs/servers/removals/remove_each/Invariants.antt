use Rattle.std.proofs.Common.{◌≡◌, drop}
use Rattle.fs_serial.specs.Cluster.{is_with}
use Rattle.fs_world.specs.Served.{without_each}
use Rattle.fs_world.proofs.servers.removals.remove_each.Given as goal

-- as many go yet as are left
abbrev pub invariant-loop : goal.invariant-loop
invariant-loop g l = without_each (drop l.index l.gone) (is_with l.k) l.messages ≡ without_each l.gone (is_with l.k) l.fn.messages
