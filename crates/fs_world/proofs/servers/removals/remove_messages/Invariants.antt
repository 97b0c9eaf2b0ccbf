use Rattle.std.proofs.Common.{◌≡◌, drop}
use Rattle.fs_world.specs.Served.{flying_without_each}
use Rattle.fs_world.proofs.servers.removals.remove_messages.Given as goal

-- as many go yet as are left
abbrev pub invariant-loop : goal.invariant-loop
invariant-loop l = flying_without_each l.k l.from (drop l.index l.gone) l.in_flight ≡ flying_without_each l.k l.from l.gone l.fn.in_flight
