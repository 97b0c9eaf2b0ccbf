use Rattle.std.proofs.Common.{◌≡◌, ◌-◌, ◌++◌, drop}
use Rattle.fs_world.specs.Packets.{numbers_from}
use Rattle.fs_world.proofs.servers.send_due.numbers.Given as goal

-- the numbers so far, and then those that are left, are all of them
abbrev pub invariant-loop-number : goal.invariant-loop-number
invariant-loop-number l = l.all ++ numbers_from l.number (drop (l.number - l.from) l.packets) ≡ numbers_from l.from l.packets
