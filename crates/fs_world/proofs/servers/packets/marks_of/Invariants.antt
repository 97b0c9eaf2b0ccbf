use Rattle.std.proofs.Common.{◌≡◌, ◌++◌, drop, map, false}
use Rattle.fs_window.specs.declared.sent.Sent.{Sent}
use Rattle.fs_world.proofs.servers.packets.marks_of.Given as goal

abbrev pub invariant-loop : goal.invariant-loop
invariant-loop l = l.marks ++ map (λ (x : Sent). false) (drop l.index l.packets) ≡ map (λ (x : Sent). false) l.packets
