use Rattle.std.proofs.Common.{◌≡◌, ◌-◌}
use Rattle.fs_wire.specs.Readers.{many_at}
use Rattle.fs_wire.proofs.Loop.{with_front}
use Rattle.fs_wire.proofs.lists.many_of.Given as goal

abbrev pub invariant-loop : goal.invariant-loop
invariant-loop g l = with_front l.items (many_at g.T.Wire.at (l.count - l.counter) l.rest) ≡ many_at g.T.Wire.at l.count l.bytes
