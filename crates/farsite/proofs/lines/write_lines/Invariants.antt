use Rattle.std.proofs.Common.{◌≡◌, ◌≤◌, ◌-◌, length, take}
use Rattle.std.specs.Io.KnownBytes.{Appends}
use Rattle.farsite.proofs.lines.write_lines.Given as goal

abbrev pub invariant-loop-at : goal.invariant-loop-at
invariant-loop-at g l = (l.at ≤ length l.lines) × (g.K.Sink.faults l.out ≡ g.K.Sink.faults l.initial.out) × Appends (g.K.Sink.written l.initial.out) (g.K.Sink.written l.out) (take l.at l.lines)

abbrev pub decreases-loop-at : goal.decreases-loop-at
decreases-loop-at g l = length l.lines - l.at
