use Rattle.std.proofs.Common.{◌≡◌, length}
use Rattle.fs_turns.proofs.Turns.{IsSoFar}
use Rattle.fs_turns.specs.Run.{Outside}
use Rattle.fs_turns.proofs.running.run.Given as goal

abbrev pub invariant-loop : goal.invariant-loop
invariant-loop g l =
    let before : Outside = record { readings = g.C.Clock.readings l.initial.clock; calls = g.L.Link.calls l.initial.link; written = g.K.Sink.written l.initial.out } in
    let now : Outside = record { readings = g.C.Clock.readings l.clock; calls = g.L.Link.calls l.link; written = g.K.Sink.written l.out } in
    IsSoFar g.A.Actor.is_over g.A.Actor.step l.counter (record { actor = l.initial.actor; counts = l.initial.counts }) (record { actor = l.actor; counts = l.counts }) before now × (length l.buf ≡ 1100) × (g.K.Sink.faults l.out ≡ g.K.Sink.faults l.initial.out)
