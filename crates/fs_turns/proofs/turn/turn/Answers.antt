use Rattle.std.proofs.Common.{subst, List, ℕ}
use Rattle.std.specs.Io.KnownBytes.{Appends}
use Rattle.fs_io.specs.Bytes.{IsPrefixWritten}
use Rattle.fs_turns.specs.Run.{Due, IsSent, Outside}
use Rattle.fs_turns.proofs.Turns.{turn_cut, turn_done}
use Rattle.fs_turns.proofs.turn.turn.Goals as goal

pub returns-in-Ok-clause-turn : goal.returns-in-Ok-clause-turn
returns-in-Ok-clause-turn g c =
    let readings = g.C.Clock.readings in
    let calls = g.L.Link.calls in
    let written = g.K.Sink.written in
    let o : Outside = record { readings = readings c.args.clock.now; calls = calls c.args.link.now; written = written c.args.out.now } in
    let p : Outside = record { readings = readings c.taken.new.clock; calls = calls c.send_all.new.link; written = written c.write_all.new.out } in
    let sent = subst (λ (ds : List Due). IsSent ds c.taken.new.counts.send_faults c.send_all.new.faults (calls c.taken.new.link) (calls c.send_all.new.link)) c.as_slice.ensures c.send_all.ensures in
    turn_done g.A.Actor.step (record { actor = c.args.actor.now; counts = c.args.counts.now }) (record { actor = c.taken.new.actor; counts = c.taken.new.counts }) c.in_ok-taken.taken.due c.in_ok-taken.taken.lines.items o p (calls c.taken.new.link) c.send_all.new.faults c.in_ok-taken.ensures.ok sent
    (subst (λ (xs : List ℕ). Appends (written c.args.out.now) (written c.write_all.new.out) xs) c.deref.ensures.value c.in-Ok.ensures.ok)

pub returns-clause-cut : goal.returns-clause-cut
returns-clause-cut g c = λ h.
    let readings = g.C.Clock.readings in
    let calls = g.L.Link.calls in
    let written = g.K.Sink.written in
    let o : Outside = record { readings = readings c.args.clock.now; calls = calls c.args.link.now; written = written c.args.out.now } in
    let p : Outside = record { readings = readings c.taken.new.clock; calls = calls c.send_all.new.link; written = written c.write_all.new.out } in
    let sent = subst (λ (ds : List Due). IsSent ds c.taken.new.counts.send_faults c.send_all.new.faults (calls c.taken.new.link) (calls c.send_all.new.link)) c.as_slice.ensures c.send_all.ensures in
    turn_cut g.A.Actor.step (record { actor = c.args.actor.now; counts = c.args.counts.now }) (record { actor = c.taken.new.actor; counts = c.taken.new.counts }) c.in_ok-taken.taken.due c.in_ok-taken.taken.lines.items o p (calls c.taken.new.link) c.taken.new.counts.send_faults c.send_all.new.faults c.in_ok-taken.ensures.ok sent
    (subst (λ (xs : List ℕ). IsPrefixWritten (written c.args.out.now) (written c.write_all.new.out) xs) c.deref.ensures.value c.in-Err.ensures.some)
