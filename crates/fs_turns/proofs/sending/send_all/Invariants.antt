use Rattle.std.proofs.Common.{take}
use Rattle.fs_turns.specs.Run.{IsSent}
use Rattle.fs_turns.proofs.sending.send_all.Given as goal

abbrev pub invariant-loop-to : goal.invariant-loop-to
invariant-loop-to g l = IsSent (take l.to-index l.due) l.initial.faults l.faults (g.L.Link.calls l.initial.link) (g.L.Link.calls l.link)
