use Rattle.std.proofs.Common.{◌≡◌, ◌++◌, drop}
use Rattle.fs_server.specs.Concludes.{tells}
use Rattle.fs_server.proofs.concludes.tell_all.Given as goal

abbrev pub invariant-loop-other : goal.invariant-loop-other
invariant-loop-other l = l.send ++ tells l.txn l.decision (drop l.other-index l.others) ≡ l.initial.send ++ tells l.txn l.decision l.others
