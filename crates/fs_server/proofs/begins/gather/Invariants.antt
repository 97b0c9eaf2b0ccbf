use Rattle.std.proofs.Common.{◌≡◌, drop}
use Rattle.fs_server.specs.Begins.{first_round, rounds}
use Rattle.fs_server.specs.Gathered.{gathered_by}
use Rattle.fs_server.proofs.begins.gather.Given as goal

abbrev pub invariant-loop-i : goal.invariant-loop-i
invariant-loop-i l = rounds l.txn l.i l.by (drop l.i l.parts) (gathered_by l.gathered l.txn l.at) ≡ rounds l.txn 0 l.by l.parts (first_round l.at)
