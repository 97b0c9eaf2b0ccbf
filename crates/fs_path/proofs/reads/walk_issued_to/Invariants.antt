use Rattle.std.proofs.Common.{◌≡◌, drop}
use Rattle.fs_path.specs.Tables.{issued_to}
use Rattle.fs_path.proofs.reads.walk_issued_to.Given as goal

abbrev pub invariant-loop-l : goal.invariant-loop-l
invariant-loop-l l = issued_to l.no l.issued ≡ issued_to l.no (drop l.l-index l.issued)
