use Rattle.std.proofs.Common.{◌≡◌, ◌++◌, drop}
use Rattle.fs_server.specs.Reaps.{recalls_for}
use Rattle.fs_server.proofs.reaps.recalls_for.Given as goal

abbrev pub invariant-loop-no : goal.invariant-loop-no
invariant-loop-no l = l.send ++ recalls_for l.at.rows (drop l.no-index l.blockers) ≡ recalls_for l.at.rows l.blockers
