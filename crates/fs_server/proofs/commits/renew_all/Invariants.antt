use Rattle.std.proofs.Common.{◌≡◌, drop}
use Rattle.fs_server.specs.Pairs.{renewed_rows}
use Rattle.fs_server.proofs.commits.renew_all.Given as goal

abbrev pub invariant-loop-no : goal.invariant-loop-no
invariant-loop-no l = renewed_rows l.until (drop l.no-index l.numbers) l.rows ≡ renewed_rows l.until l.numbers l.initial.rows
