use Rattle.std.proofs.Common.{◌≡◌, drop}
use Rattle.fs_server.specs.Pairs.{released_rows}
use Rattle.fs_server.proofs.commits.release_all.Given as goal

abbrev pub invariant-loop-no : goal.invariant-loop-no
invariant-loop-no l = released_rows (drop l.no-index l.numbers) l.rows ≡ released_rows l.numbers l.initial.rows
