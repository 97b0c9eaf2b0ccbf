use Rattle.std.proofs.Common.{◌≡◌, map, take}
use Rattle.fs_server.specs.Pairs.{end_told}
use Rattle.fs_server.proofs.pairs.ends_told.Given as goal

abbrev pub invariant-loop-no : goal.invariant-loop-no
invariant-loop-no l = l.told ≡ map (λ n. end_told l.until n l.at.rows) (take l.no-index l.numbers)
