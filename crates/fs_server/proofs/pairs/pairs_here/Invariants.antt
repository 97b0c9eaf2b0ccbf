use Rattle.std.proofs.Common.{◌≡◌, ◌++◌, drop}
use Rattle.fs_server.specs.Pairs.{numbers_in, pairs_end, pairs_here}
use Rattle.fs_server.proofs.pairs.pairs_here.Given as goal

abbrev pub invariant-loop-file : goal.invariant-loop-file
invariant-loop-file l = record {
  numbers : l.numbers ++ numbers_in (pairs_here l.at (drop l.file-index l.pairs)) ≡ numbers_in (pairs_here l.at l.pairs);
  end : pairs_end l.at (drop l.file-index l.pairs) ≡ pairs_end l.at l.pairs;
}
