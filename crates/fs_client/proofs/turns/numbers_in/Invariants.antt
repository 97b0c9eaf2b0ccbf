use Rattle.std.proofs.Common.{◌≡◌, take, map}
use Rattle.fs_client.proofs.turns.numbers_in.Given as goal

abbrev pub invariant-loop-pair : goal.invariant-loop-pair
invariant-loop-pair l = l.numbers ≡ map (λ pair. pair.1) (take l.pair-index l.pairs)
