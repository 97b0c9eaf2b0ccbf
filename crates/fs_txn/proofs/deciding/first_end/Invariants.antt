use Rattle.std.proofs.Common.{◌≡◌, drop}
use Rattle.fs_txn.specs.Deciding.{first_end}
use Rattle.fs_txn.proofs.deciding.first_end.Given as goal

abbrev pub invariant-loop-vote : goal.invariant-loop-vote
invariant-loop-vote l = first_end l.votes ≡ first_end (drop l.vote-index l.votes)
