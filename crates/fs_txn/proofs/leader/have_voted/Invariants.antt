use Rattle.std.proofs.Common.{◌≡◌, drop}
use Rattle.fs_txn.specs.Votes.{is_full}
use Rattle.fs_txn.proofs.leader.have_voted.Given as goal

abbrev pub invariant-loop-vote : goal.invariant-loop-vote
invariant-loop-vote l = is_full l.votes ≡ is_full (drop l.vote-index l.votes)
