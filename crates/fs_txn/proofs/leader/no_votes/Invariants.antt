use Rattle.std.proofs.Common.{◌≡◌, take}
use Rattle.fs_txn.specs.Votes.{no_votes}
use Rattle.fs_txn.proofs.leader.no_votes.Given as goal

abbrev pub invariant-loop-part : goal.invariant-loop-part
invariant-loop-part l = l.votes ≡ no_votes (take l._part-index l.parts)
