use Rattle.std.proofs.Common.{◌≡◌, take}
use Rattle.fs_client.proofs.answers.first.Given as goal

abbrev pub invariant-loop-no : goal.invariant-loop-no
invariant-loop-no l = l.some ≡ take l.no-index l.no-items
