use Rattle.std.proofs.Common.{◌≡◌, take}
use Rattle.fs_client.proofs.turns.copies.Given as goal

abbrev pub invariant-loop-entry : goal.invariant-loop-entry
invariant-loop-entry l = l.twins ≡ take l.entry-index l.entries
