use Rattle.std.proofs.Common.{◌≡◌, ◌++◌, drop, take}
use Rattle.fs_client.specs.Turns.{entries_at}
use Rattle.fs_client.proofs.turns.count_at.Given as goal

abbrev pub invariant-loop-entry : goal.invariant-loop-entry
invariant-loop-entry l = record {
  passed : l.count ≡ l.entry-index;
  front : take l.entry-index l.log ++ entries_at l.at l.to (drop l.entry-index l.log) ≡ entries_at l.at l.to l.log;
}
