use Rattle.std.proofs.Common.{◌≡◌, map, take}
use Rattle.fs_msg.specs.declared.entry.Entry.{Entry}
use Rattle.fs_server.proofs.ships.numbers_of.Given as goal

abbrev pub invariant-loop-entry : goal.invariant-loop-entry
invariant-loop-entry l = l.numbers ≡ map (λ (e : Entry). e.n) (take l.entry-index l.entries)
