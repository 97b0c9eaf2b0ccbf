use Rattle.std.proofs.Common.{◌≡◌, map, take}
use Rattle.fs_txn.specs.Parts.{part_at}
use Rattle.fs_txn.proofs.parting.parts_at.Given as goal

abbrev pub invariant-loop-at : goal.invariant-loop-at
invariant-loop-at l = l.told ≡ map (part_at l.mode l.op l.file l.uses) (take l.at-index l.files)
